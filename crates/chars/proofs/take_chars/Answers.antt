use Rattle.std.proofs.Common.{◌≡◌, length, ◌∙◌, arith}
use borrow.Author.Tests.{ne_eqb}
use Rattle.serial.specs.View.{line_of}
use Rattle.chars.proofs.Chars.{typing_more}
use Rattle.chars.proofs.take_chars.Goals as goal

pub loop-i-preserved : goal.loop-i-preserved
loop-i-preserved c =
    let l = c.loop-i in
    let d = c.take_char-taken.ensures in
    record {
      same = d.same ∙ l.invariant.same;
      typed = λ w a h. typing_more _ (line_of l.kept l.count l.spoiled a) _ _ l.i (omega arith) (ne_eqb _ 13 c.if-b-eq-CARRIAGE_RETURN.false) (l.invariant.typed w a h) (λ g. d.typed (l.invariant.same ∙ w) a g);
    }

pub returns-then-b-eq-CARRIAGE_RETURN : goal.returns-then-b-eq-CARRIAGE_RETURN
returns-then-b-eq-CARRIAGE_RETURN c =
    let l = c.loop-i in
    record { same = l.invariant.same; chars = λ a. record { within = omega arith; stops = λ h. c.if-b-eq-CARRIAGE_RETURN.true; typed = λ w h. l.invariant.typed w a h } }

pub returns : goal.returns
returns c =
    let l = c.loop-i in
    let end : l.i ≡ length c.args.p.now = omega arith in
    record { same = l.invariant.same; chars = λ a. record { within = omega arith; stops = λ h. absurd (omega arith); typed = λ w h. rw (← end) (l.invariant.typed w a h) } }
