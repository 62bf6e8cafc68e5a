use borrow.Author.Rules.{rules}
use Rattle.std.proofs.Common.{◌≡◌, ◌<◌, ◌∙◌, length, refl, ap, arith}
use Rattle.base.proofs.Lists.{get_d_any}
use Rattle.supply.specs.declared.Supply.{Supply}
use Rattle.supply.specs.State.{fresh}
use Rattle.messages.proofs.Kept.{unset, kept_none, kept_more, kept_all}
use Rattle.messages.proofs.keep_registers.Goals as goal

pub loop-i-init : goal.loop-i-init
loop-i-init c = record { inside = omega arith; size = refl; so_far = λ e. kept_none _ _ }

pub loop-i-preserved : goal.loop-i-preserved
loop-i-preserved c =
    let l = c.loop-i in
    let inside : l.i < length c.args.slots = search rules in
    record {
      inside = omega arith;
      size = search rules;
      so_far = λ e. kept_more l.i l.kept c.args.slots _ _ (omega arith) (l.invariant.size ∙ e) (l.invariant.so_far e)
          (ap (λ (s : Supply). s.feve) (get_d_any c.args.slots l.i unset (fresh 255) inside))
          (ap (λ (s : Supply). s.seve) (get_d_any c.args.slots l.i unset (fresh 255) inside));
    }

pub returns : goal.returns
returns c =
    let l = c.loop-i in
    let full : l.i ≡ 31 = omega arith in
    (search rules, λ e. kept_all l.kept c.args.slots c.args.f c.requires (l.invariant.size ∙ e) (rw full at (l.invariant.so_far e)))
