use borrow.Author.Rules.{rules}
use Rattle.std.proofs.Common.{◌≤◌, ◌+◌, length, arith}
use Rattle.serial.specs.View.{line_of}
use Rattle.slots.proofs.Fairness.{sized}
use Rattle.pieces.proofs.Lines.{feed_within, no_line, one_line}
use Rattle.pieces.proofs.take_line.Goals as goal

pub returns-then-n-size : goal.returns-then-n-size
returns-then-n-size c =
    let z = c.args in
    let t = c.take_chars-t in
    (t.ensures.same, no_line z.u (line_of z.kept.now z.count z.spoiled z.selected) z.s z.p.now z.head z.buf.now z.at t.result.next _ (t.ensures.chars z.selected) c.if-n-size.true)

pub overflow_add-n : goal.overflow_add-n
overflow_add-n c =
    let t = c.take_chars-t in
    let m : t.result.next + 1 ≤ length c.args.p.now = omega (arith, (t.ensures.chars 0).within, c.if-n-size.false) in
    search rules

pub overflow_add-result-2 : goal.overflow_add-result-2
overflow_add-result-2 c =
    let t = c.take_chars-t in
    let m : t.result.next + 1 ≤ length c.args.p.now = omega (arith, (t.ensures.chars 0).within, c.if-n-size.false) in
    let high : c.past_feed-taken.result ≤ length c.args.p.now = (feed_within c.args.p.now (t.result.next + 1) c.past_feed-taken.result c.past_feed-taken.ensures m).1 in
    search rules

pub overflow_sub-result : goal.overflow_sub-result
overflow_sub-result c =
    let t = c.take_chars-t in
    let m : t.result.next + 1 ≤ length c.args.p.now = omega (arith, (t.ensures.chars 0).within, c.if-n-size.false) in
    (feed_within c.args.p.now (t.result.next + 1) c.past_feed-taken.result c.past_feed-taken.ensures m).1

pub returns : goal.returns
returns c =
    let z = c.args in
    let t = c.take_chars-t in
    let m = line_of z.kept.now z.count z.spoiled z.selected in
    let size = sized z.s (search rules) (search rules) (search rules) (search rules) (search rules) (search rules) in
    (t.ensures.same, one_line z.u m z.s z.p.now z.head z.buf.now z.at t.result.next _ (t.ensures.chars z.selected) c.if-n-size.false c.end_one-e.result _ size c.end_one-e.ensures _ c.past_feed-taken.ensures)
