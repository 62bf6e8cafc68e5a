use Rattle.std.proofs.Common.{sym, ◌∙◌}
use Rattle.leads.proofs.Answers.{both_in, current_out, advised, outside}
use Rattle.leads.proofs.gauge_for.Goals as goal
use Rattle.leads.proofs.gauge_for.Goals.{else-in_range-via-then-in_range+else-in_range-2, else-in_range-via-else-in_range}

pub returns-then-in_range-2 : goal.returns-then-in_range-2
returns-then-in_range-2 c =
    let ma = c.args.ma in
    let mm = c.args.mm in
    let current = sym c.in_range.ensures ∙ c.if-in_range.true in
    let length = sym c.in_range-then-in_range.ensures ∙ c.if-in_range-2.true in
    (advised ma mm c.choose.result (both_in ma mm current length) c.choose.ensures.0, c.choose.ensures.1)

pub returns-else-in_range : goal.returns-else-in_range
returns-else-in_range c =
    let ma = c.args.ma in
    let mm = c.args.mm in
    let is = sym c.in_range.ensures in
    outside ma mm 255
    (elim c.else-in_range.branch [
      | else-in_range-via-then-in_range+else-in_range-2 w ↦ both_in ma mm (is ∙ w.if-in_range.true) (sym w.in_range-then-in_range.ensures ∙ w.if-in_range-2.false)
      | else-in_range-via-else-in_range w ↦ current_out ma mm (is ∙ w.if-in_range.false)
    ])
