use Rattle.std.proofs.Common.{true, false, refl, sym, ◌∙◌, arith}
use Rattle.leads.specs.Gauges.{table, row_at}
use Rattle.leads.specs.Advice.{some_suits}
use Rattle.leads.proofs.Rows.{row_le, some_here, some_on, some_end}
use Rattle.leads.proofs.Answers.{chosen_by, row_suits, none_suitable}
use Rattle.leads.proofs.choose.Goals as goal

pub loop-row-init : goal.loop-row-init
unfolding some_suits
loop-row-init c = refl

pub within_limit-requires : goal.within_limit-requires
unfolding row_at table
within_limit-requires c =
    let i = c.loop-row.row-index in
    (omega arith, (omega (arith, row_le i c.loop-row-test.true (row_at i) refl), omega arith))

pub returns-then-within_limit : goal.returns-then-within_limit
unfolding row_at table
returns-then-within_limit c =
    let ma = c.args.ma in
    let mm = c.args.mm in
    let i = c.loop-row.row-index in
    let within = sym c.within_limit.ensures ∙ c.if-within_limit.true in (
      chosen_by ma mm _ true (sym c.loop-row.invariant ∙ some_here ma mm i c.loop-row-test.true (row_at i) refl within),
      row_suits ma mm i c.loop-row-test.true (row_at i) refl within,
    )

pub loop-row-preserved : goal.loop-row-preserved
unfolding row_at table
loop-row-preserved c =
    let i = c.loop-row.row-index in
    let past = sym c.within_limit.ensures ∙ c.if-within_limit.false in
    sym (some_on c.args.ma c.args.mm i c.loop-row-test.true (row_at i) refl past) ∙ c.loop-row.invariant

pub returns : goal.returns
returns c =
    let none = sym c.loop-row.invariant ∙ some_end c.args.ma c.args.mm c.loop-row.row-index c.loop-row-test.false in
    (chosen_by c.args.ma c.args.mm 255 false none, none_suitable c.args.ma c.args.mm 255 none)
