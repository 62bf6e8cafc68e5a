use mathlib.Core.Path.{◌≡◌, ap, ◌∙◌}
use mathlib.Core.Bool.{not}
use Rattle.calls.specs.Calls.{answer_told}
use Rattle.one_by_one.specs.Called.{Unwritten, answer_in}
use Rattle.one_by_one.proofs.Cycles.{never_wrong, called}
use Rattle.one_by_one.proofs.take_field.Goals as goal
use Rattle.one_by_one.proofs.take_field.Goals.{Then-not-right-unwritten}

-- the branch that says `wrong` is never taken
never : (c : Then-not-right-unwritten) → ⊥
never c =
    let f = c.fill.ensures in
    never_wrong c.args.r c.args.s.now c.fill.new.reply (answer_told c.args.r c.call.result) c.call.new.reply (f.0 ∙ c.requires.1) c.call.ensures c.requires.0 f.1
    c.refused_short-right.result c.unwritten.result c.refused_short-right.ensures
    (λ u. c.unwritten.ensures.1 (rw c.outcome_of-outcome.ensures u)) (ap not c.if-not-right-unwritten.true)

pub returns-then-not-right-unwritten-clause-call : goal.returns-then-not-right-unwritten-clause-call
returns-then-not-right-unwritten-clause-call c = absurd (never (goal.at.returns-then-not-right-unwritten-clause-call c).Then-not-right-unwritten)

pub returns-then-not-right-unwritten-clause-reads_on : goal.returns-then-not-right-unwritten-clause-reads_on
returns-then-not-right-unwritten-clause-reads_on c = absurd (never (goal.at.returns-then-not-right-unwritten-clause-reads_on c).Then-not-right-unwritten)
