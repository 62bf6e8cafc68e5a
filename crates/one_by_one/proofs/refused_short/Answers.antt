use mathlib.Core.Path.{sym, ◌∙◌}
use borrow.Author.Tests.{eq-eqb}
use Rattle.one_by_one.proofs.Cycles.{never_taken, short_right}
use Rattle.one_by_one.proofs.refused_short.Goals as goal

pub returns-in-Ok : goal.returns-in-Ok
returns-in-Ok c = absurd (never_taken c.args.r c.args.s.now c.in-Ok.field-0 _ c.in-Ok.ensures)

pub returns-then-from-eq1 : goal.returns-then-from-eq1
returns-then-from-eq1 c = c.unwritten.ensures.1 (short_right c.args.r c.args.s.now c.in-Err.refusal _ c.in-Err.ensures).1

pub returns-else-from-eq1 : goal.returns-else-from-eq1
returns-else-from-eq1 c = eq-eqb c.from.result 1 (c.from.ensures ∙ (short_right c.args.r c.args.s.now c.in-Err.refusal _ c.in-Err.ensures).0)
