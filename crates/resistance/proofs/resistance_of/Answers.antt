use mathlib.Core.Path.{refl}
use borrow.Author.Tests.{eq-eqb, ne_eqb}
use Rattle.resistance.specs.Cells.{resistance_of}
use Rattle.resistance.proofs.resistance_of.Goals as goal

pub returns-then-not-on : goal.returns-then-not-on
unfolding resistance_of
returns-then-not-on c = rw c.if-not-on.true refl

pub returns-then-ma-eq0 : goal.returns-then-ma-eq0
unfolding resistance_of
returns-then-ma-eq0 c = rw (c.if-not-on.false, eq-eqb _ 0 c.if-ma-eq0.true) refl

pub returns : goal.returns
unfolding resistance_of
returns c = rw (c.if-not-on.false, ne_eqb _ 0 c.if-ma-eq0.false, c.quotient.ensures) refl
