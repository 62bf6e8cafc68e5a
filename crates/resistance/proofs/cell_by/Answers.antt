use mathlib.Core.Path.{refl}
use Rattle.resistance.specs.Cells.{metered_of}
use Rattle.resistance.proofs.cell_by.Goals as goal

pub returns : goal.returns
unfolding metered_of
returns c = rw (c.resistance_of-resistance.ensures, c.quotient.ensures, c.quotient-2.ensures) refl
