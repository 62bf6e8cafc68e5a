use mathlib.Core.Path.{refl}
use Prim.Native.Nat.{◌<◌, ◌^◌}
use native.Mathlib.Omega.{arith}
use borrow.Author.Rules.{rules}
use Rattle.models.proofs.Rules.{volts_small, amps_small}
use Rattle.resistance.specs.Cells.{cell_of}
use Rattle.resistance.proofs.cell_of.Goals as goal

-- a reading of a count of 16 bits fits in 32
pub cell_by-requires : goal.cell_by-requires
cell_by-requires c =
    let read = c.readings_of-read.ensures in
    let v : c.args.s.volt_count < 2 ^ 16 = search rules in
    let a : c.args.s.amp_count < 2 ^ 16 = search rules in
    (omega (arith, read.0, volts_small c.args.model _ v), omega (arith, read.1, amps_small c.args.model _ a))

pub returns : goal.returns
unfolding cell_of
returns c =
    let read = c.readings_of-read.ensures in
    rw (c.cell_by.ensures, c.is_on.ensures, read.0, read.1) refl
