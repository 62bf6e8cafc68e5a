-- The keys and targets by their numbers, as a field gives them.
use Rattle.std.specs.Prelude.{ℕ, eqb, Result, Ok, Err}
use Rattle.base.specs.Choice.{pick}
use Rattle.supply.specs.declared.Key.{Key}
use Rattle.supply.specs.declared.Key.TheVariants.{Output, Fold, Local}
use Rattle.supply.specs.declared.Target.{Target}
use Rattle.supply.specs.declared.Target.TheVariants.{Pv, Pc, Ovp, Uvl}
use Rattle.supply.specs.declared.NotListed.{NotListed}

abbrev pub unlisted : NotListed
unlisted = record {}

abbrev pub key_numbered : ℕ → Result Key NotListed
key_numbered n = pick (eqb n 0) (Ok Output) (pick (eqb n 1) (Ok Fold) (pick (eqb n 2) (Ok Local) (Err unlisted)))

abbrev pub target_numbered : ℕ → Result Target NotListed
target_numbered n =
    pick (eqb n 0) (Ok Pv) (pick (eqb n 1) (Ok Pc) (pick (eqb n 2) (Ok Ovp) (pick (eqb n 3) (Ok Uvl) (Err unlisted))))
