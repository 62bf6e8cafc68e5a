-- A global, as it reaches the slot at an address.
use Rattle.std.specs.Prelude.{ℕ}
use Rattle.base.specs.Choice.{pick}
use Rattle.wire.specs.declared.Setup.{Setup}
use Rattle.wire.specs.Wire.{model_at, fitted}
use Rattle.supply.specs.declared.Supply.{Supply}
use Rattle.supply.specs.declared.Order.{Order}
use Rattle.supply.specs.declared.Act.TheVariants.{Obey}
use Rattle.acts.specs.Acts.{performed}

-- an order to every fitted slot; each supply judges it for itself
abbrev pub ordered_at : Setup → Order → ℕ → Supply → Supply
ordered_at u o a s = pick (fitted u a) (performed (model_at u a) s (Obey o)) s
