-- Who sends a message: the law for any plain supply, applied to ours.
use mathlib.Core.Path.{refl}
use mathlib.Core.List.{List}
use Rattle.wire.specs.declared.Setup.{Setup}
use Rattle.wire.specs.Wire.{Delivery}
use Rattle.wire.specs.Messages.{Still, MessagesSent}
use Rattle.wire.proofs.Messages.{messages_sent}
use Rattle.supply.specs.declared.Supply.{Supply}
use Rattle.supply.proofs.Rings.{unrung}
use Rattle.plain.specs.Plain.{plain_supply}

still : Still plain_supply
still s = unrung s s refl refl

-- WHO SENDS A MESSAGE
pub supply_messages : (u : Setup) (ss : List Supply) (ds : List Delivery) → MessagesSent plain_supply u ss ds
supply_messages u ss ds = messages_sent plain_supply u still ss ds
