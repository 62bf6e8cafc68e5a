-- What a line asks, with the error codes as the papers number them.
use Rattle.std.specs.Prelude.{ℕ}
use Rattle.supply.specs.declared.Order.{Order}
use Rattle.supply.specs.declared.Act.{Act}

-- to select an address, or an ADR in error; an order to every fitted supply, or a global line in error, which nobody
-- takes; an act of one supply; or a line in error
pub data Asks : Type 0 where
  Select : ℕ → Asks
  BadSelect : ℕ → Asks
  Everyone : Order → Asks
  Nobody : Asks
  One : Act → Asks
  Error : ℕ → Asks
