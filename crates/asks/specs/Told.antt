-- What a line asks as the code gives it, with error codes of its own.
use Rattle.std.specs.Prelude.{◌≡◌, Result, Ok, Err, IfOk}
use Rattle.supply.specs.declared.ErrorCode.{ErrorCode}
use Rattle.supply.specs.declared.Order.{Order}
use Rattle.supply.specs.declared.Act.TheVariants.{Obey}
use Rattle.supply.specs.ErrorCodes.{code_byte, code_told}
use Rattle.parameters.specs.Parameters.{Parameter}
use Rattle.asks.specs.declared.Asks as code
use Rattle.asks.specs.declared.Asks.TheVariants as code_asks
use Rattle.asks.specs.Asks.{Asks, Select, BadSelect, Everyone, Nobody, One, Error}
use Rattle.asks.specs.Words.{OrderWord, order_with}

-- the same with each error code as its byte
abbrev pub asks_told : code.Asks → Asks
asks_told (code_asks.Select a) = Select a
asks_told (code_asks.BadSelect e) = BadSelect (code_byte e)
asks_told (code_asks.Everyone o) = Everyone o
asks_told code_asks.Nobody = Nobody
asks_told (code_asks.One a) = One a
asks_told (code_asks.Error e) = Error (code_byte e)

-- an order to one supply and to every fitted supply, or what stands for it if its parameter is in error
abbrev pub one_told : Result Order ErrorCode → Asks
one_told (Ok o) = One (Obey o)
one_told (Err e) = Error (code_byte e)

abbrev pub all_told : Result Order ErrorCode → Asks
all_told (Ok o) = Everyone o
all_told (Err e) = Nobody

-- an order read with a parameter: the error code is that of the parameter, and the order has the parameter's value
abbrev pub OrderRead : OrderWord → Parameter → Result Order ErrorCode → Type 0
OrderRead w p r = (code_told r ≡ p.code) × IfOk r (λ o. o ≡ order_with w p.value)

-- an order whose word takes no parameter
abbrev pub BareRead : Order → Parameter → Result Order ErrorCode → Type 0
BareRead o p r = (code_told r ≡ p.code) × IfOk r (λ q. q ≡ o)
