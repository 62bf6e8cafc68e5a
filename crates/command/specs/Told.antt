-- What a line asks as the code gives it, with error codes of its own.
use Rattle.command.specs.declared.Heard as code
use Rattle.asks.specs.Told.{asks_told}
use Rattle.command.specs.Lines.{Heard}

-- the same with each error code as its byte
abbrev pub heard_told : code.Heard → Heard
heard_told h = record { asks = asks_told h.asks; checksummed = h.checksummed }
