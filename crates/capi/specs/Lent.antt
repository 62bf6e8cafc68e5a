-- A CALL ON A LENT RACK: the answer of `call`, with its rack in the caller's memory and the rest returned.
use Rattle.slots.specs.declared.Rack.{Rack}
use Rattle.calls.specs.Calls.{Answer}
use Rattle.capi.specs.declared.Done.{Done}

-- the answer of `call`: what was returned, together with the rack as the call left it
abbrev pub answer_with : Done → Rack → Answer
answer_with d r = record { code = d.code; rack = r; used = d.used; length = d.length }
