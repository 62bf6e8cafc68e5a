-- WHAT A CALL DOES: all that it returns, the rack and every byte of the reply buffer, for any rack, bytes and buffer.
use Rattle.std.specs.Prelude.{ℕ, ◌≡◌, Result, Ok, Err, List, ◌++◌, length, drop}
use Rattle.wire.specs.Wire.{Call}
use Rattle.wire.specs.Rack.{call_of}
use Rattle.wire.specs.Rack as wire
use Rattle.supply.specs.declared.Supply.{Supply}
use Rattle.plain.specs.Plain.{plain_supply}
use Rattle.slots.specs.declared.Rack.{Rack}
use Rattle.slots.specs.View.{view_of, Able}
use Rattle.field.specs.declared.Refusal.{Refusal}
use Rattle.field.specs.Refusals.{refusal_number}
use Rattle.calls.specs.declared.Called.{Called}

-- an answer as the papers number it: the number of the refusal, or 0; the rack; the bytes used; the length of the reply
pub record Answer : Type 0 where
  pub code : ℕ
  pub rack : Rack
  pub used : ℕ
  pub length : ℕ

-- a refusal: its number, the very same rack, nothing used, no reply
abbrev pub refusal : Rack → ℕ → Answer
refusal r n = record { code = n; rack = r; used = 0; length = 0 }

-- the answer that a call on the rack r gives
abbrev pub answer_told : Rack → Result Called Refusal → Answer
answer_told r (Ok c) = record { code = 0; rack = c.rack; used = c.used; length = c.length }
answer_told r (Err e) = refusal r (refusal_number e)

-- an accepted field: code 0, the rack q, the bytes used, and the reply t at the start of the buffer with the rest
-- untouched
pub record Accepted (q : wire.Rack Supply) (used : ℕ) (t b : List ℕ) (a : Answer) (b' : List ℕ) : Type 0 where
  pub code_is : a.code ≡ 0
  pub used_is : a.used ≡ used
  pub small : Able a.rack
  pub rack_is : view_of a.rack ≡ q
  pub length_is : a.length ≡ length t
  pub buffer_is : b' ≡ t ++ drop (length t) b

-- A refusal is described for any rack; what an accepted field does, for a rack whose line has at most 64 characters, as
-- in every rack reached by a fitting list and calls.
abbrev pub Answered : Rack → List ℕ → wire.CallResult Supply → Answer → List ℕ → Type 0
Answered r b (wire.refused n) a b' = (a ≡ refusal r n) × (b' ≡ b)
Answered r b (wire.done q used t) a b' = Able r → Accepted q used t b a b'

abbrev pub call_as : List ℕ → List ℕ → Call
call_as bytes b = record { bytes = bytes; room = length b }

abbrev pub CallDoes : Rack → List ℕ → List ℕ → Answer → List ℕ → Type 0
CallDoes r bytes b a b' = Answered r b (call_of plain_supply (view_of r) (call_as bytes b)) a b'
