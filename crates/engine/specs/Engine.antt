-- FIELDS IN TURN, up to a refusal or a full buffer: the defining function, and what the code has to do with it.
use Rattle.std.specs.Prelude.{ℕ, zero, suc, ◌+◌, ◌≡◌, Bool, false, not, List, [], ◌∷◌, ◌++◌, map, ltb, length, drop}
use Rattle.base.specs.Choice.{pick}
use Rattle.buffers.specs.Printed.{printed}
use Rattle.wire.specs.Wire.{Call, refuse, fitted}
use Rattle.wire.specs.Rack.{refused, done, call_of}
use Rattle.wire.specs.Rack as wire
use Rattle.supply.specs.declared.Supply.{Supply}
use Rattle.field.specs.Fields.{read_field}
use Rattle.field.specs.Refusals.{refusal_code}
use Rattle.plain.specs.Plain.{plain_supply, least_reply}
use Rattle.slots.specs.declared.Rack.{Rack}
use Rattle.slots.specs.View.{view_of, Able}
use Rattle.engine.specs.declared.Worked.{Worked}

-- the call that works the first field of the bytes
abbrev pub field_at : List ℕ → Call
field_at s = record { bytes = s; room = least_reply }

-- fields worked: the rack after them, the bytes used, what they said, and the number of the refusal of the next field,
-- or 0
pub record Ran : Type 0 where
  pub rack : wire.Rack Supply
  pub used : ℕ
  pub said : List ℕ
  pub code : ℕ

abbrev pub ran : wire.Rack Supply → ℕ → List ℕ → ℕ → Ran
ran v used said code = record { rack = v; used = used; said = said; code = code }

-- the next field after those worked: if it is refused, they end there; otherwise they go on, unless what they have said
-- so far stops them
abbrev pub after_field :
    (wire.Rack Supply → ℕ → List ℕ → Ran) → (ℕ → Bool)
    → wire.Rack Supply → ℕ → List ℕ → wire.CallResult Supply → Ran
after_field go stop v used said (refused n) = ran v used said n
after_field go stop v used said (done q k t) =
    pick (stop (length (said ++ t))) (ran q (used + k) (said ++ t) 0) (go q (used + k) (said ++ t))

-- at most n further fields of the bytes s, after fields that used `used` of the bytes and said `said`
abbrev pub fields_from : ℕ → (ℕ → Bool) → List ℕ → wire.Rack Supply → ℕ → List ℕ → Ran
fields_from zero stop s v used said = ran v used said 0
fields_from (suc n) stop s v used said =
    after_field (fields_from n stop s) stop v used said (call_of plain_supply v (field_at (drop used s)))

-- FIELDS IN TURN on the rack v: each has at least one byte, so there are no more fields than bytes
abbrev pub fields_on : (ℕ → Bool) → wire.Rack Supply → List ℕ → Ran
fields_on stop v s = fields_from (suc (length s)) stop s v 0 []

-- THE CALLS to which fields in turn amount: one for each accepted field
abbrev pub calls_after :
    (wire.Rack Supply → ℕ → List ℕ → List Call) → (ℕ → Bool)
    → List ℕ → ℕ → List ℕ → wire.CallResult Supply → List Call
calls_after go stop s used said (refused n) = []
calls_after go stop s used said (done q k t) =
    field_at (drop used s) ∷ pick (stop (length (said ++ t))) [] (go q (used + k) (said ++ t))

abbrev pub calls_from : ℕ → (ℕ → Bool) → List ℕ → wire.Rack Supply → ℕ → List ℕ → List Call
calls_from zero stop s v used said = []
calls_from (suc n) stop s v used said =
    calls_after (calls_from n stop s) stop s used said (call_of plain_supply v (field_at (drop used s)))

abbrev pub calls_on : (ℕ → Bool) → wire.Rack Supply → List ℕ → List Call
calls_on stop v s = calls_from (suc (length s)) stop s v 0 []

-- all fields up to the one that is refused, at the latest because the bytes run out
abbrev pub never : ℕ → Bool
never n = false

abbrev pub all_fields : wire.Rack Supply → List ℕ → Ran
all_fields v s = fields_on never v s

-- whether what is said reaches the index `full` of a buffer
abbrev pub full_at : ℕ → ℕ → Bool
full_at full n = not (ltb n full)

-- The rack, the bytes used and the code are those of fields in turn. All that they said stands at the start of the
-- buffer, with the byte `ending` for each CR; the rest of the buffer is unchanged.
pub record WorkDoes (r : Rack) (s b : List ℕ) (full ending : ℕ) (w : Worked) (b' : List ℕ) : Type 0 where
  pub small : Able w.rack
  pub said : List ℕ
  pub is : ran (view_of w.rack) w.used said (refusal_code w.refusal) ≡ fields_on (full_at full) (view_of r) s
  pub next_is : w.next ≡ length said
  pub buffer_is : b' ≡ map (printed ending) said ++ drop (length said) b

-- for any rack: if the first field is refused, everything stays as it was
abbrev pub RefusedFirst : Rack → List ℕ → List ℕ → Worked → List ℕ → Type 0
RefusedFirst r s b w b' =
    (n : ℕ) → read_field (fitted r.setup) s ≡ refuse n
    → (w.rack ≡ r) × (w.used ≡ 0) × (w.next ≡ 0) × (refusal_code w.refusal ≡ n) × (b' ≡ b)
