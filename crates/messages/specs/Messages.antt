-- The service messages of a field, from the registers that it found.
use Rattle.std.specs.Prelude.{ℕ, zero, suc, ◌+◌, ◌<◌, ◌≡◌, Bool, true, false, not, ◌&&◌, ◌||◌, List, [], ◌++◌, eqb, get_or}
use Rattle.base.specs.Choice.{pick}
use Rattle.wire.specs.Rack.{message}
use Rattle.supply.specs.declared.Supply.{Supply}
use Rattle.supply.specs.State.{fresh}
use Rattle.supply.specs.With.{with_feve, with_seve}
use Rattle.supply.specs.Rings.{rings_of}
use Rattle.messages.specs.declared.Found.{Found}

-- what the supply at address a sends, if FEVE and SEVE were these before the field
abbrev pub sends_by : ℕ → ℕ → ℕ → Supply → List ℕ
sends_by a feve seve s = pick (rings_of (with_feve feve (with_seve seve s)) s) (message a) []

-- the registers of 31 slots as bytes: first FEVE of each, then SEVE of each
abbrev pub feve_in : List ℕ → ℕ → ℕ
feve_in kept a = get_or kept a 0

abbrev pub seve_in : List ℕ → ℕ → ℕ
seve_in kept a = get_or kept (31 + a) 0

abbrev pub slot_at : List Supply → ℕ → Supply
slot_at ss a = get_or ss a (fresh 255)

-- what the first n slots send, lowest address first, if their registers were the kept ones before the field
abbrev pub messages_by : ℕ → List ℕ → List Supply → List ℕ
messages_by zero kept ss = []
messages_by (suc n) kept ss = messages_by n kept ss ++ sends_by n (feve_in kept n) (seve_in kept n) (slot_at ss n)

-- the supply in the slot kept still holds the registers found there, and no other has changed
abbrev pub unchanged : Found → Supply → Bool
unchanged f was = (not f.many && eqb was.feve f.feve) && eqb was.seve f.seve

-- a field begins with slot k
abbrev pub found_at : ℕ → Supply → Found
found_at k s = record { slot = k; feve = s.feve; seve = s.seve; many = false }

-- it leaves the slot kept when it is about to change another one, or all
abbrev pub leaves_slot : Found → ℕ → Bool → Bool
leaves_slot f k all = not f.many && (all || not (eqb k f.slot))

-- and has left it
abbrev pub gone : Found → Found
gone f = record { slot = f.slot; feve = f.feve; seve = f.seve; many = true }

-- the kept registers are those of the slots, with what the field found in the one slot that it has changed
abbrev pub Recorded : List ℕ → Found → List Supply → Type 0
Recorded kept f ss =
    (a : ℕ) → a < 31
    → (feve_in kept a ≡ pick (eqb a f.slot) f.feve (slot_at ss a).feve)
    × (seve_in kept a ≡ pick (eqb a f.slot) f.seve (slot_at ss a).seve)
