-- WHAT DEMAND 3 GIVES A CHEMIST: a run repeats, whatever the neighbours do.
use Rattle.std.specs.Prelude.{ℕ, ◌≡◌, Bool, true, false, not, ◌&&◌, List, [], ◌∷◌, map, eqb}
use Rattle.wire.specs.Machine.{keep}
use Rattle.wire.specs.Wire.{Item, byte, event, Entry, Call, model_at, parse}
use Rattle.wire.specs.declared.Setup.{Setup}
use Rattle.wire.specs.Share.{items, share_of}
use Rattle.supply.specs.declared.Query.{Query}
use Rattle.supply.specs.Flt.{on_of}
use Rattle.answers.specs.Answers.{answer_of}
use Rattle.plain.specs.Plain.{grammar, reply_to}
use Rattle.plain.specs.Unaddressed.{unaddressed}
use Rattle.slots.specs.declared.Rack.{Rack}
use Rattle.isolation.specs.Demand3.{Run, supply_at}

-- the supply of model m at address a of one rack and the one at address b of another are indistinguishable: the whole
-- state, the output, the answer to every query and the reply to whatever comes next
pub record SameSupply (m : ℕ) (r : Rack) (a : ℕ) (r₂ : Rack) (b : ℕ) : Type 0 where
  pub state : supply_at r a ≡ supply_at r₂ b
  pub output : on_of (supply_at r a) ≡ on_of (supply_at r₂ b)
  pub answer : (q : Query) → answer_of m (supply_at r a) q ≡ answer_of m (supply_at r₂ b) q
  pub reply : (e : Entry) → reply_to m (supply_at r a) e ≡ reply_to m (supply_at r₂ b) e

-- equal shares: two runs, in any two racks, that gave supplies of the same model the same entries in the same order
abbrev pub SharesRepeat : Type 0
SharesRepeat =
    (u u₂ : Setup) (calls calls₂ : List Call) (r r₂ : Rack) (a b : ℕ)
    → Run u calls r → Run u₂ calls₂ r₂
    → (model_at u a ≡ 255 → ⊥)
    → model_at u a ≡ model_at u₂ b
    → share_of grammar u calls a ≡ share_of grammar u₂ calls₂ b
    → SameSupply (model_at u a) r a r₂ b

-- shares that are equal apart from the address in each field: the same, for supplies at two different addresses
abbrev pub UnaddressedSharesRepeat : Type 0
UnaddressedSharesRepeat =
    (u u₂ : Setup) (calls calls₂ : List Call) (r r₂ : Rack) (a b : ℕ)
    → Run u calls r → Run u₂ calls₂ r₂
    → (model_at u a ≡ 255 → ⊥)
    → model_at u a ≡ model_at u₂ b
    → map unaddressed (share_of grammar u calls a) ≡ map unaddressed (share_of grammar u₂ calls₂ b)
    → SameSupply (model_at u a) r a r₂ b

-- a call that does not concern slot a: it is refused, or it is a field of tags 2 to 5 for another address
abbrev pub elsewhere : ℕ → List Item → Bool
elsewhere a [] = true
elsewhere a (byte b ∷ is) = false
elsewhere a (event b e ∷ is) = not (eqb a b) && elsewhere a is

abbrev pub concerns : Setup → ℕ → Call → Bool
concerns u a c = not (elsewhere a (items (parse grammar u c)))

-- only the neighbours' fields differ: any fields of tags 2 to 5 to other slots and any refused calls, anywhere in the
-- list; the other calls are the same to the byte, including the lengths of their buffers
abbrev pub NeighboursMakeNoDifference : Type 0
NeighboursMakeNoDifference =
    (u : Setup) (calls calls₂ : List Call) (r r₂ : Rack) (a : ℕ)
    → Run u calls r → Run u calls₂ r₂
    → (model_at u a ≡ 255 → ⊥)
    → keep (concerns u a) calls ≡ keep (concerns u a) calls₂
    → SameSupply (model_at u a) r a r₂ a
