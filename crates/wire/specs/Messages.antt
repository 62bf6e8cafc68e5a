-- WHO SENDS A MESSAGE after a field: a supply that the field does not reach sends none, so if the field reaches one
-- slot alone, only that one has to be looked at.
use Rattle.std.specs.Prelude.{◌≡◌, false, ℕ, ◌*◌, ◌≤◌, ◌<◌, eqb, length}
use mathlib.Core.List.{List, [], foldl}
use Rattle.wire.specs.Machine.{keep}
use Rattle.wire.specs.Wire.{Delivery}
use Rattle.wire.specs.Rack.{Plain, state_at, deliver, sends, messages}
use Rattle.wire.specs.Groups.{touching}
use Rattle.wire.specs.declared.Setup.{Setup}

-- a supply that is as it was sends nothing
abbrev pub Still : Plain → Type 0
Still M = (s : M.State) → M.rings s s ≡ false

module _ (M : Plain) (u : Setup) (ss : List M.State) (ds : List Delivery) where
  -- the slots after the deliveries of a field
  abbrev pub left_by : List M.State
  left_by = foldl (deliver M u) ss ds

  pub record MessagesSent : Type 0 where
    -- an address that no delivery reaches sends nothing
    pub unreached :
        (a : ℕ) → keep (touching (eqb a)) ds ≡ [] → sends M a (state_at M ss a) (state_at M left_by a) ≡ []
    -- if the deliveries reach address k alone, its message, if it sends one, is all that is sent
    pub alone :
        (k : ℕ) → k < length ss → ((a : ℕ) → (a ≡ k → ⊥) → keep (touching (eqb a)) ds ≡ [])
        → messages M ss left_by ≡ sends M k (state_at M ss k) (state_at M left_by k)
    -- at most four bytes for each slot
    pub short : length (messages M ss left_by) ≤ 4 * length ss
