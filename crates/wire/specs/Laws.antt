-- What demand 3 needs from the plain supply: its trips and releases, and the laws that have to be proved for it.
use Rattle.std.specs.Prelude.{◌≡◌, Bool, true, false, ℕ}
use Rattle.wire.specs.Wire.{Entry}
use Rattle.wire.specs.Rack.{Plain}

-- the kinds of trip; whether a trip is set; whether the output is on; whether an entry releases a trip when a supply of
-- this model takes it in this state
pub record Trips (M : Plain) : Type 1 where
  pub Trip : Type 0
  pub is_set : Trip → M.State → Bool
  pub is_on : M.State → Bool
  pub releases : ℕ → Trip → M.State → Entry → Bool

-- the laws of a supply of model m; `I m s` is the invariant of its states (margins and limits)
pub record Laws (M : Plain) (K : Trips M) (I : ℕ → M.State → Type 0) (m : ℕ) : Type 0 where
  -- the fresh state satisfies the invariant, and every entry preserves it
  pub starts : I m (M.fresh m)
  pub keeps : (s : M.State) (e : Entry) → I m s → I m (M.step m s e)
  -- while a trip is set, the output is off
  pub shut : (k : K.Trip) (s : M.State) → K.is_set k s ≡ true → K.is_on s ≡ false
  -- a trip stays set through every entry that does not release it
  pub held :
      (k : K.Trip) (s : M.State) (e : Entry)
      → K.is_set k s ≡ true → K.releases m k s e ≡ false → K.is_set k (M.step m s e) ≡ true
  -- an entry that releases a trip leaves it clear
  pub frees : (k : K.Trip) (s : M.State) (e : Entry) → K.releases m k s e ≡ true → K.is_set k (M.step m s e) ≡ false
