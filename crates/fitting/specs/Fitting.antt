-- A fitting list: which lists are accepted, and the fresh rack of a setup.
use Rattle.std.specs.Prelude.{ℕ, ◌≡◌, Bool, true, ◌&&◌, ◌||◌, eqb, ltb, length}
use mathlib.Core.List.{List, foldl}
use Rattle.wire.specs.Rack.{fresh_rack}
use Rattle.wire.specs.declared.Setup.{Setup}
use Rattle.plain.specs.Plain.{plain_supply}
use Rattle.slots.specs.declared.Rack.{Rack}
use Rattle.slots.specs.View.{view_of, Able}

-- a model number, or 255 for an empty slot
abbrev pub allowed : ℕ → Bool
allowed m = ltb m 12 || eqb m 255

unfoldable pub all_allowed : List ℕ → Bool
all_allowed l = foldl (λ (t : Bool) (m : ℕ). t && allowed m) true l

-- 31 bytes, each of them allowed
abbrev pub good_list : List ℕ → Bool
good_list l = eqb (length l) 31 && all_allowed l

-- the fresh rack of a setup: every supply as it is when fitted, nobody selected, and an empty line that is not spoiled
pub record Made (u : Setup) (r : Rack) : Type 0 where
  pub small : Able r
  pub fresh_is : view_of r ≡ fresh_rack plain_supply u
