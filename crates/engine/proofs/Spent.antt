-- A loop over bytes ends: a cycle that goes on has used bytes, and one that has used none is the last.
use Prim.Native.Nat.{ℕ, ◌+◌, ◌-◌, ◌≤◌, ◌<◌}
use mathlib.Core.Path.{◌≡◌, refl}
use mathlib.Core.Bool.{Bool, true, false}
use native.Mathlib.Omega.{arith}
use Rattle.base.specs.Choice.{bit}

pub spent : (len used n : ℕ) (going on : Bool) → used ≤ len → n ≤ len - used → going ≡ true → (on ≡ true → 0 < n) → len - (used + n) + bit on < len - used + bit going
spent len used n going on h k e p = rw e (by_test on p)
  where
    by_test : (t : Bool) → (t ≡ true → 0 < n) → len - (used + n) + bit t < len - used + 1
    by_test true q = omega (arith, q refl)
    by_test false q = omega arith
