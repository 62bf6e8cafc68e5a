-- What a sample leaves, by whether the output was on.
use mathlib.Core.Path.{◌≡◌, refl}
use mathlib.Core.Bool.{Bool, true, false, not, ◌&&◌, ◌||◌}
use Prim.Native.Nat.{ℕ}
use Rattle.supply.specs.declared.Supply.{Supply}
use Rattle.supply.specs.With.{with_fold_trip, with_ovp_trip, with_cv_seen, with_counts}
use Rattle.supply.specs.Flt.{on_of, in_limit}
use Rattle.samples.specs.Samples.{reaches_ovp, sampled}

module _ (m : ℕ) (s : Supply) (v a : ℕ) where
  pub when_off : on_of s ≡ false → with_counts v a s ≡ sampled m s v a
  unfolding sampled
  when_off f = rw f refl

  -- its two readings decide
  pub when_on : on_of s ≡ true → {over limited : Bool} → over ≡ reaches_ovp m s v → limited ≡ in_limit m (with_counts v a s)
      → with_cv_seen ((not over && not limited) || s.cv_seen)
      (with_ovp_trip (over || s.ovp_trip)
      (with_fold_trip ((not over && (limited && (s.armed && s.cv_seen))) || s.fold_trip) (with_counts v a s)))
      ≡ sampled m s v a
  unfolding sampled
  when_on on o l = rw (on, o, l) refl
