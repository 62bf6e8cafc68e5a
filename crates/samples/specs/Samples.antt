-- What a sample does to a supply.
use Rattle.std.specs.Prelude.{ℕ, Bool, not, ◌&&◌, ◌||◌, leb}
use Rattle.models.specs.Models.{volt_reading}
use Rattle.supply.specs.declared.Supply.{Supply}
use Rattle.supply.specs.With.{with_fold_trip, with_ovp_trip, with_cv_seen, with_counts}
use Rattle.supply.specs.Flt.{on_of, in_limit}

-- whether the volt reading of a count is at least OVP
abbrev pub reaches_ovp : ℕ → Supply → ℕ → Bool
reaches_ovp m s v = leb s.ovp (volt_reading m v)

-- A sample counts only if the output was on before it. It trips OVP if its volt reading reaches OVP. Otherwise, if its
-- ampere reading reaches PC, it trips FOLD while foldback is armed and the CV memory is set; and if it is below PC, the
-- sample is judged CV.
abbrev pub trips_ovp : ℕ → Supply → ℕ → Bool
trips_ovp m s v = on_of s && reaches_ovp m s v

abbrev pub trips_fold : ℕ → Supply → ℕ → ℕ → Bool
trips_fold m s v a =
    on_of s && (not (reaches_ovp m s v) && (in_limit m (with_counts v a s) && (s.armed && s.cv_seen)))

abbrev pub judged_cv : ℕ → Supply → ℕ → ℕ → Bool
judged_cv m s v a = on_of s && (not (reaches_ovp m s v) && not (in_limit m (with_counts v a s)))

-- the counts are always stored; a sample never releases a trip, and clears the CV memory only by ending with the
-- output off, as the event closes
unfoldable pub sampled : ℕ → Supply → ℕ → ℕ → Supply
sampled m s v a =
    with_cv_seen (judged_cv m s v a || s.cv_seen)
    (with_ovp_trip (trips_ovp m s v || s.ovp_trip)
    (with_fold_trip (trips_fold m s v a || s.fold_trip) (with_counts v a s)))
