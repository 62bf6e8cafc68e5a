-- WHAT A SAMPLE MOVES, AND WHAT SETS A TRIP: a sample that meets all that is asked here, each as it was before the
-- sample, and nothing else.
use Rattle.std.specs.Prelude.{ℕ, ◌≤◌, ◌<◌, ◌≡◌, true, false}
use Rattle.models.specs.Models.{volt_reading, amp_reading}
use Rattle.supply.specs.declared.Supply.{Supply}
use Rattle.supply.specs.declared.Act.{Act}
use Rattle.supply.specs.declared.Act.TheVariants.{Sample}
use Rattle.supply.specs.With.{with_fold_trip, with_ovp_trip, with_feve, with_seve, with_cv_seen, with_counts}
use Rattle.supply.specs.Flt.{on_of}
use Rattle.acts.specs.Acts.{performed}
use Rattle.guarantees.specs.Releases.{Trip, fold, ovp, is_set}

-- a sample stores its own counts, and moves nothing else but the trips, the CV memory and the event registers
abbrev pub SampleMoves : ℕ → Supply → ℕ → ℕ → Type 0
SampleMoves m s v a =
    let r = performed m s (Sample v a) in
    r
    ≡ with_cv_seen r.cv_seen
    (with_fold_trip r.fold_trip
    (with_ovp_trip r.ovp_trip (with_feve r.feve (with_seve r.seve (with_counts v a s)))))

-- OVP: the output on, and a volt reading of at least OVP
pub record OvpNeeds (m : ℕ) (s : Supply) (v : ℕ) : Type 0 where
  pub on : on_of s ≡ true
  pub at_ovp : s.ovp ≤ volt_reading m v

-- FOLD: the output on, a volt reading below OVP, an ampere reading of at least PC, foldback armed, and the CV memory
-- set. So a cell that starts in current limit does not trip.
pub record FoldNeeds (m : ℕ) (s : Supply) (v a : ℕ) : Type 0 where
  pub on : on_of s ≡ true
  pub below_ovp : volt_reading m v < s.ovp
  pub at_pc : s.pc ≤ amp_reading m a
  pub armed : s.armed ≡ true
  pub seen : s.cv_seen ≡ true

abbrev pub Needs : ℕ → Trip → Supply → ℕ → ℕ → Type 0
Needs m ovp s v a = OvpNeeds m s v
Needs m fold s v a = FoldNeeds m s v a

-- the act is a sample with these needs met
pub record SampleTrips (m : ℕ) (k : Trip) (s : Supply) (act : Act) : Type 0 where
  pub volts : ℕ
  pub amps : ℕ
  pub is : act ≡ Sample volts amps
  pub needs : Needs m k s volts amps

pub record TripSet (m : ℕ) (k : Trip) (s : Supply) : Type 0 where
  pub when : (v a : ℕ) → Needs m k s v a → is_set k (performed m s (Sample v a)) ≡ true
  pub only : (act : Act) → is_set k s ≡ false → is_set k (performed m s act) ≡ true → SampleTrips m k s act
