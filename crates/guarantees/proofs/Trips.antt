-- Only a named release takes a trip away, every named release does, and only a sample sets one.
use mathlib.Core.Path.{◌≡◌, refl, sym, ap, ◌∙◌}
use mathlib.Core.Bool.{Bool, true, false, not, ◌&&◌, ◌||◌, false≢true, true≢false, and-eq-true_iff, or-false, or_comm}
use Prim.Native.Nat.{ℕ}
use lib.Dec.{eqb}
use borrow.Author.Tests.{eqb-true, eq-eqb, le-leb, lt-leb, leb-true, leb-false, not-true}
use Rattle.base.specs.Choice.{pick}
use Rattle.base.proofs.Choice.{pick_true}
use Rattle.models.specs.Models.{limits_of, volt_reading, amp_reading}
use Rattle.supply.specs.declared.Supply.{Supply}
use Rattle.supply.specs.declared.Key.{Key}
use Rattle.supply.specs.declared.Key.TheVariants.{Output, Fold, Local}
use Rattle.supply.specs.declared.Target.{Target}
use Rattle.supply.specs.declared.Target.TheVariants.{Pv, Pc, Ovp, Uvl}
use Rattle.supply.specs.declared.Order.{Order}
use Rattle.supply.specs.declared.Order.TheVariants.{Set, Ovm, Out, Fld, Ast, Rmt, Fena, Sena, Cls, Rst}
use Rattle.supply.specs.declared.Query.{Query}
use Rattle.supply.specs.declared.Act.{Act}
use Rattle.supply.specs.declared.Act.TheVariants.{Lines, Sample, Press, Turn, Obey, Ask, Nothing}
use Rattle.supply.specs.With.{with_want, with_armed, with_mode, with_counts}
use Rattle.supply.specs.State.{fresh}
use Rattle.supply.specs.Flt.{on_of, lines_clear, in_limit}
use Rattle.supply.specs.Memory.{cv_forgotten}
use Rattle.supply.specs.Registers.{feve_gained, seve_gained, settled}
use Rattle.settings.specs.Settings.{with_setting, stepped}
use Rattle.samples.specs.Samples.{reaches_ovp, trips_ovp, trips_fold, sampled}
use Rattle.events.specs.Events.{falls, lines_changed, turned_on, disarmed, pressed, turned}
use Rattle.codes.specs.Codes.{order_code}
use Rattle.orders.specs.Orders.{remote, remote_by, out_done, fld_done, reset, ordered}
use Rattle.acts.specs.Acts.{code_of, after_query, clearing_order, clearing_act, cleared, acted, closed, performed}
use Rattle.acts.proofs.Clearing.{by_query}
use Rattle.guarantees.specs.Releases.{Trip, fold, ovp, is_set, is_ovp, order_releases, key_releases, releases}
use Rattle.guarantees.specs.Trips.{SampleMoves, OvpNeeds, FoldNeeds, Needs, SampleTrips, TripSet}
use Rattle.events.proofs.Cases.{lines_law, disarm_law}
use Rattle.supply.proofs.Shut.{want_off_shut, fold_shut, ovp_shut}

-- if a trip is set, the output is off
pub shut : (k : Trip) (s : Supply) → is_set k s ≡ true → on_of s ≡ false
shut fold s e = fold_shut s e
shut ovp s e = ovp_shut s e

-- the acts that set a trip: a sample, tested on the supply before it
abbrev pub sets : ℕ → Trip → Supply → Act → Bool
sets m ovp s (Sample v a) = trips_ovp m s v
sets m fold s (Sample v a) = trips_fold m s v a
sets m k s (Lines b) = false
sets m k s (Press j) = false
sets m k s (Turn t raw) = false
sets m k s (Obey o) = false
sets m k s (Ask q) = false
sets m k s Nothing = false

-- what is left of a trip x after an act that may release it
abbrev left : Bool → Bool → Bool
left release x = not release && x

pick_trip : (k : Trip) (t : Bool) (a b : Supply) → is_set k (pick t a b) ≡ pick t (is_set k a) (is_set k b)
pick_trip k true a b = refl
pick_trip k false a b = refl

-- changes that leave both trips alone
module _ (k : Trip) where
  abbrev Same : Supply → Supply → Type 0
  Same t s = is_set k t ≡ is_set k s

by_trip_lem : (P : Trip → Type 0) → P fold → P ovp → (k : Trip) → P k
by_trip_lem P f o fold = f
by_trip_lem P f o ovp = o

want_same : (k : Trip) (b : Bool) (s : Supply) → Same k (with_want b s) s
want_same k b s = by_trip_lem (λ j. Same j (with_want b s) s) refl refl k

armed_same : (k : Trip) (b : Bool) (s : Supply) → Same k (with_armed b s) s
armed_same k b s = by_trip_lem (λ j. Same j (with_armed b s) s) refl refl k

mode_same : (k : Trip) (n : ℕ) (s : Supply) → Same k (with_mode n s) s
mode_same k n s = by_trip_lem (λ j. Same j (with_mode n s) s) refl refl k

setting_same : (k : Trip) (t : Target) (x : ℕ) (s : Supply) → Same k (with_setting t x s) s
unfolding with_setting
setting_same k Pv x s = by_trip_lem (λ j. Same j (with_setting Pv x s) s) refl refl k
setting_same k Pc x s = by_trip_lem (λ j. Same j (with_setting Pc x s) s) refl refl k
setting_same k Ovp x s = by_trip_lem (λ j. Same j (with_setting Ovp x s) s) refl refl k
setting_same k Uvl x s = by_trip_lem (λ j. Same j (with_setting Uvl x s) s) refl refl k

remote_same : (k : Trip) (s : Supply) → Same k (remote s) s
unfolding remote
remote_same k s = by_trip_lem (λ j. Same j (remote s) s) refl refl k

remote_by_same : (k : Trip) (t : Target) (s : Supply) → Same k (remote_by t s) s
unfolding remote_by
remote_by_same k Pv s = remote_same k s
remote_by_same k Pc s = remote_same k s
remote_by_same k Ovp s = refl
remote_by_same k Uvl s = refl

settled_same : (k : Trip) (m : ℕ) (s t : Supply) → Same k (settled m s t) t
unfolding settled seve_gained feve_gained
settled_same k m s t = by_trip_lem (λ j. Same j (settled m s t) t) refl refl k

cleared_same : (k : Trip) (t : Bool) (s : Supply) → Same k (cleared t s) s
cleared_same k true s = by_trip_lem (λ j. Same j (cleared true s) s) refl refl k
cleared_same k false s = refl

forgotten_same : (k : Trip) (s : Supply) → Same k (cv_forgotten s) s
unfolding cv_forgotten
forgotten_same k s = by_trip_lem (λ j. Same j (cv_forgotten s) s) refl refl k

query_same : (k : Trip) (q : Query) (s : Supply) → Same k (after_query q s) s
query_same k q s =
    by_trip_lem (λ j. Same j (after_query q s) s)
    (by_query (λ p x. Same fold x s) s (λ p. refl) refl refl q)
    (by_query (λ p x. Same ovp x s) s (λ p. refl) refl refl q)
    k

-- turning on releases both trips; turning ARMED off releases FOLD and leaves OVP
turned_on_clear : (k : Trip) (s : Supply) → is_set k (turned_on s) ≡ false
unfolding turned_on
turned_on_clear fold s = refl
turned_on_clear ovp s = refl

reset_clear : (m : ℕ) (k : Trip) (s : Supply) → is_set k (reset m s) ≡ false
unfolding reset fresh
reset_clear m fold s = refl
reset_clear m ovp s = refl

disarmed_trip : (k : Trip) (s : Supply) → is_set k (disarmed s) ≡ (is_ovp k && is_set k s)
disarmed_trip fold s = rw (← disarm_law s) refl
disarmed_trip ovp s = rw (← disarm_law s) refl

-- what LINES, a key or an order leaves of a trip, case by case
abbrev lines_leave : Trip → Bool → Bool → Bool → Bool
lines_leave fold ac so x = not ac && x
lines_leave ovp ac so x = not so && (not ac && x)

lines_left : (k : Trip) (ac so x : Bool) → lines_leave k ac so x ≡ left (ac || (is_ovp k && so)) x
lines_left fold true so x = refl
lines_left fold false so x = refl
lines_left ovp true true x = refl
lines_left ovp true false x = refl
lines_left ovp false true x = refl
lines_left ovp false false x = refl

output_left : (home on clear x : Bool) → pick home (pick on x (pick clear false x)) x ≡ left (home && (not on && clear)) x
output_left true true clear x = refl
output_left true false true x = refl
output_left true false false x = refl
output_left false on clear x = refl

fold_left : (k : Trip) (home armed x : Bool) → pick home (pick armed (is_ovp k && x) x) x ≡ left (not (is_ovp k) && (home && armed)) x
fold_left fold true true x = refl
fold_left fold true false x = refl
fold_left fold false armed x = refl
fold_left ovp true true x = refl
fold_left ovp true false x = refl
fold_left ovp false armed x = refl

same_pick : (t x : Bool) → pick t x x ≡ x
same_pick true x = refl
same_pick false x = refl

module _ (m : ℕ) (k : Trip) (s : Supply) where
  lines_trip : (b : ℕ) → is_set k (lines_changed s b) ≡ left (releases m k s (Lines b)) (is_set k s)
  unfolding releases
  lines_trip b = by_trip_lem (λ j. is_set j (lines_changed s b) ≡ left (falls 1 s.lines b || (is_ovp j && (falls 5 s.lines b && s.ast))) (is_set j s))
      (rw (← lines_law s b) (lines_left fold (falls 1 s.lines b) (falls 5 s.lines b && s.ast) s.fold_trip))
      (rw (← lines_law s b) (lines_left ovp (falls 1 s.lines b) (falls 5 s.lines b && s.ast) s.ovp_trip))
      k

  sample_trip : (v a : ℕ) → is_set k (sampled m s v a) ≡ (is_set k s || sets m k s (Sample v a))
  unfolding sampled
  sample_trip v a = by_trip_lem (λ j. is_set j (sampled m s v a) ≡ (is_set j s || sets m j s (Sample v a)))
      (or_comm (trips_fold m s v a) s.fold_trip)
      (or_comm (trips_ovp m s v) s.ovp_trip)
      k

  key_trip : (j : Key) → is_set k (pressed s j) ≡ left (key_releases k s j) (is_set k s)
  unfolding pressed
  key_trip Output =
      rw (pick_trip k (eqb s.mode 0) (pick (on_of s) (with_want false s) (pick (lines_clear s) (turned_on s) s)) s, pick_trip k (on_of s) (with_want false s) (pick (lines_clear s) (turned_on s) s), pick_trip k (lines_clear s) (turned_on s) s, want_same k false s, turned_on_clear k s)
      (output_left (eqb s.mode 0) (on_of s) (lines_clear s) (is_set k s))
  key_trip Fold =
      rw (pick_trip k (eqb s.mode 0) (pick s.armed (disarmed s) (with_armed true s)) s, pick_trip k s.armed (disarmed s) (with_armed true s), disarmed_trip k s, armed_same k true s)
      (fold_left k (eqb s.mode 0) s.armed (is_set k s))
  key_trip Local = rw (pick_trip k (eqb s.mode 1) (with_mode 0 s) s, mode_same k 0 s) (same_pick (eqb s.mode 1) (is_set k s))

  knob_trip : (t : Target) (raw : ℕ) → is_set k (turned m s t raw) ≡ is_set k s
  unfolding turned
  knob_trip t raw = rw (pick_trip k (eqb s.mode 0) (with_setting t (stepped (limits_of m) s t raw) s) s, setting_same k t (stepped (limits_of m) s t raw) s) (same_pick (eqb s.mode 0) (is_set k s))

  order_trip : (o : Order) → order_code m s o ≡ 0 → is_set k (ordered m s o) ≡ left (order_releases m k s o) (is_set k s)
  unfolding ordered out_done fld_done
  order_trip (Set t n) e = remote_by_same k t (with_setting t n s) ∙ setting_same k t n s
  order_trip Ovm e = by_trip_lem (λ j. is_set j (ordered m s Ovm) ≡ is_set j s) refl refl k
  order_trip (Out true) e = remote_same k (turned_on s) ∙ turned_on_clear k s ∙ rw e refl
  order_trip (Out false) e = remote_same k (with_want false s) ∙ want_same k false s
  order_trip (Fld true) e = armed_same k true s
  order_trip (Fld false) e = rw (pick_trip k s.armed (disarmed s) s, disarmed_trip k s) (fold_left k true s.armed (is_set k s))
  order_trip (Ast b) e = by_trip_lem (λ j. is_set j (ordered m s (Ast b)) ≡ is_set j s) refl refl k
  order_trip (Rmt j) e = mode_same k j s
  order_trip (Fena b) e = by_trip_lem (λ j. is_set j (ordered m s (Fena b)) ≡ is_set j s) refl refl k
  order_trip (Sena b) e = by_trip_lem (λ j. is_set j (ordered m s (Sena b)) ≡ is_set j s) refl refl k
  order_trip Cls e = refl
  order_trip Rst e = reset_clear m k s

  -- an accepted act leaves a trip unless it releases it, and a sample may set one
  acted_trip : (a : Act) → code_of m s a ≡ 0 → is_set k (acted m s a) ≡ (left (releases m k s a) (is_set k s) || sets m k s a)
  unfolding acted releases code_of
  acted_trip (Lines b) e = lines_trip b ∙ sym (or-false _)
  acted_trip (Sample v a) e = sample_trip v a
  acted_trip (Press j) e = key_trip j ∙ sym (or-false _)
  acted_trip (Turn t raw) e = knob_trip t raw ∙ sym (or-false _)
  acted_trip (Obey o) e = order_trip o e ∙ sym (or-false _)
  acted_trip (Ask q) e = query_same k q s ∙ sym (or-false _)
  acted_trip Nothing e = sym (or-false _)

  -- a refused order releases nothing and sets nothing
  refused_idle : (a : Act) → eqb (code_of m s a) 0 ≡ false → (releases m k s a ≡ false) × (sets m k s a ≡ false)
  unfolding releases code_of order_code
  refused_idle (Obey (Set t n)) e = (refl, refl)
  refused_idle (Obey (Out true)) e = (e, refl)
  refused_idle (Obey (Out false)) e = absurd (true≢false e)
  refused_idle (Obey Ovm) e = absurd (true≢false e)
  refused_idle (Obey (Fld b)) e = absurd (true≢false e)
  refused_idle (Obey (Ast b)) e = absurd (true≢false e)
  refused_idle (Obey (Rmt j)) e = absurd (true≢false e)
  refused_idle (Obey (Fena b)) e = absurd (true≢false e)
  refused_idle (Obey (Sena b)) e = absurd (true≢false e)
  refused_idle (Obey Cls) e = absurd (true≢false e)
  refused_idle (Obey Rst) e = absurd (true≢false e)
  refused_idle (Lines b) e = absurd (true≢false e)
  refused_idle (Sample v a) e = absurd (true≢false e)
  refused_idle (Press j) e = absurd (true≢false e)
  refused_idle (Turn t raw) e = absurd (true≢false e)
  refused_idle (Ask q) e = absurd (true≢false e)
  refused_idle Nothing e = absurd (true≢false e)

  -- THE TRIP AFTER AN ACT: it is set if it was and is not released, or if a sample sets it
  pub trip_law : (a : Act) → is_set k (performed m s a) ≡ (left (releases m k s a) (is_set k s) || sets m k s a)
  unfolding performed
  trip_law a = by_code (eqb (code_of m s a) 0) refl
    where
      by_code : (t : Bool) → eqb (code_of m s a) 0 ≡ t → is_set k (pick t (closed a (settled m s (acted m s a))) s) ≡ (left (releases m k s a) (is_set k s) || sets m k s a)
      by_code true e = forgotten_same k (cleared (clearing_act a) (settled m s (acted m s a))) ∙ cleared_same k (clearing_act a) (settled m s (acted m s a)) ∙ settled_same k m s (acted m s a) ∙ acted_trip a (eqb-true (code_of m s a) 0 e)
      by_code false e = let i = refused_idle a e in rw (i.0, i.1) (sym (or-false _))

  -- only a release takes a trip away
  pub held : (a : Act) → is_set k s ≡ true → releases m k s a ≡ false → is_set k (performed m s a) ≡ true
  held a e r = trip_law a ∙ rw (r, e) refl

  -- no release sets a trip
  release_idle : (a : Act) → releases m k s a ≡ true → sets m k s a ≡ false
  unfolding releases
  release_idle (Sample v a) r = absurd (false≢true r)
  release_idle (Lines b) r = refl
  release_idle (Press j) r = refl
  release_idle (Turn t raw) r = refl
  release_idle (Obey o) r = refl
  release_idle (Ask q) r = refl
  release_idle Nothing r = refl

  -- every named release takes the trip away
  pub frees : (a : Act) → releases m k s a ≡ true → is_set k (performed m s a) ≡ false
  frees a r = trip_law a ∙ rw (r, release_idle a r) refl

-- what a sample needs, from its tests
all_five : {a b c d e : Bool} → a ≡ true → b ≡ false → c ≡ true → d ≡ true → e ≡ true
    → (a && (not b && (c && (d && e)))) ≡ true
all_five p q r t u = rw (p, q, r, t, u) refl

pub fold_needs : (m : ℕ) (s : Supply) (v a : ℕ) → trips_fold m s v a ≡ true → FoldNeeds m s v a
unfolding in_limit
fold_needs m s v a e =
    let one = (and-eq-true_iff (on_of s) _).0 e in
    let two = (and-eq-true_iff (not (reaches_ovp m s v)) _).0 one.1 in
    let three = (and-eq-true_iff (in_limit m (with_counts v a s)) _).0 two.1 in
    let four = (and-eq-true_iff s.armed s.cv_seen).0 three.1 in
    record {
      on = one.0;
      below_ovp = leb-false s.ovp (volt_reading m v) (not-true _ two.0);
      at_pc = leb-true s.pc (amp_reading m a) three.0;
      armed = four.0;
      seen = four.1;
    }

ovp_needs : (m : ℕ) (s : Supply) (v : ℕ) → trips_ovp m s v ≡ true → OvpNeeds m s v
ovp_needs m s v e =
    let one = (and-eq-true_iff (on_of s) (reaches_ovp m s v)).0 e in
    record { on = one.0; at_ovp = leb-true s.ovp (volt_reading m v) one.1 }

module _ (m : ℕ) (k : Trip) (s : Supply) where
  needed : (v a : ℕ) → Needs m k s v a → sets m k s (Sample v a) ≡ true
  unfolding in_limit
  needed v a n = by_trip k n
    where
      by_trip : (j : Trip) → Needs m j s v a → sets m j s (Sample v a) ≡ true
      by_trip ovp n = rw (n.on, le-leb s.ovp (volt_reading m v) n.at_ovp) refl
      by_trip fold n =
          all_five n.on (lt-leb s.ovp (volt_reading m v) n.below_ovp) (le-leb s.pc (amp_reading m a) n.at_pc) n.armed n.seen

  needs : (v a : ℕ) → sets m k s (Sample v a) ≡ true → Needs m k s v a
  needs v a e = by_trip_lem (λ j. sets m j s (Sample v a) ≡ true → Needs m j s v a) (fold_needs m s v a) (ovp_needs m s v) k e

  set_by : (act : Act) → sets m k s act ≡ true → SampleTrips m k s act
  set_by (Sample v a) e = record { volts = v; amps = a; is = refl; needs = needs v a e }
  set_by (Lines b) e = absurd (false≢true e)
  set_by (Press j) e = absurd (false≢true e)
  set_by (Turn t raw) e = absurd (false≢true e)
  set_by (Obey o) e = absurd (false≢true e)
  set_by (Ask q) e = absurd (false≢true e)
  set_by Nothing e = absurd (false≢true e)

  -- WHAT SETS A TRIP
  pub trip_set : TripSet m k s
  trip_set =
      record {
        when = λ v a n.
            trip_law m k s (Sample v a) ∙ rw (needed v a n) (or_comm (left (releases m k s (Sample v a)) (is_set k s)) true);
        only = λ act clear e. set_by act (added (releases m k s act) clear (sym (trip_law m k s act) ∙ e));
      }
    where
      added : (r : Bool) {x y : Bool} → x ≡ false → (left r x || y) ≡ true → y ≡ true
      added true c e = e
      added false c e = rw c at e

-- WHAT A SAMPLE MOVES
pub sample_moves : (m : ℕ) (s : Supply) (v a : ℕ) → SampleMoves m s v a
unfolding performed code_of clearing_act acted sampled settled seve_gained feve_gained cv_forgotten
sample_moves m s v a = refl

-- RST, and turning ARMED off on a FOLD trip, leave the output off
pub reset_off : (m : ℕ) (s : Supply) → on_of (performed m s (Obey Rst)) ≡ false
unfolding performed code_of order_code clearing_act clearing_order settled seve_gained feve_gained cv_forgotten acted ordered reset fresh
reset_off m s = want_off_shut (performed m s (Obey Rst)) refl

disarmed_off : (s : Supply) → s.fold_trip ≡ true → (disarmed s).want ≡ false
disarmed_off s e =
    let off : (not s.fold_trip && s.want) ≡ false = rw e refl in
    ap (λ (x : Supply). x.want) (sym (disarm_law s)) ∙ off

pub fld_off : (m : ℕ) (s : Supply) → s.armed ≡ true → s.fold_trip ≡ true → on_of (performed m s (Obey (Fld false))) ≡ false
unfolding performed code_of order_code clearing_act clearing_order settled seve_gained feve_gained cv_forgotten acted ordered fld_done
fld_off m s a e = want_off_shut (performed m s (Obey (Fld false))) (ap (λ (x : Supply). x.want) (pick_true s.armed (disarmed s) s a) ∙ disarmed_off s e)

pub fold_key_off : (m : ℕ) (s : Supply) → s.mode ≡ 0 → s.armed ≡ true → s.fold_trip ≡ true → on_of (performed m s (Press Fold)) ≡ false
unfolding performed code_of clearing_act settled seve_gained feve_gained cv_forgotten acted pressed
fold_key_off m s z a e = want_off_shut (performed m s (Press Fold)) (ap (λ (x : Supply). x.want) (pick_true (eqb s.mode 0) (pick s.armed (disarmed s) (with_armed true s)) s (eq-eqb s.mode 0 z) ∙ pick_true s.armed (disarmed s) (with_armed true s) a) ∙ disarmed_off s e)
