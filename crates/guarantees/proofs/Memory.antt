-- The CV memory after an act.
use Prim.Native.Nat.{ℕ}
use mathlib.Core.Path.{◌≡◌, refl, sym, ap, ◌∙◌}
use mathlib.Core.Bool.{Bool, true, false, not, ◌&&◌, ◌||◌, false≢true, true≢false, and-eq-true_iff, or-false, or_comm}
use mathlib.Mathlib.Data.Bool.Basic.{eq-false_of_not-eq-true}
use lib.Dec.{leb, eqb}
use borrow.Author.Tests.{eqb-true, eqb-false}
use Rattle.base.proofs.Choice.{neither}
use Rattle.models.specs.Models.{amp_reading}
use Rattle.supply.specs.declared.Supply.{Supply}
use Rattle.supply.specs.declared.Order.{Order}
use Rattle.supply.specs.declared.Act.{Act}
use Rattle.supply.specs.declared.Act.TheVariants.{Lines, Sample, Press, Turn, Obey, Ask, Nothing}
use Rattle.supply.specs.State.{fresh}
use Rattle.supply.specs.With.{with_fold_trip, with_ovp_trip}
use Rattle.supply.specs.Flt.{flt_of, on_of, in_limit}
use Rattle.supply.specs.Memory.{cv_forgotten}
use Rattle.supply.specs.Registers.{feve_gained, seve_gained, settled}
use Rattle.supply.proofs.Shut.{fold_shut, ovp_shut}
use Rattle.samples.specs.Samples.{reaches_ovp, trips_ovp, trips_fold, judged_cv, sampled}
use Rattle.orders.specs.Orders.{ordered}
use Rattle.acts.specs.Acts.{code_of, clearing_act, cleared, acted, performed}
use Rattle.acts.proofs.Clearing.{by_query}
use Rattle.acts.proofs.Idle.{unmoved}
use Rattle.guarantees.specs.Memory.{SeenOn, reads_below_pc, seen_after, MemoryAfter}
use Rattle.guarantees.proofs.Registers.{by_order, key_same, knob_same, lines_same, accepted, seen_only}
use Rattle.guarantees.proofs.Trips.{reset_off}

-- forgetting leaves the output as it is
forgotten_on : (s : Supply) → on_of (cv_forgotten s) ≡ on_of s
unfolding cv_forgotten on_of flt_of
forgotten_on s = refl

module _ (m : ℕ) (s : Supply) where
  -- the stages between the first and the forgetting leave the memory alone
  stages_keep : (b : Bool) (t : Supply) → (cleared b (settled m s t)).cv_seen ≡ t.cv_seen
  unfolding settled seve_gained feve_gained
  stages_keep true t = refl
  stages_keep false t = refl

  -- after the last stage the memory is what the first left of it, with the output on, and clear with the output off
  closed_seen : (a : Act) → code_of m s a ≡ 0
      → (performed m s a).cv_seen ≡ (on_of (performed m s a) && (acted m s a).cv_seen)
  unfolding cv_forgotten
  closed_seen a e =
      let x = cleared (clearing_act a) (settled m s (acted m s a)) in
      ap (λ (y : Supply). y.cv_seen) (accepted m s a e)
      ∙ ap (λ (b : Bool). on_of x && b) (stages_keep (clearing_act a) (acted m s a))
      ∙ ap (λ (b : Bool). b && (acted m s a).cv_seen) (sym (ap on_of (accepted m s a e) ∙ forgotten_on x))

  -- every act but a sample and RST leaves the memory to the last stage
  kept_so : (a : Act) → code_of m s a ≡ 0
      → (on_of (performed m s a) && (acted m s a).cv_seen) ≡ (on_of (performed m s a) && s.cv_seen)
      → (performed m s a).cv_seen ≡ (on_of (performed m s a) && (s.cv_seen || false))
  kept_so a e h = closed_seen a e ∙ h ∙ ap (λ (b : Bool). on_of (performed m s a) && b) (sym (or-false s.cv_seen))

  same_so : (a : Act) {x : Bool} → x ≡ s.cv_seen → (on_of (performed m s a) && x) ≡ (on_of (performed m s a) && s.cv_seen)
  same_so a h = ap (λ (b : Bool). on_of (performed m s a) && b) h

  -- and RST leaves the output off
  order_kept : (o : Order) → (on_of (performed m s (Obey o)) && (ordered m s o).cv_seen) ≡ (on_of (performed m s (Obey o)) && s.cv_seen)
  unfolding ordered
  order_kept =
      by_order s
      (λ o t. (on_of (performed m s (Obey o)) && t.cv_seen) ≡ (on_of (performed m s (Obey o)) && s.cv_seen)) m
      (λ o t h. same_so (Obey o) h.seen_is) (λ b. refl) (λ b. refl) refl (rw (reset_off m s) refl)

  module _ (v a : ℕ) where
    trips_same : (trips_fold m s v a || s.fold_trip) ≡ false → (trips_ovp m s v || s.ovp_trip) ≡ false
        → on_of (sampled m s v a) ≡ on_of s
    unfolding on_of flt_of sampled
    trips_same f o =
        let fs = (neither (trips_fold m s v a) s.fold_trip f).1 in
        let os = (neither (trips_ovp m s v) s.ovp_trip o).1 in
        ap (λ (x : Bool). on_of (with_ovp_trip (trips_ovp m s v || s.ovp_trip) (with_fold_trip x s))) (f ∙ sym fs)
        ∙ ap (λ (x : Bool). on_of (with_ovp_trip x s)) (o ∙ sym os)

    -- a sample that leaves the output on found it on, and its volt reading is below OVP
    found_on : on_of (sampled m s v a) ≡ true → (on_of s ≡ true) × (reaches_ovp m s v ≡ false)
    unfolding sampled
    found_on on =
        let f : (trips_fold m s v a || s.fold_trip) ≡ false =
        eq-false_of_not-eq-true (λ e. false≢true (sym (fold_shut (sampled m s v a) e) ∙ on)) in
        let o : (trips_ovp m s v || s.ovp_trip) ≡ false =
        eq-false_of_not-eq-true (λ e. false≢true (sym (ovp_shut (sampled m s v a) e) ∙ on)) in
        let was = sym (trips_same f o) ∙ on in
        (was, rw was at (neither (trips_ovp m s v) s.ovp_trip o).0)

    -- so it is judged CV exactly if it reads below PC
    judged_below : (on : Bool) → on_of (sampled m s v a) ≡ on
        → (on && (judged_cv m s v a || s.cv_seen)) ≡ (on && (s.cv_seen || not (leb s.pc (amp_reading m a))))
    unfolding in_limit
    judged_below true e = let h = found_on e in rw (h.0, h.1) (or_comm (not (leb s.pc (amp_reading m a))) s.cv_seen)
    judged_below false e = refl

  sample_on : (v a : ℕ) → on_of (performed m s (Sample v a)) ≡ on_of (sampled m s v a)
  unfolding performed code_of clearing_act acted settled seve_gained feve_gained cv_forgotten on_of flt_of
  sample_on v a = refl

  sample_seen : (v a : ℕ)
      → (performed m s (Sample v a)).cv_seen
      ≡ (on_of (performed m s (Sample v a)) && (s.cv_seen || not (leb s.pc (amp_reading m a))))
  unfolding code_of acted sampled
  sample_seen v a =
      closed_seen (Sample v a) refl ∙ judged_below v a (on_of (performed m s (Sample v a))) (sym (sample_on v a))

  event : (a : Act) → code_of m s a ≡ 0 → (performed m s a).cv_seen ≡ seen_after m s a
  unfolding acted
  event (Sample v a) e = sample_seen v a
  event (Lines b) e = kept_so (Lines b) e (same_so (Lines b) (lines_same s b).seen_is)
  event (Press k) e = kept_so (Press k) e (same_so (Press k) (key_same s k).seen_is)
  event (Turn t raw) e = kept_so (Turn t raw) e (same_so (Turn t raw) (knob_same s m t raw).seen_is)
  event (Obey o) e = kept_so (Obey o) e (order_kept o)
  event (Ask q) e =
      kept_so (Ask q) e (same_so (Ask q) (by_query (λ p x. x.cv_seen ≡ s.cv_seen) s (λ p. refl) refl refl q))
  event Nothing e = kept_so Nothing e refl

  -- a sample is never refused
  refused_other : (a : Act) → eqb (code_of m s a) 0 ≡ false → reads_below_pc m s a ≡ false
  unfolding code_of
  refused_other (Sample v a) e = absurd (true≢false e)
  refused_other (Lines b) e = refl
  refused_other (Press k) e = refl
  refused_other (Turn t raw) e = refl
  refused_other (Obey o) e = refl
  refused_other (Ask q) e = refl
  refused_other Nothing e = refl

  always : (a : Act) → SeenOn s → (performed m s a).cv_seen ≡ seen_after m s a
  always a h = by_code (eqb (code_of m s a) 0) refl
    where
      by_code : (b : Bool) → eqb (code_of m s a) 0 ≡ b → (performed m s a).cv_seen ≡ seen_after m s a
      by_code true e = event a (eqb-true (code_of m s a) 0 e)
      by_code false e =
          rw (unmoved m s a (eqb-false (code_of m s a) 0 e), refused_other a e, or-false)
          (sym (seen_only (on_of s) s.cv_seen h))

  -- THE CV MEMORY AFTER EVERY ACT
  pub memory_after : (a : Act) → MemoryAfter m s a
  memory_after a =
      record {
        event = event a;
        always = always a;
        seen_on = λ h seen. ((and-eq-true_iff (on_of (performed m s a)) _).0 (sym (always a h) ∙ seen)).0;
      }

pub fresh_unseen : (m : ℕ) → (fresh m).cv_seen ≡ true → ⊥
unfolding fresh
fresh_unseen m e = false≢true e

pub fresh_seen_on : (m : ℕ) → SeenOn (fresh m)
fresh_seen_on m e = absurd (fresh_unseen m e)
