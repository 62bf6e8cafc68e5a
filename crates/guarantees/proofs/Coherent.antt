-- The fresh supply is coherent, and each checked act leaves a coherent supply coherent.
use Prim.Native.Nat.{ℕ, ◌≤◌}
use mathlib.Core.Path.{◌≡◌, refl, ◌∙◌}
use mathlib.Core.Bool.{Bool, true, false, not, ◌||◌, false≢true, and-eq-true_iff, and-false}
use native.Mathlib.Omega.{arith}
use lib.Bits.{bit_and}
use lib.Dec.{eqb}
use Rattle.base.specs.Choice.{pick}
use Rattle.base.specs.Bits.{bit_at}
use Rattle.base.proofs.Bits.{bit_of_and}
use Rattle.base.proofs.Choice.{pick_keeps}
use Rattle.models.specs.Models.{limits_of}
use Rattle.supply.specs.declared.Supply.{Supply}
use Rattle.supply.specs.declared.Target.{Target}
use Rattle.supply.specs.declared.Target.TheVariants.{Pv, Pc, Ovp, Uvl}
use Rattle.supply.specs.declared.Key.{Key}
use Rattle.supply.specs.declared.Key.TheVariants.{Output, Fold, Local}
use Rattle.supply.specs.declared.Order.{Order}
use Rattle.supply.specs.declared.Order.TheVariants.{Set, Ovm, Out, Fld, Ast, Rmt, Fena, Sena, Cls, Rst}
use Rattle.supply.specs.declared.Act.{Act}
use Rattle.supply.specs.declared.Act.TheVariants.{Lines, Sample, Press, Turn, Obey, Ask, Nothing}
use Rattle.supply.specs.With.{with_feve, with_seve, with_want, with_armed, with_mode}
use Rattle.supply.specs.State.{fresh}
use Rattle.supply.specs.Flt.{on_of, lines_clear}
use Rattle.supply.specs.Memory.{cv_forgotten}
use Rattle.supply.specs.Registers.{feve_gained, seve_gained, settled}
use Rattle.settings.specs.Settings.{with_setting, stepped}
use Rattle.samples.specs.Samples.{trips_fold, sampled}
use Rattle.events.specs.Events.{falls, lines_changed, turned_on, disarmed, pressed, turned}
use Rattle.events.proofs.Cases.{lines_law, disarm_law}
use Rattle.orders.specs.Orders.{remote, remote_by, out_done, fld_done, sena_bits, reset, ordered}
use Rattle.acts.specs.Acts.{code_of, clearing_act, cleared, acted, closed, performed}
use Rattle.acts.proofs.Clearing.{by_query}
use Rattle.guarantees.proofs.Trips.{fold_needs}
use Rattle.guarantees.specs.Coherent.{Listed, Enabling, Agreeing, Coherent, CheckedOrder, Checked}

-- without a FOLD trip, ARMED has no condition to meet
untripped : {mode lines : ℕ} {armed : Bool} {sena : ℕ} → mode ≤ 2 → Listed lines → Enabling sena → Agreeing mode lines false armed sena
untripped m l n = record { mode_known = m; lines_listed = l; fold_armed = λ e. absurd (false≢true e); sena_enabling = n }

-- another mode, which is known too
moded : {mode lines : ℕ} {fold armed : Bool} {sena : ℕ} (k : ℕ) → k ≤ 2
    → Agreeing mode lines fold armed sena → Agreeing k lines fold armed sena
moded k m h = record { mode_known = m; lines_listed = h.lines_listed; fold_armed = h.fold_armed; sena_enabling = h.sena_enabling }

-- the bits that SENA keeps are the others
sena_bits_lem : (b : ℕ) → Enabling (bit_and b sena_bits)
unfolding bit_at
sena_bits_lem b = (dropped 4 refl, (dropped 5 refl, dropped 6 refl))
  where
    dropped : (k : ℕ) → bit_at k sena_bits ≡ false → bit_at k (bit_and b sena_bits) ≡ false
    dropped k e = bit_of_and k b sena_bits ∙ rw e (and-false (bit_at k b))

mode_picked : (t : Bool) (j k : ℕ) → j ≤ 2 → k ≤ 2 → pick t j k ≤ 2
mode_picked = pick_keeps (λ (n : ℕ). n ≤ 2)

-- if either of two tests implies ARMED
either : (x y armed : Bool) → (x ≡ true → armed ≡ true) → (y ≡ true → armed ≡ true) → (x || y) ≡ true → armed ≡ true
either true y armed f g e = f refl
either false y armed f g e = g e

pub fresh_coherent : (m : ℕ) → Coherent (fresh m)
unfolding fresh bit_at
fresh_coherent m = untripped (omega arith) refl (refl, (refl, refl))

abbrev C : (t : Bool) (a b : Supply) → Coherent a → Coherent b → Coherent (pick t a b)
C = pick_keeps Coherent

module _ (s : Supply) (h : Coherent s) where
  lines_coherent : (b : ℕ) → Listed b → Coherent (lines_changed s b)
  lines_coherent b l =
      let known : pick (eqb s.mode 2) 1 s.mode ≤ 2 = mode_picked (eqb s.mode 2) 1 s.mode (omega arith) h.mode_known in
      rw (← lines_law s b)
      (record {
        mode_known = mode_picked (falls 1 s.lines b) _ s.mode known h.mode_known;
        lines_listed = l;
        fold_armed = λ e. h.fold_armed ((and-eq-true_iff (not (falls 1 s.lines b)) s.fold_trip).0 e).1;
        sena_enabling = h.sena_enabling;
      })

  sample_coherent : (m v a : ℕ) → Coherent (sampled m s v a)
  unfolding sampled
  sample_coherent m v a =
      record {
        mode_known = h.mode_known;
        lines_listed = h.lines_listed;
        fold_armed = either (trips_fold m s v a) s.fold_trip s.armed (λ e. (fold_needs m s v a e).armed) h.fold_armed;
        sena_enabling = h.sena_enabling;
      }

  disarm_coherent : Coherent (disarmed s)
  disarm_coherent = rw (← disarm_law s) (untripped h.mode_known h.lines_listed h.sena_enabling)

  armed_coherent : Coherent (with_armed true s)
  armed_coherent = record { mode_known = h.mode_known; lines_listed = h.lines_listed; fold_armed = λ e. refl; sena_enabling = h.sena_enabling }

  turned_on_coherent : Coherent (turned_on s)
  unfolding turned_on
  turned_on_coherent = untripped h.mode_known h.lines_listed h.sena_enabling

  key_coherent : (k : Key) → Coherent (pressed s k)
  unfolding pressed
  key_coherent Output =
      C (eqb s.mode 0) (pick (on_of s) (with_want false s) (pick (lines_clear s) (turned_on s) s)) s
      (C (on_of s) (with_want false s) (pick (lines_clear s) (turned_on s) s) h
      (C (lines_clear s) (turned_on s) s turned_on_coherent h))
      h
  key_coherent Fold =
      C (eqb s.mode 0) (pick s.armed (disarmed s) (with_armed true s)) s
      (C s.armed (disarmed s) (with_armed true s) disarm_coherent armed_coherent)
      h
  key_coherent Local = C (eqb s.mode 1) (with_mode 0 s) s (moded 0 (omega arith) h) h

  setting_coherent : (t : Target) (x : ℕ) → Coherent (with_setting t x s)
  unfolding with_setting
  setting_coherent Pv x = h
  setting_coherent Pc x = h
  setting_coherent Ovp x = h
  setting_coherent Uvl x = h

  knob_coherent : (m : ℕ) (t : Target) (raw : ℕ) → Coherent (turned m s t raw)
  unfolding turned
  knob_coherent m t raw =
      let x : ℕ = stepped (limits_of m) s t raw in
      C (eqb s.mode 0) (with_setting t x s) s (setting_coherent t x) h

remote_coherent : (s : Supply) → Coherent s → Coherent (remote s)
unfolding remote
remote_coherent s h =
    moded (pick (eqb s.mode 0) 1 s.mode) (mode_picked (eqb s.mode 0) 1 s.mode (omega arith) h.mode_known) h

remote_by_coherent : (t : Target) (s : Supply) → Coherent s → Coherent (remote_by t s)
unfolding remote_by
remote_by_coherent Pv s h = remote_coherent s h
remote_by_coherent Pc s h = remote_coherent s h
remote_by_coherent Ovp s h = h
remote_by_coherent Uvl s h = h

module _ (m : ℕ) where
  reset_coherent : (s : Supply) → Coherent s → Coherent (reset m s)
  unfolding reset fresh
  reset_coherent s h = untripped (omega arith) h.lines_listed h.sena_enabling

  order_coherent : (s : Supply) (o : Order) → CheckedOrder o → Coherent s → Coherent (ordered m s o)
  unfolding ordered out_done fld_done
  order_coherent s (Set t n) c h = remote_by_coherent t (with_setting t n s) (setting_coherent s h t n)
  order_coherent s Ovm c h = h
  order_coherent s (Out true) c h = remote_coherent (turned_on s) (turned_on_coherent s h)
  order_coherent s (Out false) c h = remote_coherent (with_want false s) h
  order_coherent s (Fld true) c h = armed_coherent s h
  order_coherent s (Fld false) c h = C s.armed (disarmed s) s (disarm_coherent s h) h
  order_coherent s (Ast b) c h = h
  order_coherent s (Rmt k) c h = moded k c h
  order_coherent s (Fena b) c h = h
  order_coherent s (Sena b) c h =
      record { mode_known = h.mode_known; lines_listed = h.lines_listed; fold_armed = h.fold_armed; sena_enabling = sena_bits_lem b }
  order_coherent s Cls c h = h
  order_coherent s Rst c h = reset_coherent s h

  cleared_coherent : (t : Bool) (s : Supply) → Coherent s → Coherent (cleared t s)
  cleared_coherent t s h = C t (with_seve 0 (with_feve 0 s)) s h h

  act_coherent : (s : Supply) (a : Act) → Checked a → Coherent s → Coherent (acted m s a)
  unfolding acted
  act_coherent s (Lines b) c h = lines_coherent s h b c
  act_coherent s (Sample v a) c h = sample_coherent s h m v a
  act_coherent s (Press k) c h = key_coherent s h k
  act_coherent s (Turn t raw) c h = knob_coherent s h m t raw
  act_coherent s (Obey o) c h = order_coherent s o c h
  act_coherent s (Ask q) c h = by_query (λ q x. Coherent x) s (λ q. h) h h q
  act_coherent s Nothing c h = h

  forgotten_coherent : (s : Supply) → Coherent s → Coherent (cv_forgotten s)
  unfolding cv_forgotten
  forgotten_coherent s h = h

  settled_coherent : (s t : Supply) → Coherent t → Coherent (settled m s t)
  unfolding settled seve_gained feve_gained
  settled_coherent s t h = h

  -- EACH CHECKED ACT, refused or not, leaves a coherent supply coherent
  pub performed_coherent : (s : Supply) (a : Act) → Checked a → Coherent s → Coherent (performed m s a)
  unfolding performed
  performed_coherent s a c h =
      C (eqb (code_of m s a) 0) (closed a (settled m s (acted m s a))) s
      (forgotten_coherent (cleared (clearing_act a) (settled m s (acted m s a)))
      (cleared_coherent (clearing_act a) (settled m s (acted m s a))
      (settled_coherent s (acted m s a) (act_coherent s a c h))))
      h
