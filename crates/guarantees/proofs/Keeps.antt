-- The fresh supply keeps margins and limits, and so does every supply after an act; the accepted settings are exactly
-- the admissible ones.
use mathlib.Core.Path.{◌≡◌, refl}
use mathlib.Core.Bool.{Bool, true, false, not, ◌&&◌}
use Prim.Native.Nat.{ℕ}
use native.Mathlib.Omega.{arith}
use lib.Dec.{eqb}
use borrow.Author.Tests.{le-ltb, eqb-true}
use Rattle.base.specs.Choice.{pick}
use Rattle.base.proofs.Choice.{pick_keeps}
use Rattle.models.specs.declared.Limits.{Limits}
use Rattle.models.specs.Models.{limits_of}
use Rattle.models.proofs.Rules.{ovp_room}
use Rattle.supply.specs.declared.Supply.{Supply}
use Rattle.supply.specs.declared.Target.{Target}
use Rattle.supply.specs.declared.Target.TheVariants.{Pv, Pc, Ovp, Uvl}
use Rattle.supply.specs.declared.Key.{Key}
use Rattle.supply.specs.declared.Key.TheVariants.{Output, Fold, Local}
use Rattle.supply.specs.declared.Order.{Order}
use Rattle.supply.specs.declared.Order.TheVariants.{Set, Ovm, Out, Fld, Ast, Rmt, Fena, Sena, Cls, Rst}
use Rattle.supply.specs.declared.Act.{Act}
use Rattle.supply.specs.declared.Act.TheVariants.{Lines, Sample, Press, Turn, Obey, Ask, Nothing}
use Rattle.supply.specs.With.{with_feve, with_seve, with_want, with_armed, with_mode, with_ovp_trip}
use Rattle.supply.specs.State.{fresh}
use Rattle.supply.specs.Flt.{on_of, lines_clear}
use Rattle.supply.specs.Memory.{cv_forgotten}
use Rattle.supply.specs.Registers.{feve_gained, seve_gained, settled}
use Rattle.settings.specs.Settings.{with_setting, stepped}
use Rattle.samples.specs.Samples.{sampled}
use Rattle.events.specs.Events.{any_rises, falls, ac_fallen, lines_changed, turned_on, disarmed, pressed, turned}
use Rattle.codes.specs.Codes.{set_code, order_code}
use Rattle.orders.specs.Orders.{remote, remote_by, out_done, fld_done, reset, ordered}
use Rattle.acts.specs.Acts.{code_of, clearing_act, cleared, acted, closed, performed}
use Rattle.acts.proofs.Clearing.{by_query}
use Rattle.settings.specs.Lawful.{Bounded, Lawful, Admissible}
use Rattle.settings.proofs.Knob.{within, from_range, stepped_nearest}
use Rattle.events.proofs.Cases.{disarm_law}
use Rattle.codes.proofs.Accepted.{accepted_range}

pub fresh_lawful : (m : ℕ) → Lawful m (fresh m)
unfolding fresh
fresh_lawful m =
    within (limits_of m) 0 0 (limits_of m).ovp_most 0 (omega arith) (omega arith) (omega arith) (omega arith) (ovp_room m) (omega arith) (omega arith)

module _ (l : Limits) (s : Supply) where
  -- an accepted figure is admissible if the supply keeps margins and limits
  pub accepted_admissible : Bounded l s → (t : Target) (n : ℕ) → set_code l s t n ≡ 0 → Admissible l s t n
  accepted_admissible h t n e = let r = accepted_range l s t n e in from_range l s t n h r.0 r.1

  -- and an admissible figure is accepted
  pub admissible_accepted : (t : Target) (n : ℕ) → Admissible l s t n → set_code l s t n ≡ 0
  unfolding set_code with_setting
  admissible_accepted Pv n a = rw (le-ltb _ _ a.pv_limit, le-ltb _ _ a.ovp_margin, le-ltb _ _ a.uvl_margin) refl
  admissible_accepted Pc n a = rw (le-ltb _ _ a.pc_limit) refl
  admissible_accepted Ovp n a = rw (le-ltb _ _ a.ovp_least, le-ltb _ _ a.ovp_most, le-ltb _ _ a.ovp_margin) refl
  admissible_accepted Uvl n a = rw (le-ltb _ _ a.uvl_most, le-ltb _ _ a.uvl_margin) refl

module _ (m : ℕ) where
  abbrev K : (t : Bool) (a b : Supply) → Lawful m a → Lawful m b → Lawful m (pick t a b)
  K = pick_keeps (Lawful m)

  lines_keeps : (s : Supply) (b : ℕ) → Lawful m s → Lawful m (lines_changed s b)
  unfolding lines_changed
  lines_keeps s b h =
      let dropped = pick (any_rises s.lines b && not s.ast) (with_want false s) s in
      let d : Lawful m dropped = K (any_rises s.lines b && not s.ast) (with_want false s) s h h in
      let freed = pick (falls 1 s.lines b) (ac_fallen dropped) dropped in
      let f : Lawful m freed = K (falls 1 s.lines b) (ac_fallen dropped) dropped d d in
      K (falls 5 s.lines b && s.ast) (with_ovp_trip false freed) freed f f

  sample_keeps : (s : Supply) (v a : ℕ) → Lawful m s → Lawful m (sampled m s v a)
  unfolding sampled
  sample_keeps s v a h = h

  disarm_keeps : (s : Supply) → Lawful m s → Lawful m (disarmed s)
  disarm_keeps s h = rw (← disarm_law s) h

  turn_on_keeps : (s : Supply) → Lawful m s → Lawful m (turned_on s)
  unfolding turned_on
  turn_on_keeps s h = h

  key_keeps : (s : Supply) (k : Key) → Lawful m s → Lawful m (pressed s k)
  unfolding pressed
  key_keeps s Output h =
      K (eqb s.mode 0) (pick (on_of s) (with_want false s) (pick (lines_clear s) (turned_on s) s)) s
      (K (on_of s) (with_want false s) (pick (lines_clear s) (turned_on s) s) h (K (lines_clear s) (turned_on s) s (turn_on_keeps s h) h))
      h
  key_keeps s Fold h = K (eqb s.mode 0) (pick s.armed (disarmed s) (with_armed true s)) s (K s.armed (disarmed s) (with_armed true s) (disarm_keeps s h) h) h
  key_keeps s Local h = K (eqb s.mode 1) (with_mode 0 s) s h h

  -- ONE LAW FOR THE KNOBS
  pub knob_keeps : (s : Supply) (t : Target) (raw : ℕ) → Lawful m s → Lawful m (turned m s t raw)
  unfolding turned
  knob_keeps s t raw h = K (eqb s.mode 0) (with_setting t (stepped (limits_of m) s t raw) s) s (stepped_nearest (limits_of m) s t raw h).admissible h

  remote_keeps : (s : Supply) → Lawful m s → Lawful m (remote s)
  unfolding remote
  remote_keeps s h = h

  remote_by_keeps : (t : Target) (s : Supply) → Lawful m s → Lawful m (remote_by t s)
  unfolding remote_by
  remote_by_keeps Pv s h = remote_keeps s h
  remote_by_keeps Pc s h = remote_keeps s h
  remote_by_keeps Ovp s h = h
  remote_by_keeps Uvl s h = h

  -- ONE LAW FOR ALL ORDERS, if accepted
  pub order_keeps : (s : Supply) (o : Order) → order_code m s o ≡ 0 → Lawful m s → Lawful m (ordered m s o)
  unfolding ordered order_code out_done fld_done reset
  order_keeps s (Set t n) e h = remote_by_keeps t (with_setting t n s) (accepted_admissible (limits_of m) s h t n e)
  order_keeps s Ovm e h =
      record {
        uvl_margin = h.uvl_margin;
        ovp_margin = omega (arith, h.ovp_margin, h.ovp_most);
        pv_limit = h.pv_limit;
        pc_limit = h.pc_limit;
        ovp_least = ovp_room m;
        ovp_most = omega arith;
        uvl_most = h.uvl_most;
      }
  order_keeps s (Out true) e h = remote_keeps (turned_on s) (turn_on_keeps s h)
  order_keeps s (Out false) e h = remote_keeps (with_want false s) h
  order_keeps s (Fld true) e h = h
  order_keeps s (Fld false) e h = K s.armed (disarmed s) s (disarm_keeps s h) h
  order_keeps s (Ast b) e h = h
  order_keeps s (Rmt k) e h = h
  order_keeps s (Fena b) e h = h
  order_keeps s (Sena b) e h = h
  order_keeps s Cls e h = h
  order_keeps s Rst e h = fresh_lawful m

  cleared_keeps : (t : Bool) (s : Supply) → Lawful m s → Lawful m (cleared t s)
  cleared_keeps t s h = K t (with_seve 0 (with_feve 0 s)) s h h

  act_keeps : (s : Supply) (a : Act) → code_of m s a ≡ 0 → Lawful m s → Lawful m (acted m s a)
  unfolding acted code_of
  act_keeps s (Lines b) e h = lines_keeps s b h
  act_keeps s (Sample v a) e h = sample_keeps s v a h
  act_keeps s (Press k) e h = key_keeps s k h
  act_keeps s (Turn t raw) e h = knob_keeps s t raw h
  act_keeps s (Obey o) e h = order_keeps s o e h
  act_keeps s (Ask q) e h = by_query (λ q x. Lawful m x) s (λ q. h) h h q
  act_keeps s Nothing e h = h

  forgotten_keeps : (s : Supply) → Lawful m s → Lawful m (cv_forgotten s)
  unfolding cv_forgotten
  forgotten_keeps s h = h

  settled_keeps : (s t : Supply) → Lawful m t → Lawful m (settled m s t)
  unfolding settled seve_gained feve_gained
  settled_keeps s t h = h

  -- EVERY ACT keeps margins and limits
  pub performed_lawful : (s : Supply) (a : Act) → Lawful m s → Lawful m (performed m s a)
  unfolding performed
  performed_lawful s a h = by_code (eqb (code_of m s a) 0) refl
    where
      by_code : (t : Bool) → eqb (code_of m s a) 0 ≡ t → Lawful m (pick t (closed a (settled m s (acted m s a))) s)
      by_code true e =
          forgotten_keeps (cleared (clearing_act a) (settled m s (acted m s a)))
          (cleared_keeps (clearing_act a) (settled m s (acted m s a))
          (settled_keeps s (acted m s a) (act_keeps s a (eqb-true (code_of m s a) 0 e) h)))
      by_code false e = h
