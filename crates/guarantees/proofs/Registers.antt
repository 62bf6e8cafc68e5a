-- FEVE and SEVE after an act, bit by bit: the first stage changes them only to clear them, and what they watch is settled
-- before they gain.
use Prim.Native.Nat.{ℕ, ◌<◌}
use mathlib.Core.Path.{◌≡◌, refl, sym, ap, ◌∙◌}
use mathlib.Core.Bool.{Bool, true, false, not, ◌&&◌, ◌||◌, false≢true}
use mathlib.Core.Logic.{inl, inr, ⊎_map}
use lib.Bits.{bit_and}
use lib.Dec.{eqb}
use borrow.Author.Tests.{eq-eqb, eqb-true, eqb-false}
use Rattle.base.specs.Choice.{pick}
use Rattle.base.specs.Bits.{bit_at}
use Rattle.base.proofs.Choice.{pick_true, pick_false, pick_keeps}
use Rattle.models.specs.Models.{limits_of}
use Rattle.supply.specs.declared.Supply.{Supply}
use Rattle.supply.specs.declared.Target.{Target}
use Rattle.supply.specs.declared.Target.TheVariants.{Pv, Pc, Ovp, Uvl}
use Rattle.supply.specs.declared.Key.{Key}
use Rattle.supply.specs.declared.Key.TheVariants.{Output, Fold, Local}
use Rattle.supply.specs.declared.Order.{Order}
use Rattle.supply.specs.declared.Order.TheVariants.{Set, Ovm, Out, Fld, Ast, Rmt, Fena, Sena, Cls, Rst}
use Rattle.supply.specs.declared.Query.{Query}
use Rattle.supply.specs.declared.Query.TheVariants as query
use Rattle.supply.specs.declared.Act.{Act}
use Rattle.supply.specs.declared.Act.TheVariants.{Lines, Sample, Press, Turn, Obey, Ask, Nothing}
use Rattle.supply.specs.With.{with_fena, with_feve, with_sena, with_seve, with_cv_seen, with_want, with_armed, with_mode}
use Rattle.supply.specs.Flt.{flt_of, on_of, lines_clear, in_limit}
use Rattle.supply.specs.Stat.{stat_of}
use Rattle.supply.specs.Memory.{cv_forgotten}
use Rattle.supply.specs.Registers.{feve_gained, seve_gained, settled}
use Rattle.supply.proofs.Gains.{feve_bit, seve_bit, feve_none, seve_none, seve_idle, settled_idle}
use Rattle.settings.specs.Settings.{with_setting, stepped}
use Rattle.samples.specs.Samples.{sampled}
use Rattle.events.specs.Events.{lines_changed, turned_on, disarmed, pressed, turned}
use Rattle.events.proofs.Cases.{lines_law, disarm_law}
use Rattle.codes.specs.Codes.{order_code}
use Rattle.orders.specs.Orders.{remote, remote_by, out_done, fld_done, sena_bits, reset, ordered}
use Rattle.acts.specs.Acts.{code_of, after_query, clearing_order, clearing_act, cleared, acted, closed, performed}
use Rattle.acts.proofs.Clearing.{order_is, by_query}
use Rattle.acts.proofs.Idle.{unmoved, query_done}
use Rattle.guarantees.specs.Memory.{SeenOn}
use Rattle.guarantees.specs.Registers.{Register, feve, seve, held_in, watched, enabled_for, query_for, Clears, gains, RegisterGain, EnablesKept}

-- the order that sets what enables a register
abbrev enabling : Register → ℕ → Order
enabling feve b = Fena b
enabling seve b = Sena b

by_register : (P : Register → Type 0) → P feve → P seve → (r : Register) → P r
by_register P f e feve = f
by_register P f e seve = e

-- both registers, FENA, SENA and the CV memory as supply s has them
module _ (s : Supply) where
  pub record Same (t : Supply) : Type 0 where
    feve_is : t.feve ≡ s.feve
    seve_is : t.seve ≡ s.seve
    fena_is : t.fena ≡ s.fena
    sena_is : t.sena ≡ s.sena
    pub seen_is : t.cv_seen ≡ s.cv_seen

  held : (r : Register) {t : Supply} → Same t → held_in r t ≡ held_in r s
  held feve h = h.feve_is
  held seve h = h.seve_is

  enabled : (r : Register) {t : Supply} → Same t → enabled_for r t ≡ enabled_for r s
  enabled feve h = h.fena_is
  enabled seve h = h.sena_is

  -- a change of anything else, by its value
  other : (t : Supply) → t.feve ≡ s.feve → t.seve ≡ s.seve → t.fena ≡ s.fena → t.sena ≡ s.sena
      → t.cv_seen ≡ s.cv_seen → Same t
  other t f e n k c = record { feve_is = f; seve_is = e; fena_is = n; sena_is = k; seen_is = c }

  same : Same s
  same = other s refl refl refl refl refl

  abbrev S : (t : Bool) (a b : Supply) → Same a → Same b → Same (pick t a b)
  S = pick_keeps Same

  disarm_same : Same (disarmed s)
  disarm_same = rw (← disarm_law s) (other _ refl refl refl refl refl)

  turned_on_same : Same (turned_on s)
  unfolding turned_on
  turned_on_same = other _ refl refl refl refl refl

  pub key_same : (k : Key) → Same (pressed s k)
  unfolding pressed
  key_same Output =
      S (eqb s.mode 0) (pick (on_of s) (with_want false s) (pick (lines_clear s) (turned_on s) s)) s
      (S (on_of s) (with_want false s) (pick (lines_clear s) (turned_on s) s) (other _ refl refl refl refl refl)
      (S (lines_clear s) (turned_on s) s turned_on_same same))
      same
  key_same Fold =
      S (eqb s.mode 0) (pick s.armed (disarmed s) (with_armed true s)) s
      (S s.armed (disarmed s) (with_armed true s) disarm_same (other _ refl refl refl refl refl))
      same
  key_same Local = S (eqb s.mode 1) (with_mode 0 s) s (other _ refl refl refl refl refl) same

  setting_same : (t : Target) (x : ℕ) → Same (with_setting t x s)
  unfolding with_setting
  setting_same Pv x = other _ refl refl refl refl refl
  setting_same Pc x = other _ refl refl refl refl refl
  setting_same Ovp x = other _ refl refl refl refl refl
  setting_same Uvl x = other _ refl refl refl refl refl

  pub knob_same : (m : ℕ) (t : Target) (raw : ℕ) → Same (turned m s t raw)
  unfolding turned
  knob_same m t raw =
      let x : ℕ = stepped (limits_of m) s t raw in
      S (eqb s.mode 0) (with_setting t x s) s (setting_same t x) same

  set_same : (t : Target) (x : ℕ) → Same (remote_by t (with_setting t x s))
  unfolding remote_by remote with_setting
  set_same Pv x = other _ refl refl refl refl refl
  set_same Pc x = other _ refl refl refl refl refl
  set_same Ovp x = other _ refl refl refl refl refl
  set_same Uvl x = other _ refl refl refl refl refl

  -- what holds after FENA, SENA, CLS and RST, and where all of these are as they were, holds after every order
  pub by_order :
      (P : Order → Supply → Type 0) (m : ℕ)
      → ((o : Order) (t : Supply) → Same t → P o t)
      → ((b : ℕ) → P (Fena b) (ordered m s (Fena b))) → ((b : ℕ) → P (Sena b) (ordered m s (Sena b)))
      → P Cls (ordered m s Cls) → P Rst (ordered m s Rst)
      → (o : Order) → P o (ordered m s o)
  unfolding ordered out_done fld_done remote turned_on
  by_order P m h f e c r (Set t n) = h (Set t n) _ (set_same t n)
  by_order P m h f e c r Ovm = h Ovm _ (other _ refl refl refl refl refl)
  by_order P m h f e c r (Out true) = h (Out true) _ (other _ refl refl refl refl refl)
  by_order P m h f e c r (Out false) = h (Out false) _ (other _ refl refl refl refl refl)
  by_order P m h f e c r (Fld true) = h (Fld true) _ (other _ refl refl refl refl refl)
  by_order P m h f e c r (Fld false) = h (Fld false) _ (S s.armed (disarmed s) s disarm_same same)
  by_order P m h f e c r (Ast b) = h (Ast b) _ (other _ refl refl refl refl refl)
  by_order P m h f e c r (Rmt k) = h (Rmt k) _ (other _ refl refl refl refl refl)
  by_order P m h f e c r (Fena b) = f b
  by_order P m h f e c r (Sena b) = e b
  by_order P m h f e c r Cls = c
  by_order P m h f e c r Rst = r

  order_same : (r : Register) (m : ℕ) (o : Order) → (o ≡ Cls → ⊥) → (o ≡ Rst → ⊥) → held_in r (ordered m s o) ≡ held_in r s
  unfolding ordered
  order_same r m =
      by_order (λ o t. (o ≡ Cls → ⊥) → (o ≡ Rst → ⊥) → held_in r t ≡ held_in r s) m
      (λ o t h c d. held r h) (λ b c d. by_register (λ r. held_in r (with_fena b s) ≡ held_in r s) refl refl r)
      (λ b c d. by_register (λ r. held_in r (with_sena (bit_and b sena_bits) s) ≡ held_in r s) refl refl r) (λ c d. absurd (c refl)) (λ c d. absurd (d refl))

  -- the order that sets what enables the register
  order_enables : (r : Register) (m : ℕ) (o : Order) → ((b : ℕ) → o ≡ enabling r b → ⊥) → enabled_for r (ordered m s o) ≡ enabled_for r s
  unfolding ordered reset
  order_enables feve m =
      by_order (λ o t. ((b : ℕ) → o ≡ Fena b → ⊥) → t.fena ≡ s.fena) m
      (λ o t h n. h.fena_is) (λ b n. absurd (n b refl)) (λ b n. refl) (λ n. refl) (λ n. refl)
  order_enables seve m =
      by_order (λ o t. ((b : ℕ) → o ≡ Sena b → ⊥) → t.sena ≡ s.sena) m
      (λ o t h n. h.sena_is) (λ b n. refl) (λ b n. absurd (n b refl)) (λ n. refl) (λ n. refl)

  -- a query clears no register but its own
  query_same : (r : Register) (q : Query) → (q ≡ query_for r → ⊥) → held_in r (after_query q s) ≡ held_in r s
  query_same feve q =
      by_query (λ p x. (p ≡ query.Feve → ⊥) → x.feve ≡ s.feve) s (λ p n. refl) (λ n. absurd (n refl)) (λ n. refl) q
  query_same seve q =
      by_query (λ p x. (p ≡ query.Seve → ⊥) → x.seve ≡ s.seve) s (λ p n. refl) (λ n. refl) (λ n. absurd (n refl)) q

  pub lines_same : (b : ℕ) → Same (lines_changed s b)
  lines_same b = rw (← lines_law s b) (other _ refl refl refl refl refl)

  -- a sample can set the CV memory, and nothing of the rest
  sample_held : (r : Register) (m v a : ℕ) → (held_in r (sampled m s v a) ≡ held_in r s) × (enabled_for r (sampled m s v a) ≡ enabled_for r s)
  unfolding sampled
  sample_held feve m v a = (refl, refl)
  sample_held seve m v a = (refl, refl)

  -- the first stage leaves a register alone unless the act clears it
  acted_same : (r : Register) (m : ℕ) (a : Act) → (Clears r a → ⊥) → held_in r (acted m s a) ≡ held_in r s
  unfolding acted
  acted_same r m (Lines b) n = held r (lines_same b)
  acted_same r m (Sample v a) n = (sample_held r m v a).0
  acted_same r m (Press k) n = held r (key_same k)
  acted_same r m (Turn t raw) n = held r (knob_same m t raw)
  acted_same r m (Obey o) n = order_same r m o (λ e. n (inr (inl (ap Obey e)))) (λ e. n (inr (inr (ap Obey e))))
  acted_same r m (Ask q) n = query_same r q (λ e. n (inl (ap Ask e)))
  acted_same r m Nothing n = refl

  -- and what enables it unless the act is the order for that
  acted_enables : (r : Register) (m : ℕ) (a : Act) → ((b : ℕ) → a ≡ Obey (enabling r b) → ⊥) → enabled_for r (acted m s a) ≡ enabled_for r s
  unfolding acted
  acted_enables r m (Lines b) n = enabled r (lines_same b)
  acted_enables r m (Sample v a) n = (sample_held r m v a).1
  acted_enables r m (Press k) n = enabled r (key_same k)
  acted_enables r m (Turn t raw) n = enabled r (knob_same m t raw)
  acted_enables r m (Obey o) n = order_enables r m o (λ b e. n b (ap Obey e))
  acted_enables r m (Ask q) n = enabled_after r
    where
      enabled_after : (r : Register) → enabled_for r (after_query q s) ≡ enabled_for r s
      enabled_after feve = by_query (λ p x. x.fena ≡ s.fena) s (λ p. refl) refl refl q
      enabled_after seve = by_query (λ p x. x.sena ≡ s.sena) s (λ p. refl) refl refl q
  acted_enables r m Nothing n = refl

-- what a register watches does not depend on SEVE
watched_seve : (m : ℕ) (s t : Supply) → (flt_of (seve_gained m s t) ≡ flt_of t) × (stat_of m (seve_gained m s t) ≡ stat_of m t)
unfolding seve_gained flt_of stat_of on_of in_limit
watched_seve m s t = (refl, refl)

-- nor on the CV memory; and forgetting moves no register
forgotten_held : (r : Register) (s : Supply) → held_in r (cv_forgotten s) ≡ held_in r s
unfolding cv_forgotten
forgotten_held feve s = refl
forgotten_held seve s = refl

forgotten_watched : (r : Register) (m : ℕ) (s : Supply) → watched r m (cv_forgotten s) ≡ watched r m s
unfolding cv_forgotten flt_of stat_of on_of in_limit
forgotten_watched feve m s = refl
forgotten_watched seve m s = refl

feve_flt : (s t : Supply) → flt_of (feve_gained s t) ≡ flt_of t
unfolding feve_gained flt_of
feve_flt s t = refl

feve_seve : (s t : Supply) → (feve_gained s t).seve ≡ t.seve
unfolding feve_gained
feve_seve s t = refl

seve_feve : (m : ℕ) (s t : Supply) → (seve_gained m s t).feve ≡ t.feve
unfolding seve_gained
seve_feve m s t = refl

-- the third stage clears the registers only in CLS and RST
unclosing : (r : Register) (a : Act) → (Clears r a → ⊥) → clearing_act a ≡ false
unfolding clearing_act
unclosing r (Obey o) n = order_open (clearing_order o) refl
  where
    order_open : (b : Bool) → clearing_order o ≡ b → b ≡ false
    order_open true e = absurd (n (inr (⊎_map (ap Obey) (ap Obey) (order_is o e))))
    order_open false e = refl
unclosing r (Ask q) n = refl
unclosing r (Lines b) n = refl
unclosing r (Sample v a) n = refl
unclosing r (Press k) n = refl
unclosing r (Turn t raw) n = refl
unclosing r Nothing n = refl

-- forgetting changes nothing where the memory is set only with the output on
pub seen_only : (on seen : Bool) → (seen ≡ true → on ≡ true) → (on && seen) ≡ seen
seen_only true seen h = refl
seen_only false true h = absurd (false≢true (h refl))
seen_only false false h = refl

pub nothing_forgotten : (s : Supply) → SeenOn s → cv_forgotten s ≡ s
unfolding cv_forgotten
nothing_forgotten s h = ap (λ (b : Bool). with_cv_seen b s) (seen_only (on_of s) s.cv_seen h)

module _ (m : ℕ) (s : Supply) where
  pub accepted : (a : Act) → code_of m s a ≡ 0 → performed m s a ≡ closed a (settled m s (acted m s a))
  unfolding performed
  accepted a e = pick_true _ _ _ (eq-eqb (code_of m s a) 0 e)

  -- an accepted act that clears neither register at its close is its first stage, settled, but for the CV memory
  unclosed : (r : Register) (a : Act) → code_of m s a ≡ 0 → (Clears r a → ⊥) → performed m s a ≡ cv_forgotten (settled m s (acted m s a))
  unclosed r a e n = accepted a e ∙ ap cv_forgotten (pick_false _ _ _ (unclosing r a n))

  module _ (a : Act) where
    abbrev t : Supply
    t = acted m s a

    -- what the register watches after the act, as its second stage sees it
    abbrev shown : Register → ℕ
    shown feve = flt_of t
    shown seve = stat_of m (feve_gained s t)

    watched_settled : (r : Register) → watched r m (settled m s t) ≡ shown r
    unfolding settled
    watched_settled feve = (watched_seve m s (feve_gained s t)).0 ∙ feve_flt s t
    watched_settled seve = (watched_seve m s (feve_gained s t)).1

    abbrev rose : Register → ℕ → Bool
    rose r k = (bit_at k (shown r) && not (bit_at k (watched r m s))) && bit_at k (enabled_for r s)

    settled_bit : (r : Register) (k : ℕ) → k < 8 → bit_at k (held_in r (settled m s t)) ≡ (bit_at k (held_in r t) || rose r k)
    settled_bit feve k h = feve_bit s t m k h
    settled_bit seve k h = seve_bit s t m k h

    settled_none : (r : Register) → ((k : ℕ) → k < 8 → rose r k ≡ false) → held_in r (settled m s t) ≡ held_in r t
    unfolding settled
    settled_none feve idle = seve_feve m s (feve_gained s t) ∙ ap (λ (x : Supply). x.feve) (feve_none s t idle)
    settled_none seve idle = ap (λ (x : Supply). x.seve) (seve_none s (feve_gained s t) m idle) ∙ feve_seve s t

    module _ (r : Register) (n : Clears r a → ⊥) where
      watched_after : code_of m s a ≡ 0 → watched r m (performed m s a) ≡ shown r
      watched_after e = ap (watched r m) (unclosed r a e n) ∙ forgotten_watched r m (settled m s t) ∙ watched_settled r

      held_after : code_of m s a ≡ 0 → held_in r (performed m s a) ≡ held_in r (settled m s t)
      held_after e = ap (held_in r) (unclosed r a e n) ∙ forgotten_held r (settled m s t)

      bits : code_of m s a ≡ 0 → (k : ℕ) → k < 8 → bit_at k (held_in r (performed m s a)) ≡ (bit_at k (held_in r s) || gains r m s a k)
      bits e k h =
          rw (watched_after e)
          (ap (bit_at k) (held_after e)
          ∙ settled_bit r k h
          ∙ ap (λ (x : ℕ). bit_at k x || rose r k) (acted_same s r m a n))

      none : ((k : ℕ) → k < 8 → gains r m s a k ≡ false) → held_in r (performed m s a) ≡ held_in r s
      none idle = by_code (eqb (code_of m s a) 0) refl
        where
          by_code : (b : Bool) → eqb (code_of m s a) 0 ≡ b → held_in r (performed m s a) ≡ held_in r s
          by_code true e =
              let ok : code_of m s a ≡ 0 = eqb-true (code_of m s a) 0 e in
              let still : (k : ℕ) → k < 8 → rose r k ≡ false = λ k h. rw (watched_after ok) at (idle k h) in
              held_after ok ∙ settled_none r still ∙ acted_same s r m a n
          by_code false e = ap (held_in r) (unmoved m s a (eqb-false (code_of m s a) 0 e))

  -- FEVE? leaves FEVE 0; SEVE? raises no bit of STAT, and leaves SEVE 0; CLS and RST leave both 0
  cleared_stat : stat_of m (with_seve 0 s) ≡ stat_of m s
  unfolding stat_of on_of flt_of in_limit
  cleared_stat = refl

  asked_clears : (r : Register) → held_in r (performed m s (Ask (query_for r))) ≡ 0
  unfolding after_query
  asked_clears r = ap (held_in r) (sym (query_done m s (query_for r))) ∙ forgotten_held r _ ∙ own r
    where
      own : (r : Register) → held_in r (seve_gained m s (after_query (query_for r) s)) ≡ 0
      own feve = seve_feve m s (with_feve 0 s)
      own seve = ap (λ (x : Supply). x.seve) (seve_idle s (with_seve 0 s) m cleared_stat)

  order_clears : (r : Register) → (held_in r (performed m s (Obey Cls)) ≡ 0) × (held_in r (performed m s (Obey Rst)) ≡ 0)
  unfolding performed code_of order_code clearing_act clearing_order cv_forgotten
  order_clears feve = (refl, refl)
  order_clears seve = (refl, refl)

  clears : (r : Register) (a : Act) → Clears r a → held_in r (performed m s a) ≡ 0
  clears r a (inl e) = ap (λ (x : Act). held_in r (performed m s x)) e ∙ asked_clears r
  clears r a (inr (inl e)) = ap (λ (x : Act). held_in r (performed m s x)) e ∙ (order_clears r).0
  clears r a (inr (inr e)) = ap (λ (x : Act). held_in r (performed m s x)) e ∙ (order_clears r).1

  -- BOTH REGISTERS BIT BY BIT, after every act on every supply
  pub register_gain : (r : Register) (a : Act) → RegisterGain r m s a
  register_gain r a = record { refused = unmoved m s a; bits = λ e n. bits a r n e; none = none a r; clears = clears r a }

  -- the later stages leave FENA and SENA alone
  later_same : (t : Supply) (b : Bool)
      → ((cv_forgotten (cleared b (settled m s t))).fena ≡ t.fena) × ((cv_forgotten (cleared b (settled m s t))).sena ≡ t.sena)
  unfolding settled seve_gained feve_gained cv_forgotten
  later_same t true = (refl, refl)
  later_same t false = (refl, refl)

  moved_by : (P : Supply → Type 0) (a : Act) → P s → P (closed a (settled m s (acted m s a))) → P (performed m s a)
  unfolding performed
  moved_by P a h k = pick_keeps P (eqb (code_of m s a) 0) (closed a (settled m s (acted m s a))) s k h

  -- WHAT MOVES FENA AND SENA. Neither shows in FLT or STAT, so taking one adds nothing to the event registers.
  pub enables_kept : EnablesKept m s
  unfolding performed code_of order_code clearing_act clearing_order acted ordered flt_of stat_of on_of in_limit
  enables_kept =
      let fena : (b : ℕ) → performed m s (Obey (Fena b)) ≡ cv_forgotten (with_fena b s) =
      λ b. ap cv_forgotten (settled_idle m s (with_fena b s) refl refl) in
      let sena : (b : ℕ) → performed m s (Obey (Sena b)) ≡ cv_forgotten (with_sena (bit_and b 0x8F) s) =
      λ b. ap cv_forgotten (settled_idle m s (with_sena (bit_and b 0x8F) s) refl refl) in
      record {
        fena_taken = fena;
        sena_taken = sena;
        fena_alone = λ h b. fena b ∙ nothing_forgotten (with_fena b s) h;
        sena_alone = λ h b. sena b ∙ nothing_forgotten (with_sena (bit_and b 0x8F) s) h;
        fena_kept = λ a n. moved_by (λ (x : Supply). x.fena ≡ s.fena) a refl ((later_same (acted m s a) (clearing_act a)).0 ∙ acted_enables s feve m a n);
        sena_kept = λ a n. moved_by (λ (x : Supply). x.sena ≡ s.sena) a refl ((later_same (acted m s a) (clearing_act a)).1 ∙ acted_enables s seve m a n);
      }
