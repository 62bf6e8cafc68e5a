-- The CV memory over whole lists of entries, from what each entry makes of it.
use Prim.Native.Nat.{ℕ}
use mathlib.Core.Path.{◌≡◌, refl, sym, ap, ◌∙◌}
use mathlib.Core.Bool.{Bool, true, false, not, ◌&&◌, ◌||◌, false≢true, true≢false, and-eq-true_iff, or-false, or_comm}
use mathlib.Core.Logic.{◌⊎◌, inl, inr, ⊎_elim}
use mathlib.Core.List.{List, [], ◌∷◌, foldl, foldl-append}
use lib.Dec.{leb, eqb}
use borrow.Author.Tests.{eqb-true}
use Rattle.base.specs.Choice.{pick}
use Rattle.base.proofs.Choice.{pick_keeps}
use Rattle.wire.specs.Wire.{Entry, field, line}
use Rattle.wire.proofs.Machine.{holds_throughout}
use Rattle.models.specs.Models.{amp_reading}
use Rattle.supply.specs.declared.Supply.{Supply}
use Rattle.supply.specs.declared.Act.{Act}
use Rattle.supply.specs.declared.Act.TheVariants.{Sample, Obey, Nothing}
use Rattle.supply.specs.State.{fresh}
use Rattle.supply.specs.Flt.{on_of}
use Rattle.acts.specs.Acts.{performed}
use Rattle.guarantees.specs.Releases.{fold, is_set}
use Rattle.guarantees.specs.Trips.{FoldNeeds}
use Rattle.guarantees.specs.Memory.{SeenOn, reads_below_pc}
use Rattle.guarantees.proofs.Trips.{trip_set}
use Rattle.guarantees.proofs.Registers.{seen_only}
use Rattle.guarantees.proofs.Memory.{memory_after, fresh_unseen, fresh_seen_on}
use Rattle.parameters.specs.Parameters.{parameter_of}
use Rattle.asks.specs.Asks.{Asks}
use Rattle.asks.specs.Asks.{Select, BadSelect, Everyone, Nobody, One, Error}
use Rattle.asks.specs.Words.{Command, to_one, of_one, to_all, selecting, unknown_word, kind_of, asks_with, fails_with, asked_by}
use Rattle.command.specs.Lines.{heard_of}
use Rattle.protocol.specs.Sent.{obeyed}
use Rattle.field.specs.Fields.{pair_at, act_of, press_of, turn_of}
use Rattle.plain.specs.Plain.{step_of}
use Rattle.plain.specs.Remembered.{samples_below_pc, cv_sample, stays_on, CvSince, Remembers}
use Rattle.plain.proofs.Heard.{heard_has}

module _ (m : ℕ) (s : Supply) where
  abbrev NotBelow : Act → Type 0
  NotBelow a = reads_below_pc m s a ≡ false

  -- no line is a sample
  abbrev NoSample : Asks → Type 0
  NoSample (One a) = NotBelow a
  NoSample (Everyone o) = Unit
  NoSample (Select n) = Unit
  NoSample (BadSelect c) = Unit
  NoSample Nobody = Unit
  NoSample (Error c) = Unit

  word_no_sample : (k : Command) (x : List ℕ) → NoSample (asked_by k x)
  unfolding asked_by
  word_no_sample k x =
      pick_keeps NoSample (eqb (parameter_of (kind_of k) x).code 0)
      (asks_with k (parameter_of (kind_of k) x).value) (fails_with k (parameter_of (kind_of k) x).code)
      (asks k (parameter_of (kind_of k) x).value) (fails k (parameter_of (kind_of k) x).code)
    where
      asks : (k : Command) (n : ℕ) → NoSample (asks_with k n)
      asks (to_one o) n = refl
      asks (of_one q) n = refl
      asks (to_all o) n = tt
      asks selecting n = tt
      asks unknown_word n = tt

      fails : (k : Command) (c : ℕ) → NoSample (fails_with k c)
      fails (to_one o) c = tt
      fails (of_one q) c = tt
      fails (to_all o) c = tt
      fails selecting c = tt
      fails unknown_word c = tt

  line_no_sample : (kept : List ℕ) (spoiled : Bool) → NoSample (heard_of kept spoiled).asks
  line_no_sample = heard_has NoSample refl (λ c. tt) word_no_sample

  -- of the fields, tag 5 is a sample and no other
  press_other : (n : ℕ) → NotBelow (press_of n)
  unfolding press_of
  press_other n =
      pick_keeps NotBelow (eqb n 0) _ _ refl (pick_keeps NotBelow (eqb n 1) _ _ refl (pick_keeps NotBelow (eqb n 2) _ _ refl refl))

  turn_other : (n step : ℕ) → NotBelow (turn_of n step)
  unfolding turn_of
  turn_other n step =
      pick_keeps NotBelow (eqb n 0) _ _ refl
      (pick_keeps NotBelow (eqb n 1) _ _ refl (pick_keeps NotBelow (eqb n 2) _ _ refl (pick_keeps NotBelow (eqb n 3) _ _ refl refl)))

  -- a sample with this ampere count reads below PC
  abbrev under : ℕ → Bool
  under a = not (leb s.pc (amp_reading m a))

  tag_5 : (t : ℕ) (p : List ℕ) → reads_below_pc m s (act_of t p) ≡ samples_below_pc m s (field t p)
  unfolding act_of
  tag_5 t p = chosen _ _ _ (press_other _) (turn_other _ _) refl
    where
      fifth : (b : Bool) → reads_below_pc m s (pick b (Sample (pair_at p 1) (pair_at p 3)) Nothing) ≡ (b && under (pair_at p 3))
      fifth true = refl
      fifth false = refl

      -- an act that is no sample, before the others, if the tag is not 5
      before : (a : Act) → NotBelow a → (rest : Act) → reads_below_pc m s rest ≡ (eqb t 5 && under (pair_at p 3)) → (k : ℕ) → eqb k 5 ≡ false
          → (b : Bool) → eqb t k ≡ b → reads_below_pc m s (pick b a rest) ≡ (eqb t 5 && under (pair_at p 3))
      before a h rest r k n true e = h ∙ sym (rw (eqb-true t k e, n) refl)
      before a h rest r k n false e = r

      chosen : (a b c : Act) → NotBelow a → NotBelow b → NotBelow c
          → reads_below_pc m s (pick (eqb t 2) a (pick (eqb t 3) b (pick (eqb t 4) c (pick (eqb t 5) (Sample (pair_at p 1) (pair_at p 3)) Nothing)))) ≡ (eqb t 5 && under (pair_at p 3))
      chosen a b c i j k =
          before a i _ (before b j _ (before c k _ (fifth (eqb t 5)) 4 refl (eqb t 4) refl) 3 refl (eqb t 3) refl) 2 refl (eqb t 2) refl

-- the memory that an entry leaves in t
abbrev After : Supply → Bool → Supply → Type 0
After s below t = t.cv_seen ≡ (on_of t && (s.cv_seen || below))

module _ (m : ℕ) (s : Supply) (h : SeenOn s) where
  untouched : After s false s
  untouched = rw or-false (sym (seen_only (on_of s) s.cv_seen h))

  obeyed_after : (a : Asks) → NoSample m s a → After s false (obeyed m s a)
  unfolding obeyed
  obeyed_after (One a) n = rw n at ((memory_after m s a).always h)
  obeyed_after (Everyone o) n = (memory_after m s (Obey o)).always h
  obeyed_after (Select k) n = untouched
  obeyed_after (BadSelect c) n = untouched
  obeyed_after Nobody n = untouched
  obeyed_after (Error c) n = untouched

  step_after : (e : Entry) → After s (samples_below_pc m s e) (step_of m s e)
  unfolding step_of
  step_after (field t p) = rw (tag_5 m s t p) at ((memory_after m s (act_of t p)).always h)
  step_after (line kept spoiled) = obeyed_after (heard_of kept spoiled).asks (line_no_sample m s kept spoiled)

  step_seen_on : (e : Entry) → SeenOn (step_of m s e)
  step_seen_on e seen = ((and-eq-true_iff (on_of (step_of m s e)) _).0 (sym (step_after e) ∙ seen)).0

  -- it is set after a sample judged CV, and otherwise only if it was set before
  step_judged : (e : Entry) → cv_sample m s e ≡ true → (step_of m s e).cv_seen ≡ true
  step_judged e j =
      let both = (and-eq-true_iff (samples_below_pc m s e) (on_of (step_of m s e))).0 j in
      step_after e ∙ rw (both.0, both.1) (or_comm s.cv_seen true)

  step_kept : (e : Entry) → cv_sample m s e ≡ false → (step_of m s e).cv_seen ≡ true → s.cv_seen ≡ true
  step_kept e j seen = before (on_of (step_of m s e)) s.cv_seen (samples_below_pc m s e) j (sym (step_after e) ∙ seen)
    where
      before : (on was below : Bool) → (below && on) ≡ false → (on && (was || below)) ≡ true → was ≡ true
      before true true below n e = refl
      before true false true n e = absurd (true≢false n)
      before true false false n e = e
      before false was below n e = absurd (false≢true e)

-- what sets the FOLD trip finds the memory set
module _ (m : ℕ) (s : Supply) (clear : is_set fold s ≡ false) where
  act_folds : (a : Act) → is_set fold (performed m s a) ≡ true → s.cv_seen ≡ true
  act_folds a e = ((trip_set m fold s).only a clear e).needs.seen

  obeyed_folds : (a : Asks) → is_set fold (obeyed m s a) ≡ true → s.cv_seen ≡ true
  unfolding obeyed
  obeyed_folds (One a) e = act_folds a e
  obeyed_folds (Everyone o) e = act_folds (Obey o) e
  obeyed_folds (Select n) e = absurd (false≢true (sym clear ∙ e))
  obeyed_folds (BadSelect c) e = absurd (false≢true (sym clear ∙ e))
  obeyed_folds Nobody e = absurd (false≢true (sym clear ∙ e))
  obeyed_folds (Error c) e = absurd (false≢true (sym clear ∙ e))

  step_folds : (x : Entry) → is_set fold (step_of m s x) ≡ true → s.cv_seen ≡ true
  unfolding step_of
  step_folds (field t p) e = act_folds (act_of t p) e
  step_folds (line kept spoiled) e = obeyed_folds (heard_of kept spoiled).asks e

module _ (m : ℕ) where
  starts_on : (s : Supply) (es : List Entry) → stays_on m s es ≡ true → on_of s ≡ true
  starts_on s [] on = on
  starts_on s (e ∷ es) on = ((and-eq-true_iff (on_of s) _).0 on).0

  -- once set, it stays while the output is on
  stays_seen : (s : Supply) → SeenOn s → (es : List Entry) → s.cv_seen ≡ true → stays_on m s es ≡ true
      → (foldl (step_of m) s es).cv_seen ≡ true
  stays_seen s h [] seen on = seen
  stays_seen s h (e ∷ es) seen on =
      let tail = ((and-eq-true_iff (on_of s) _).0 on).1 in
      stays_seen (step_of m s e) (step_seen_on m s h e) es
      (step_after m s h e ∙ rw (starts_on (step_of m s e) es tail, seen) refl)
      tail

  -- and it was set at the start, or by one of the entries
  seen_from : (s : Supply) → SeenOn s → (es : List Entry) → (foldl (step_of m) s es).cv_seen ≡ true
      → ((s.cv_seen ≡ true) × (stays_on m s es ≡ true)) ⊎ CvSince m s es
  seen_from s h [] seen = inl (seen, h seen)
  seen_from s h (e ∷ es) seen = by_tail (seen_from (step_of m s e) (step_seen_on m s h e) es seen)
    where
      by_judged : (b : Bool) → cv_sample m s e ≡ b → (step_of m s e).cv_seen ≡ true → stays_on m (step_of m s e) es ≡ true
          → ((s.cv_seen ≡ true) × (stays_on m s (e ∷ es) ≡ true)) ⊎ CvSince m s (e ∷ es)
      by_judged true j seen on =
          inr (record { before = []; entry = e; later = es; splits = refl; judged = j; on_since = on })
      by_judged false j seen on =
          let was = step_kept m s h e j seen in
          inl (was, rw (h was) on)

      by_tail : (((step_of m s e).cv_seen ≡ true) × (stays_on m (step_of m s e) es ≡ true)) ⊎ CvSince m (step_of m s e) es
          → ((s.cv_seen ≡ true) × (stays_on m s (e ∷ es) ≡ true)) ⊎ CvSince m s (e ∷ es)
      by_tail (inl f) = by_judged (cv_sample m s e) refl f.0 f.1
      by_tail (inr c) =
          inr
          (record {
            before = e ∷ c.before;
            entry = c.entry;
            later = c.later;
            splits = ap {B = List Entry} (λ z. e ∷ z) c.splits;
            judged = c.judged;
            on_since = c.on_since;
          })

  seen_on_after : (es : List Entry) → SeenOn (foldl (step_of m) (fresh m) es)
  seen_on_after es = holds_throughout (step_of m) SeenOn (λ s e h. step_seen_on m s h e) (fresh m) es (fresh_seen_on m)

  tag_5_folds : (s : Supply) (p : List ℕ) → FoldNeeds m s (pair_at p 1) (pair_at p 3) → is_set fold (step_of m s (field 5 p)) ≡ true
  unfolding step_of act_of
  tag_5_folds s p n = (trip_set m fold s).when (pair_at p 1) (pair_at p 3) n

  seen_since : (es : List Entry) → (foldl (step_of m) (fresh m) es).cv_seen ≡ true → CvSince m (fresh m) es
  seen_since es seen = ⊎_elim (λ f. absurd (fresh_unseen m f.0)) (λ c. c) (seen_from (fresh m) (fresh_seen_on m) es seen)

  -- THE MEMORY OVER ANY LIST OF ENTRIES
  pub remembers : (es : List Entry) → Remembers m es
  remembers es =
      record {
        seen = seen_since es;
        since = λ c.
            let s = foldl (step_of m) (fresh m) c.before in
            let h : SeenOn s = seen_on_after c.before in
            rw (c.splits, foldl-append (step_of m) (fresh m) c.before (c.entry ∷ c.later))
            (stays_seen (step_of m s c.entry) (step_seen_on m s h c.entry) c.later (step_judged m s h c.entry c.judged) c.on_since);
        on = seen_on_after es;
        folds_when = λ p n. tag_5_folds (foldl (step_of m) (fresh m) es) p n;
        folds = λ e clear set. seen_since es (step_folds m (foldl (step_of m) (fresh m) es) clear e set);
      }
