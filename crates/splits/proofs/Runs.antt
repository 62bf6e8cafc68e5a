-- The rack that fields reach after any run has the view of the rack of a longer run: demand 3 applies to it too.
use Prim.Native.Nat.{ℕ, zero, suc, ◌+◌, ◌≤◌}
use mathlib.Core.Bool.{Bool, true, false}
use mathlib.Core.Path.{◌≡◌, refl, sym, ap, subst, ◌∙◌}
use mathlib.Core.List.{List, [], ◌∷◌, ◌++◌, append-nil, append_assoc}
use lib.ListN.{length, drop}
use Rattle.wire.specs.Wire.{Call}
use Rattle.base.specs.Choice.{pick}
use Rattle.wire.specs.Rack.{refused, done, call_of, after, run_from, run}
use Rattle.wire.specs.Rack as wire
use Rattle.wire.specs.declared.Setup.{Setup}
use Rattle.wire.proofs.Lawful.{run_fresh_lawful}
use Rattle.supply.specs.declared.Supply.{Supply}
use Rattle.plain.specs.Plain.{plain_supply}
use Rattle.slots.specs.declared.Rack.{Rack}
use Rattle.slots.specs.View.{view_of}
use Rattle.isolation.specs.Demand3.{Leads, Run}
use Rattle.isolation.proofs.Isolation.{run_seen}
use Rattle.isolation.proofs.Existence.{packed, view_is, answer_as, through}
use Rattle.engine.specs.declared.Worked.{Worked}
use Rattle.field.specs.Refusals.{refusal_code}
use Rattle.engine.specs.Engine.{field_at, Ran, ran, after_field, fields_from, fields_on, calls_after, calls_from, calls_on, full_at, WorkDoes}

run_more : (v : wire.Rack Supply) (cs : List Call) (c : Call) → run_from plain_supply v (cs ++ c ∷ []) ≡ after plain_supply (run_from plain_supply v cs) (call_of plain_supply (run_from plain_supply v cs) c)
run_more v [] c = refl
run_more v (d ∷ cs) c = run_more (after plain_supply v (call_of plain_supply v d)) cs c

leads_then : (cs ds : List Call) (r q p : Rack) → Leads r cs q → Leads q ds p → Leads r (cs ++ ds) p
leads_then [] ds r q p e h = subst (λ (x : Rack). Leads x ds p) e h
leads_then (c ∷ cs) ds r q p t h =
    record { buffer = t.buffer; room_is = t.room_is; answer = t.answer; left = t.left; does = t.does; rest = leads_then cs ds t.answer.rack q p t.rest h }

-- an accepted call leads to a rack with the view that it leaves
one_call : (m : Rack) (s : List ℕ) (q : wire.Rack Supply) (n : ℕ) (t : List ℕ) → length q.wire.kept ≤ 64 → call_of plain_supply (view_of m) (field_at s) ≡ done q n t → Leads m (field_at s ∷ []) (packed q)
one_call m s q n t short e = through m (field_at s) (λ p. packed q ≡ p) (rw e short) (ap (λ (w : wire.CallResult Supply). (answer_as m w).rack) (sym e))

-- and so it makes a run longer
short_after : (u : Setup) (cs : List Call) (m : Rack) → Run u cs m → (s : List ℕ) (q : wire.Rack Supply) (n : ℕ) (t : List ℕ) → call_of plain_supply (view_of m) (field_at s) ≡ done q n t → length q.wire.kept ≤ 64
short_after u cs m g s q n t e =
    let last : run plain_supply u (cs ++ field_at s ∷ []) ≡ q = run_more _ cs (field_at s) ∙ rw (← (run_seen u cs m g).is, e) refl in
    subst (λ (v : wire.Rack Supply). length v.wire.kept ≤ 64) last (run_fresh_lawful plain_supply u (cs ++ field_at s ∷ [])).short

run_then : (u : Setup) (cs : List Call) (m : Rack) → Run u cs m → (s : List ℕ) (q : wire.Rack Supply) (n : ℕ) (t : List ℕ) → call_of plain_supply (view_of m) (field_at s) ≡ done q n t → Run u (cs ++ field_at s ∷ []) (packed q)
run_then u cs m g s q n t e =
    record {
      list = g.list;
      setup_is = g.setup_is;
      good = g.good;
      fitting = g.fitting;
      fits = g.fits;
      leads = leads_then cs (field_at s ∷ []) g.fitting.rack m (packed q) g.leads (one_call m s q n t (short_after u cs m g s q n t e) e);
    }

-- a run on the setup u, of these calls, leads to a rack with this view
abbrev pub Reached : Setup → List Call → wire.Rack Supply → Type 0
Reached u cs q = (m : Rack) × Run u cs m × (view_of m ≡ q)

one_more : (u : Setup) (cs : List Call) (p q : wire.Rack Supply) (s : List ℕ) (n : ℕ) (t : List ℕ) → call_of plain_supply p (field_at s) ≡ done q n t → Reached u cs p → Reached u (cs ++ field_at s ∷ []) q
one_more u cs p q s n t e h = (packed q, run_then u cs h.0 h.1 s q n t (rw h.2 e), view_is q)

none_more : (u : Setup) (cs : List Call) (v : wire.Rack Supply) → Reached u cs v → Reached u (cs ++ []) v
none_more u cs v h = rw append-nil h

joined : (u : Setup) (cs : List Call) (c : Call) (ds : List Call) (q : wire.Rack Supply) → Reached u (cs ++ c ∷ [] ++ ds) q → Reached u (cs ++ (c ∷ ds)) q
joined u cs c ds q h = rw append_assoc at h

-- fields in turn, after a run, are a run that is longer by their calls
module _ (u : Setup) (stop : ℕ → Bool) (s : List ℕ) where
  run_step : (n : ℕ) (cs : List Call) (v : wire.Rack Supply) (used : ℕ) (said : List ℕ) → Reached u cs v
      → ((es : List Call) (q : wire.Rack Supply) (k : ℕ) (t : List ℕ) → Reached u es q → Reached u (es ++ calls_from n stop s q k t) (fields_from n stop s q k t).rack)
      → (a : wire.CallResult Supply) → call_of plain_supply v (field_at (drop used s)) ≡ a
      → Reached u (cs ++ calls_after (calls_from n stop s) stop s used said a) (after_field (fields_from n stop s) stop v used said a).rack
  run_step n cs v used said h ih (refused c) e = none_more u cs v h
  run_step n cs v used said h ih (done q k t) e = by_stop (stop (length (said ++ t)))
    where
      call : Call
      call = field_at (drop used s)

      next : Reached u (cs ++ call ∷ []) q
      next = one_more u cs v q (drop used s) k t e h

      by_stop : (g : Bool) → Reached u (cs ++ call ∷ pick g [] (calls_from n stop s q (used + k) (said ++ t))) (pick g (ran q (used + k) (said ++ t) 0) (fields_from n stop s q (used + k) (said ++ t))).rack
      by_stop true = next
      by_stop false = joined u cs call (calls_from n stop s q (used + k) (said ++ t)) _ (ih (cs ++ call ∷ []) q (used + k) (said ++ t) next)

  fields_run : (n : ℕ) (cs : List Call) (v : wire.Rack Supply) (used : ℕ) (said : List ℕ) → Reached u cs v → Reached u (cs ++ calls_from n stop s v used said) (fields_from n stop s v used said).rack
  fields_run zero cs v used said h = none_more u cs v h
  fields_run (suc n) cs v used said h = run_step n cs v used said h (λ es q k t. fields_run n es q k t) (call_of plain_supply v (field_at (drop used s))) refl

-- FIELDS WORKED AFTER A RUN ARE A LONGER RUN
pub cycle_run : (u : Setup) (calls : List Call) (r : Rack) → Run u calls r → (stop : ℕ → Bool) (s : List ℕ) (q : wire.Rack Supply) (used : ℕ) (said : List ℕ) (n : ℕ) → ran q used said n ≡ fields_on stop (view_of r) s
    → Reached u (calls ++ calls_on stop (view_of r) s) q
cycle_run u calls r g stop s q used said n e =
    let run = fields_run u stop s (suc (length s)) calls (view_of r) 0 [] (r, g, refl) in
    (run.0, run.1, run.2 ∙ ap (λ (R : Ran). R.rack) (sym e))

pub work_run : (u : Setup) (calls : List Call) (r : Rack) → Run u calls r → (s b : List ℕ) (full ending : ℕ) (w : Worked) (b' : List ℕ) → WorkDoes r s b full ending w b'
    → Reached u (calls ++ calls_on (full_at full) (view_of r) s) (view_of w.rack)
work_run u calls r g s b full ending w b' d = cycle_run u calls r g (full_at full) s (view_of w.rack) w.used d.said (refusal_code w.refusal) d.is
