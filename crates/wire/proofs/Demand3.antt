-- The proof of specs/Demand3.antt: a single address is a closed group, and what it takes of its joint share is its own
-- share.
use mathlib.Core.Path.{◌≡◌, refl, sym, ap, ◌∙◌}
use mathlib.Core.Bool.{Bool, true, false}
use mathlib.Core.List.{List, [], ◌∷◌, ◌++◌, foldl, foldl-append}
use Prim.Native.Nat.{ℕ}
use lib.Dec.{eqb}
use borrow.Author.Tests.{eqb-true, eq-eqb}
use Rattle.base.specs.Choice.{pick}
use Rattle.wire.specs.Machine.{given, flat, keep}
use Rattle.wire.specs.Wire.{Entry, Delivery, one, all, say, Call, model_at, fitted}
use Rattle.wire.specs.Share.{brought, for_slot, share_of, joint_share}
use Rattle.wire.specs.Rack.{Plain, next, run, slot, plain}
use Rattle.wire.specs.Laws.{Trips, Laws}
use Rattle.wire.specs.Demand3.{Demand3}
use Rattle.wire.specs.Groups.{touching}
use Rattle.wire.specs.declared.Setup.{Setup}
use Rattle.wire.proofs.Machine.{holds_throughout, tripped_off}
use Rattle.wire.proofs.Groups.{closed, group_ends}

-- what a single address takes of its joint share is its share
single_joint : (u : Setup) (a : ℕ) (ds : List Delivery) → flat (for_slot u a) (keep (touching (eqb a)) ds) ≡ flat (for_slot u a) ds
single_joint u a [] = refl
single_joint u a (all e ∷ ds) = ap (λ (x : List Entry). for_slot u a (all e) ++ x) (single_joint u a ds)
single_joint u a (say t ∷ ds) = single_joint u a ds
single_joint u a (one b e ∷ ds) = by_test (single_joint u a ds) (eqb a b) refl
  where
    by_test : flat (for_slot u a) (keep (touching (eqb a)) ds) ≡ flat (for_slot u a) ds → (t : Bool) → eqb a b ≡ t → flat (for_slot u a) (keep (touching (eqb a)) (one b e ∷ ds)) ≡ flat (for_slot u a) (one b e ∷ ds)
    by_test ih true q = rw (q, q) (ap (λ (x : List Entry). e ∷ x) ih)
    by_test ih false q = rw q ih

module _ (M : Plain) (u : Setup) (a : ℕ) where
  open M use {State, step, fresh, grammar}

  -- an entry, taken or not
  taken : (t : Bool) (e : Entry) (s : State) → pick t (step (model_at u a) s e) s ≡ foldl (step (model_at u a)) s (given t e)
  taken true e s = refl
  taken false e s = refl

  -- a delivery does at an address what the address's entries in it do
  next_at : (f : ℕ → State) (d : Delivery) → next M u f d a ≡ foldl (step (model_at u a)) (f a) (for_slot u a d)
  next_at f (one b e) = taken (eqb a b) e (f a)
  next_at f (all e) = taken (fitted u a) e (f a)
  next_at f (say t) = refl

  states_at : (f : ℕ → State) (ds : List Delivery) → foldl (next M u) f ds a ≡ foldl (step (model_at u a)) (f a) (flat (for_slot u a) ds)
  states_at f [] = refl
  states_at f (d ∷ ds) =
      states_at (next M u f d) ds
      ∙ ap (λ (s : State). foldl (step (model_at u a)) s (flat (for_slot u a) ds)) (next_at f d)
      ∙ sym (foldl-append (step (model_at u a)) (f a) (for_slot u a d) (flat (for_slot u a) ds))

  -- the supply at a fitted address is the plain supply of its model on that address's share
  pub isolation : fitted u a ≡ true → (calls : List Call) → slot M (run M u calls) a ≡ plain M (model_at u a) (share_of grammar u calls a)
  isolation f calls =
      (group_ends M (eqb a) (touching (eqb a)) u (closed M u u (eqb a) (λ b i. rw (eqb-true a b i) at f) (λ b i. refl)) calls).ends a (eq-eqb a a refl)
      ∙ states_at (λ b. fresh (model_at u b)) (joint_share grammar u calls (touching (eqb a)))
      ∙ ap (plain M (model_at u a)) (single_joint u a (brought grammar u calls))

module _ (M : Plain) (K : Trips M) (I : ℕ → M.State → Type 0) where
  open M use {State, step, fresh, grammar}
  open K use {Trip, is_set, is_on, releases}

  pub demand3 : (u : Setup) → ((a : ℕ) → fitted u a ≡ true → Laws M K I (model_at u a)) → (calls : List Call) → Demand3 M K I u calls
  demand3 u laws calls a f =
      let m : ℕ = model_at u a in
      let L : Laws M K I m = laws a f in
      let within : (es : List Entry) → I m (plain M m es) = λ es. holds_throughout (step m) (I m) L.keeps (fresh m) es L.starts in
      record {
        ends = isolation M u a f calls;
        alike = λ v calls₂ b same e. isolation M u a f calls ∙ rw (same, e) (sym (isolation M v b (rw same at f) calls₂));
        invariant = λ past rest q. rw (isolation M u a f past) (within (share_of grammar u past a));
        entries_invariant = λ past rest q. within past;
        entries_off = λ k past rest q t. tripped_off (step m) (is_set k) (releases m k) (L.held k) is_on (L.shut k) (fresh m) past t;
        calls_off = λ k past rest q t.
            rw (isolation M u a f past) (tripped_off (step m) (is_set k) (releases m k) (L.held k) is_on (L.shut k) (fresh m) (share_of grammar u past a) t);
        freed = λ k past e rest q t. L.frees k (plain M m past) e t;
      }
