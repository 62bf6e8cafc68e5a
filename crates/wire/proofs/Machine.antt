-- Laws of any machine that inputs move: a trip holds until a release, an invariant holds everywhere, and only what
-- touches a group moves its states.
use mathlib.Core.Path.{◌≡◌, refl, ap, ◌∙◌}
use mathlib.Core.Bool.{Bool, true, false, false≢true}
use mathlib.Core.List.{List, [], ◌∷◌, ◌++◌, foldl, foldl-append, append_assoc}
use Prim.Native.Nat.{ℕ, ◌<◌}
use lib.ListN.{length, get_or}
use Rattle.base.specs.Choice.{pick}
use Rattle.base.specs.Lists.{tabulate}
use Rattle.base.proofs.Lists.{length_tabulate, get_d_tabulate}
use Rattle.wire.specs.Machine.{flat, keep, Every, no_release, Tripped}

pub keep_append : {D : Type 0} (t : D → Bool) (xs ys : List D) → keep t (xs ++ ys) ≡ keep t xs ++ keep t ys
keep_append t [] ys = refl
keep_append {D} t (x ∷ xs) ys = by_test (keep_append t xs ys) (t x)
  where
    by_test : keep t (xs ++ ys) ≡ keep t xs ++ keep t ys → (b : Bool) → pick b (x ∷ keep t (xs ++ ys)) (keep t (xs ++ ys)) ≡ pick b (x ∷ keep t xs) (keep t xs) ++ keep t ys
    by_test ih true = ap {B = List D} (λ z. x ∷ z) ih
    by_test ih false = ih

pub flat_append : {D E : Type 0} (f : D → List E) (xs ys : List D) → flat f (xs ++ ys) ≡ flat f xs ++ flat f ys
flat_append f [] ys = refl
flat_append f (x ∷ xs) ys = rw (flat_append f xs ys, append_assoc)

module _ {X E : Type 0} (act : X → E → X) where
  -- what every input preserves holds everywhere
  pub holds_throughout : (I : X → Type 0) → ((x : X) (e : E) → I x → I (act x e)) → (x : X) (es : List E) → I x → I (foldl act x es)
  holds_throughout I k x [] i = i
  holds_throughout I k x (e ∷ es) i = holds_throughout I k (act x e) es (k x e i)

  -- and what every input with P preserves holds after a list of such inputs
  pub holds_along : (P : E → Type 0) (I : X → Type 0) → ((x : X) (e : E) → P e → I x → I (act x e))
      → (x : X) (es : List E) → Every P es → I x → I (foldl act x es)
  holds_along P I k x [] p i = i
  holds_along P I k x (e ∷ es) p i = holds_along P I k (act x e) es p.1 (k x e p.0 i)

  module _ (flag : X → Bool) (rel : X → E → Bool) (held : (x : X) (e : E) → flag x ≡ true → rel x e ≡ false → flag (act x e) ≡ true) where
    stays_set : (x : X) (es : List E) → flag x ≡ true → no_release act rel x es ≡ true → flag (foldl act x es) ≡ true
    stays_set x [] f n = f
    stays_set x (e ∷ es) f n = by_test (λ (y : flag (act x e) ≡ true) (z : no_release act rel (act x e) es ≡ true). stays_set (act x e) es y z) (rel x e) refl
      where
        by_test : (flag (act x e) ≡ true → no_release act rel (act x e) es ≡ true → flag (foldl act (act x e) es) ≡ true) → (t : Bool) → rel x e ≡ t → flag (foldl act (act x e) es) ≡ true
        by_test ih true q = absurd (false≢true (rw q at n))
        by_test ih false q = ih (held x e f q) (rw q at n)

    -- if a set flag means off, a tripped machine is off
    pub tripped_off : (on : X → Bool) → ((x : X) → flag x ≡ true → on x ≡ false) → (start : X) (es : List E) → Tripped act start flag rel es → on (foldl act start es) ≡ false
    tripped_off on shut start es t =
        rw (t.splits, foldl-append act start t.before (t.entry ∷ t.mid))
        (shut _ (stays_set (act (foldl act start t.before) t.entry) t.mid t.trips t.unreleased))

-- THE PROJECTION: `next` moves the states in a list at each place; seen from the places of g, they move as by `other`,
-- and only by the inputs that touch g.
module _ {S D : Type 0} (none : S) (next other : (ℕ → S) → D → ℕ → S) (g : ℕ → Bool) (touches : D → Bool) (n : ℕ)
    (inside : (a : ℕ) → g a ≡ true → a < n)
    (local : (f h : ℕ → S) (d : D) → ((a : ℕ) → g a ≡ true → f a ≡ h a) → touches d ≡ true → (a : ℕ) → g a ≡ true → next f d a ≡ other h d a)
    (frame : (f : ℕ → S) (d : D) → touches d ≡ false → (a : ℕ) → g a ≡ true → next f d a ≡ f a) where
  abbrev act : List S → D → List S
  act ss d = tabulate (length ss) (next (λ a. get_or ss a none) d)

  pub project :
      (ss : List S) (h : ℕ → S) (ds : List D)
      → length ss ≡ n
      → ((a : ℕ) → g a ≡ true → get_or ss a none ≡ h a)
      → (a : ℕ) → g a ≡ true → get_or (foldl act ss ds) a none ≡ foldl other h (keep touches ds) a
  project ss h [] l e a i = e a i
  project ss h (d ∷ ds) l e a i = by_test (λ (k : ℕ → S) (q : (b : ℕ) → g b ≡ true → get_or (act ss d) b none ≡ k b). project (act ss d) k ds size q a i) (touches d) refl
    where
      reads : (b : ℕ) → g b ≡ true → get_or (act ss d) b none ≡ next (λ a. get_or ss a none) d b
      reads b j = get_d_tabulate (length ss) (next (λ a. get_or ss a none) d) b none (rw l (inside b j))

      size : length (act ss d) ≡ n
      size = length_tabulate (length ss) (next (λ a. get_or ss a none) d) ∙ l

      by_test :
          ((k : ℕ → S) → ((b : ℕ) → g b ≡ true → get_or (act ss d) b none ≡ k b) → get_or (foldl act (act ss d) ds) a none ≡ foldl other k (keep touches ds) a)
          → (t : Bool) → touches d ≡ t → get_or (foldl act (act ss d) ds) a none ≡ foldl other h (keep touches (d ∷ ds)) a
      by_test ih true q = rw q (ih (other h d) (λ b j. reads b j ∙ local (λ a. get_or ss a none) h d e q b j))
      by_test ih false q = rw q (ih h (λ b j. reads b j ∙ frame (λ a. get_or ss a none) d q b j ∙ e b j))
