-- A fitting list as a whole, accepted or refused.
use Prim.Native.Nat.{ℕ}
use mathlib.Core.Path.{◌≡◌, refl, sym, subst, ◌∙◌}
use mathlib.Core.List.{List}
use mathlib.Core.Bool.{Bool, true, false, true≢false, ◌&&◌, and-eq-true_iff}
use lib.Dec.{eqb}
use lib.ListN.{length, replicate}
use borrow.Author.Tests.{eqb-true}
use Rattle.fitting.specs.Fitting.{all_allowed, good_list, Made}
use Rattle.slots.specs.declared.Rack.{Rack}
use Rattle.slots.specs.View.{Able}
use Rattle.fitting.specs.declared.Fitted.{Fitted}
use Rattle.fitting.specs.Fit.{FitDoes}

module _ (l : List ℕ) (g : Bool) (e : g ≡ all_allowed l) (q : Rack) where
  pub good_fit : (m : List ℕ) → (eqb (length l) 31 && g) ≡ true → (length l ≡ 31 → m ≡ l) → Made (record { models = m }) q → FitDoes l (record { code = 0; rack = q })
  good_fit m t c d =
      let good : good_list l ≡ true = rw (← e) t in
      let n = eqb-true (length l) 31 ((and-eq-true_iff (eqb (length l) 31) g).0 t).0 in
      record { refuses = λ f. absurd (true≢false (sym good ∙ f)); makes = λ h. (refl, subst (λ (x : List ℕ). Made (record { models = x }) q) (c n) d) }

  pub bad_fit : (eqb (length l) 31 && g) ≡ false → Made (record { models = replicate 31 255 }) q → FitDoes l (record { code = 8; rack = q })
  bad_fit t d =
      let bad : good_list l ≡ false = rw (← e) t in
      record { refuses = λ f. (refl, d); makes = λ h. absurd (true≢false (sym h ∙ bad)) }

-- accepted or refused, the line of the rack is short
pub fitted_small : (l : List ℕ) (f : Fitted) → FitDoes l f → Able f.rack
fitted_small l f d = by_test (good_list l) refl
  where
    by_test : (t : Bool) → good_list l ≡ t → Able f.rack
    by_test true e = (d.makes e).1.small
    by_test false e = (d.refuses e).1.small
