-- When a supply sends its message; one that is as it was sends none.
use mathlib.Core.Path.{◌≡◌, refl, sym, ◌∙◌}
use mathlib.Core.Logic.{◌⊎◌, inl, inr}
use mathlib.Core.Bool.{Bool, true, false, not, ◌&&◌, ◌||◌, false≢true, or-true}
use Prim.Native.Nat.{ℕ}
use lib.Dec.{eqb}
use borrow.Author.Tests.{eq-eqb, ne_eqb, eqb-true, eqb-false}
use Rattle.supply.specs.declared.Supply.{Supply}
use Rattle.supply.specs.Rings.{risen, rings_of, Risen, RingsWhen}

risen_by : (was is : ℕ) → Risen was is → risen was is ≡ true
risen_by was is h = rw (eq-eqb was 0 h.0, ne_eqb is 0 h.1) refl

risen_is : (was is : ℕ) → risen was is ≡ true → Risen was is
risen_is was is = by_tests (eqb was 0) refl (eqb is 0) refl
  where
    by_tests : (a : Bool) → eqb was 0 ≡ a → (b : Bool) → eqb is 0 ≡ b → (a && not b) ≡ true → Risen was is
    by_tests true e false f h = (eqb-true was 0 e, eqb-false is 0 f)
    by_tests true e true f h = absurd (false≢true h)
    by_tests false e b f h = absurd (false≢true h)

-- WHEN A SUPPLY SENDS ITS MESSAGE
pub rings_when : (s t : Supply) → RingsWhen s t
rings_when s t =
    record {
      by_feve = λ h. rw (risen_by s.feve t.feve h) refl;
      by_seve = λ h. rw (risen_by s.seve t.seve h) (or-true (risen s.feve t.feve));
      only = by_first (risen s.feve t.feve) refl;
    }
  where
    by_first : (b : Bool) → risen s.feve t.feve ≡ b → (b || risen s.seve t.seve) ≡ true
        → Risen s.feve t.feve ⊎ Risen s.seve t.seve
    by_first true e h = inl (risen_is s.feve t.feve e)
    by_first false e h = inr (risen_is s.seve t.seve h)

-- so a supply whose registers are as they were sends nothing
pub unrung : (s t : Supply) → s.feve ≡ t.feve → s.seve ≡ t.seve → rings_of s t ≡ false
unrung s t f e = by_rings (rings_of s t) refl
  where
    steady : Risen s.feve t.feve ⊎ Risen s.seve t.seve → ⊥
    steady (inl h) = h.1 (sym f ∙ h.0)
    steady (inr h) = h.1 (sym e ∙ h.0)

    by_rings : (b : Bool) → rings_of s t ≡ b → rings_of s t ≡ false
    by_rings true h = absurd (steady ((rings_when s t).only h))
    by_rings false h = h
