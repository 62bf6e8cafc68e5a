-- What each kind of byte does to the code's line, as the definitions see it.
use mathlib.Core.Path.{◌≡◌, refl}
use mathlib.Core.Bool.{Bool, true}
use mathlib.Core.List.{List, [], ◌∷◌, ◌++◌}
use Prim.Native.Nat.{ℕ, ◌+◌, ◌-◌, ◌≤◌, ◌<◌}
use native.Mathlib.Omega.{arith}
use native.Mathlib.Numerals.{add-one}
use lib.Dec.{eqb, ltb}
use lib.ListN.{length, take, set, length-set}
use lib.Seq.{length-take-le, take-take, take-suc-set}
use borrow.Author.Tests.{eq-eqb, ne_eqb, lt-ltb, le-ltb}
use Rattle.base.proofs.Choice.{pick_keeps}
use Rattle.wire.specs.Wire.{Wire, char_on}
use Rattle.serial.specs.declared.Line.{Line}
use Rattle.serial.specs.View.{line_of, Short, CharTaken, CharDoes}

module _ (l : Line) (b : ℕ) (wide : length l.kept ≡ 64) (h : Short l) where
  typed_lf : b ≡ 10 → CharTaken l b l
  unfolding char_on
  typed_lf q = record { small = h; is = rw (eq-eqb b 10 q) }

  typed_back : b ≡ 8 → CharTaken l b (record { kept = l.kept; count = l.count - 1; spoiled = l.spoiled; selected = l.selected })
  unfolding char_on
  typed_back q =
      record {
        small = omega arith;
        is = rw (ne_eqb b 10 (omega arith), eq-eqb b 8 q, length-take-le l.count l.kept (omega arith), take-take (l.count - 1) l.count l.kept (omega arith));
      }

  typed_add : (b ≡ 10 → ⊥) → (b ≡ 8 → ⊥) → l.count < 64 → CharTaken l b (record { kept = set l.kept l.count b; count = l.count + 1; spoiled = l.spoiled; selected = l.selected })
  unfolding char_on
  typed_add p q s =
      record {
        small = omega arith;
        is = rw (ne_eqb b 10 p, ne_eqb b 8 q, length-take-le l.count l.kept (omega arith), lt-ltb l.count 64 s, add-one, take-suc-set l.kept l.count b (omega arith));
      }

  typed_full : (b ≡ 10 → ⊥) → (b ≡ 8 → ⊥) → 64 ≤ l.count → CharTaken l b (record { kept = l.kept; count = l.count; spoiled = true; selected = l.selected })
  unfolding char_on
  typed_full p q s = record { small = h; is = rw (ne_eqb b 10 p, ne_eqb b 8 q, length-take-le l.count l.kept (omega arith), le-ltb l.count 64 s) }

-- the same of the code, which has the line in parts
module _ (kept : List ℕ) (count : ℕ) (spoiled : Bool) (b : ℕ) where
  pub does_lf : b ≡ 10 → CharDoes kept count spoiled b kept (record { count = count; spoiled = spoiled })
  does_lf q = record { same = refl; typed = λ wide a h. typed_lf (line_of kept count spoiled a) b wide h q }

  pub does_back : b ≡ 8 → CharDoes kept count spoiled b kept (record { count = count - 1; spoiled = spoiled })
  does_back q = record { same = refl; typed = λ wide a h. typed_back (line_of kept count spoiled a) b wide h q }

  pub does_add : (b ≡ 10 → ⊥) → (b ≡ 8 → ⊥) → count < 64 → CharDoes kept count spoiled b (set kept count b) (record { count = count + 1; spoiled = spoiled })
  does_add p q s = record { same = length-set kept count b; typed = λ wide a h. typed_add (line_of kept count spoiled a) b wide h p q s }

  pub does_full : (b ≡ 10 → ⊥) → (b ≡ 8 → ⊥) → 64 ≤ count → CharDoes kept count spoiled b kept (record { count = count; spoiled = true })
  does_full p q s = record { same = refl; typed = λ wide a h. typed_full (line_of kept count spoiled a) b wide h p q s }

-- what holds for the line before, and for each thing that such a byte can make of it, holds for the line after
pub char_keeps : (P : Wire → Type 0) (w : Wire) (b : ℕ) → P w
    → P (record { kept = take (length w.kept - 1) w.kept; spoiled = w.spoiled; sel = w.sel })
    → P (record { kept = w.kept ++ (b ∷ []); spoiled = w.spoiled; sel = w.sel })
    → P (record { kept = w.kept; spoiled = true; sel = w.sel })
    → P (char_on w b)
unfolding char_on
char_keeps P w b lf back add full = pick_keeps P (eqb b 10) _ _ lf (pick_keeps P (eqb b 8) _ _ back (pick_keeps P (ltb (length w.kept) 64) _ _ add full))
