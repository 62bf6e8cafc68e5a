-- Rounding to the nearest, a tie to the even one: `whole_units` does it, and only one number is so.
use Prim.Native.Nat.{ℕ, suc, ◌+◌, ◌*◌, ◌/◌, ◌%◌, ◌<◌, ◌≤◌}
use mathlib.Core.Path.{◌≡◌, refl, sym}
use mathlib.Core.Bool.{Bool, true, false}
use native.Mathlib.Nat.{suc-mul, mul-le-mul_right, div-add-mod', mod-lt}
use native.Mathlib.Omega.{arith}
use lib.Dec.{ltb, eqb}
use borrow.Author.Tests.{ltb-true, ltb-false, eqb-true, eqb-false}
use Rattle.base.specs.Choice.{pick}
use Rattle.figures.specs.Number.{even_of, whole_units}
use Rattle.figures.specs.Rounded.{apart, Rounded}

-- one unit more is d more, so two different numbers of units are at least d apart
pub units_apart : (d n m : ℕ) → n < m → n * d + d ≤ m * d
units_apart d n m h = omega (arith, mul-le-mul_right d h, suc-mul n d)

-- whatever holds of r, and of all numbers of units that are d or more away, holds of every number
beside : (P : ℕ → Type 0) (d r : ℕ)
    → ((n : ℕ) → n * d + d ≤ r * d → P n) → P r → ((n : ℕ) → r * d + d ≤ n * d → P n) → (n : ℕ) → P n
beside P d r below at above n = by_tests (ltb n r) refl (ltb r n) refl
  where
    by_tests : (b : Bool) → ltb n r ≡ b → (c : Bool) → ltb r n ≡ c → P n
    by_tests true e c e' = below n (units_apart d n r (ltb-true n r e))
    by_tests false e true e' = above n (units_apart d r n (ltb-true r n e'))
    by_tests false e false e' =
        let same : r ≡ n = omega (arith, ltb-false n r e, ltb-false r n e') in
        rw (sym same) at

-- a number of units within half a unit is the nearest, and at exactly half a unit it has to be even
pub within_half : (a d r : ℕ) → 2 * apart (r * d) a ≤ d → (2 * apart (r * d) a ≡ d → r % 2 ≡ 0) → Rounded a d r
within_half a d r h even =
    record {
      none_nearer = beside (λ (n : ℕ). apart (r * d) a ≤ apart (n * d) a) d r (λ below l. omega arith) (omega arith) (λ above l. omega arith);
      even_of_two =
          beside (λ (n : ℕ). (n ≡ r → ⊥) → apart (n * d) a ≡ apart (r * d) a → r % 2 ≡ 0) d r
          (λ below l m e. even (omega arith))
          (λ m e. absurd (m refl))
          (λ above l m e. even (omega arith));
    }

module _ (a d : ℕ) (some : 0 < d) where
  -- WHAT `whole_units` DOES
  pub whole_rounded : Rounded a d (whole_units a d)
  unfolding whole_units
  whole_rounded = by_tests (ltb (2 * (a % d)) d) refl (ltb d (2 * (a % d))) refl
    where
      -- a tie: the number of whole units in a is even, or the next one is
      at_tie : (b : Bool) → eqb (a / d % 2) 0 ≡ b → 2 * (a % d) ≡ d → Rounded a d (even_of (a / d))
      at_tie true e t =
          let even = eqb-true (a / d % 2) 0 e in
          let here : even_of (a / d) ≡ a / d = omega arith in
          rw here (within_half a d (a / d) (omega (arith, div-add-mod' a d)) (λ x. even))
      at_tie false e t =
          let next : even_of (a / d) ≡ suc (a / d) = omega (arith, eqb-false (a / d % 2) 0 e) in
          rw next (within_half a d (suc (a / d)) (omega (arith, div-add-mod' a d, suc-mul (a / d) d)) (λ x. omega arith))

      by_tests : (b : Bool) → ltb (2 * (a % d)) d ≡ b → (c : Bool) → ltb d (2 * (a % d)) ≡ c
          → Rounded a d (pick b (a / d) (pick c (a / d + 1) (even_of (a / d))))
      by_tests true e c e' =
          let h = ltb-true (2 * (a % d)) d e in
          within_half a d (a / d) (omega (arith, div-add-mod' a d)) (λ x. absurd (omega (arith, div-add-mod' a d)))
      by_tests false e true e' =
          let h = ltb-true d (2 * (a % d)) e' in
          within_half a d (a / d + 1)
          (omega (arith, div-add-mod' a d, mod-lt a some))
          (λ x. absurd (omega (arith, div-add-mod' a d, mod-lt a some)))
      by_tests false e false e' =
          at_tie (eqb (a / d % 2) 0) refl (omega (arith, ltb-false (2 * (a % d)) d e, ltb-false d (2 * (a % d)) e'))

  -- ONLY ONE NUMBER IS SO
  pub rounded_one : (r s : ℕ) → Rounded a d r → Rounded a d s → r ≡ s
  rounded_one r s p q = omega (arith, none_above r s p q, none_above s r q p)
    where
      -- two numbers of units cannot both be nearest and even: the one between them would be nearer
      none_above : (r s : ℕ) → Rounded a d r → Rounded a d s → r < s → ⊥
      none_above r s p q h =
          let e : apart (s * d) a ≡ apart (r * d) a = omega (arith, p.none_nearer s, q.none_nearer r) in
          let two : suc (suc r) ≤ s = omega (arith, p.even_of_two s (λ x. omega arith) e, q.even_of_two r (λ x. omega arith) (sym e)) in
          omega (arith, p.none_nearer (suc r), mul-le-mul_right d two)
