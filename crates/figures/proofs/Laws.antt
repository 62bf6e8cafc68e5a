-- Laws of reading: runs of digits, powers of ten, the first occurrence of a character, whole units, and numbers.
use Prim.Native.Nat.{ℕ, zero, suc, ◌+◌, ◌-◌, ◌*◌, ◌^◌, ◌<◌, ◌≤◌}
use mathlib.Core.Path.{◌≡◌, refl, ap, ◌∙◌}
use mathlib.Core.List.{List, [], ◌∷◌, ◌++◌}
use mathlib.Core.Logic.{◌⊎◌, inl, inr}
use mathlib.Core.Bool.{Bool, true, false, ◌&&◌, and-eq-true_iff}
use native.Mathlib.Nat.{pow-suc, pow-le-pow_right, mul-le-mul_left, lt_of_le_of_lt, lt_of_lt_of_le, mul-lt-mul_of_pos_right}
use native.Mathlib.Numerals.{add-one}
use native.Mathlib.Omega.{arith}
use lib.Arith.{digits_lt}
use lib.Pow.{pow-add}
use lib.Dec.{lit<, ltb, leb, eqb}
use lib.ListN.{get_or, length, take, drop, length-take, length-drop}
use borrow.Author.Tests.{lt-ltb, lt-leb, le-leb, leb-true, ltb-true, ltb-false, eqb-true}
use Rattle.std.specs.Prelude.{Some, None, cond}
use Rattle.std.specs.List.{list_all, position_or_len}
use Rattle.std.specs.Option.{unwrap_or}
use Rattle.std.proofs.lemmas.List.Recursion.{is_position_or_len}
use Rattle.base.specs.Choice.{pick}
use Rattle.base.proofs.Choice.{pick_keeps}
use Rattle.figures.specs.Digits.{is_digit, digit_of, all_digits, run_value}
use Rattle.figures.specs.Number.{first_at, whole, fraction, well_formed, whole_units, side_by_side, scaled_value, number_is, no_number, read_number}
use Rattle.figures.specs.Rounded.{RoundedTo, Spelled}
use Rattle.figures.proofs.Rounding.{units_apart, within_half, whole_rounded, rounded_one}

-- powers of ten
pub pow_le : (k m : ℕ) → k ≤ m → 10 ^ k ≤ 10 ^ m
pow_le k m h = pow-le-pow_right {n = 10} (lit< tt) h

pub pow_pos : (n : ℕ) → 0 < 10 ^ n
pow_pos n = omega (arith, pow_le 0 n (omega arith))

pub pow_step : (k : ℕ) → 0 < k → 10 ^ k ≡ 10 ^ (k - 1) * 10
pow_step zero h = absurd (omega arith)
pow_step (suc k) h = let e : suc k - 1 ≡ k = omega arith in rw (e, pow-suc 10 k) refl

-- n digits have a value below 10 ^ n
pub run_lt : (s : List ℕ) (n : ℕ) → run_value s n < 10 ^ n
unfolding run_value
run_lt s zero = lit< tt
run_lt s (suc n) = rw (pow-suc 10 n) (omega (arith, run_lt s n))

-- a run with one digit more, at the code's n
pub run_step : (s : List ℕ) (n : ℕ) → 0 < n → run_value s n ≡ run_value s (n - 1) * 10 + digit_of (get_or s (n - 1) 0)
unfolding run_value
run_step s zero h = absurd (omega arith)
run_step s (suc n) h = let e : suc n - 1 ≡ n = omega arith in rw e refl

-- whether all are digits, as the code asks of each
pub digits_each : (s : List ℕ) → list_all is_digit s ≡ all_digits s
unfolding all_digits
digits_each [] = refl
digits_each (b ∷ bs) = ap (λ (t : Bool). is_digit b && t) (digits_each bs)

-- the first x lies inside the list or at its end
pub first_le : (x : ℕ) (t : List ℕ) → first_at x t ≤ length t
unfolding first_at
first_le x [] = omega arith
first_le x (y ∷ ys) =
    pick_keeps (λ (n : ℕ). n ≤ suc (length ys)) (eqb y x) 0 (suc (first_at x ys)) (omega arith) (omega (arith, first_le x ys))

-- the first x, as the code looks for it
pub first_position : (x : ℕ) (s : List ℕ) → unwrap_or (cond (ltb (position_or_len (λ y. eqb y x) s) (length s)) (Some (position_or_len (λ y. eqb y x) s)) None) (length s)
    ≡ first_at x s
unfolding first_at
first_position x s = rw (← counted) (by_test (ltb (first_at x s) (length s)) refl)
  where
    either : (b : Bool) (n : ℕ) → pick b 0 (suc n) ≡ cond b 0 (1 + n)
    either true n = refl
    either false n = omega arith

    counted : first_at x s ≡ position_or_len (λ y. eqb y x) s
    counted = is_position_or_len (first_at x) (λ y. eqb y x) refl (λ y ys. either (eqb y x) (first_at x ys)) s

    by_test : (b : Bool) → ltb (first_at x s) (length s) ≡ b → unwrap_or (cond (ltb (first_at x s) (length s)) (Some (first_at x s)) None) (length s) ≡ first_at x s
    by_test true e = rw e refl
    by_test false e = rw e (omega (arith, first_le x s, ltb-false (first_at x s) (length s) e))

-- what callers may use of wholeUnits: a whole number of units keeps its value, and there are at most a units
pub units_exact : (v d : ℕ) → 0 < d → whole_units (v * d) d ≡ v
units_exact v d h =
    rounded_one (v * d) d h (whole_units (v * d) d) v (whole_rounded (v * d) d h)
    (within_half (v * d) d v (omega arith) (λ e. absurd (omega arith)))

pub units_le : (a d : ℕ) → 0 < d → whole_units a d ≤ a
units_le a d h = by_test (ltb a (whole_units a d)) refl
  where
    -- otherwise one unit less would be nearer
    by_test : (b : Bool) → ltb a (whole_units a d) ≡ b → whole_units a d ≤ a
    by_test false e = ltb-false a (whole_units a d) e
    by_test true e =
        let l = ltb-true a (whole_units a d) e in
        let n = whole_units a d - 1 in
        absurd (omega (arith, (whole_rounded a d h).none_nearer n, units_apart d n (whole_units a d) (omega arith), mul-le-mul_left n h))

-- the digits w and f side by side as one number; and the same with k more zeros
module _ (w f : List ℕ) where
  pub side_lt : side_by_side w f < 10 ^ (length w + length f)
  side_lt = rw (pow-add 10 (length w) (length f)) (digits_lt (run_lt w (length w)) (run_lt f (length f)))

  pub scale_lt : (k : ℕ) → side_by_side w f * 10 ^ k < 10 ^ (length w + length f + k)
  scale_lt k = rw (pow-add 10 (length w + length f) k) (mul-lt-mul_of_pos_right side_lt (pow_pos k))

  pub scaled_lt : (k : ℕ) → scaled_value k w f < 10 ^ (length w + length f + k)
  unfolding scaled_value
  scaled_lt k = lt_of_le_of_lt (units_le (side_by_side w f * 10 ^ k) (10 ^ length f) (pow_pos (length f))) (scale_lt k)

pub parts_le : (t : List ℕ) → length (whole t) + length (fraction t) ≤ length t
parts_le t = simp (length-take, length-drop) (omega arith)

well_short : (t : List ℕ) → well_formed t ≡ true → length t ≤ 12
unfolding well_formed
well_short t e = leb-true (length t) 12 ((and-eq-true_iff (leb (length t) 12) _).0 e).0

-- a number is below 10 ^ (12 + k): 12 digits and k zeros
pub number_lt : (k : ℕ) (t : List ℕ) → (read_number k t).value < 10 ^ (12 + k)
unfolding read_number
number_lt k t = by_test (well_formed t) refl
  where
    by_test : (b : Bool) → well_formed t ≡ b → (pick b (number_is (scaled_value k (whole t) (fraction t))) no_number).value < 10 ^ (12 + k)
    by_test true e =
        let n : length (whole t) + length (fraction t) ≤ 12 = omega (arith, parts_le t, well_short t e) in
        lt_of_lt_of_le (scaled_lt (whole t) (fraction t) k) (pow_le (length (whole t) + length (fraction t) + k) (12 + k) (omega arith))
    by_test false e = pow_pos (12 + k)

-- WHAT A TEXT SPELLS
pub spelled : (t : List ℕ) → Spelled t
unfolding first_at
spelled [] = inr (refl, refl)
spelled (y ∷ ys) = by_test (eqb y 46) refl (spelled ys)
  where
    by_test : (b : Bool) → eqb y 46 ≡ b → Spelled ys
        → (y ∷ ys ≡ take (pick b 0 (suc (first_at 46 ys))) (y ∷ ys) ++ (46 ∷ drop (pick b 0 (suc (first_at 46 ys)) + 1) (y ∷ ys)))
        ⊎ ((y ∷ ys ≡ take (pick b 0 (suc (first_at 46 ys))) (y ∷ ys)) × (drop (pick b 0 (suc (first_at 46 ys)) + 1) (y ∷ ys) ≡ []))
    by_test true e h = inl (ap (λ (x : ℕ). x ∷ ys) (eqb-true y 46 e))
    by_test false e (inl h) = inl (rw (add-one (suc (first_at 46 ys))) (ap (λ (zs : List ℕ). y ∷ zs) (rw (add-one (first_at 46 ys)) at h)))
    by_test false e (inr h) = inr (ap (λ (zs : List ℕ). y ∷ zs) h.0, rw (add-one (suc (first_at 46 ys))) (rw (add-one (first_at 46 ys)) at h.1))

-- WHAT IS READ: a well-formed text reads as the number typed, rounded to units of the k-th decimal; and no other value
-- is that
module _ (k : ℕ) (t : List ℕ) (h : well_formed t ≡ true) where
  pub number_good : (read_number k t).good ≡ true
  unfolding read_number
  number_good = rw h refl

  pub number_rounded : RoundedTo k t (read_number k t).value
  unfolding read_number scaled_value
  number_rounded = rw h (whole_rounded (side_by_side (whole t) (fraction t) * 10 ^ k) (10 ^ length (fraction t)) (pow_pos (length (fraction t))))

  pub rounded_number : (v : ℕ) → RoundedTo k t v → v ≡ (read_number k t).value
  rounded_number v r =
      rounded_one (side_by_side (whole t) (fraction t) * 10 ^ k) (10 ^ length (fraction t)) (pow_pos (length (fraction t))) v (read_number k t).value r number_rounded

-- a text that is too long
pub read_long : (k : ℕ) (t : List ℕ) → 12 < length t → no_number ≡ read_number k t
unfolding read_number well_formed
read_long k t h = rw (lt-leb _ 12 h) refl

-- a text t that is short enough, and its parts w and f before and after the first point
pub record Parted (t w f : List ℕ) : Type 0 where
  pub whole_is : w ≡ whole t
  pub fraction_is : f ≡ fraction t
  pub short : length t ≤ 12

-- the parts as the code makes them, at index p
pub parted : {t w f : List ℕ} {p : ℕ} → p ≡ first_at 46 t → w ≡ take p t → f ≡ drop (p + 1) t → length t ≤ 12 → Parted t w f
parted {t} ep ew ef h =
    record { whole_is = ew ∙ ap (λ (n : ℕ). take n t) ep; fraction_is = ef ∙ ap (λ (n : ℕ). drop (n + 1) t) ep; short = h }

module _ {t w f : List ℕ} (p : Parted t w f) where
  pub parts_short : length w + length f ≤ 12
  parts_short = rw (p.whole_is, p.fraction_is) (omega (arith, parts_le t))

  -- whether they spell a number, tested in the code's order
  pub read_parts : (k : ℕ) (a b c : Bool) → all_digits w ≡ a → all_digits f ≡ b → ltb 0 (length w + length f) ≡ c
      → pick (a && (b && c)) (number_is (scaled_value k w f)) no_number ≡ read_number k t
  unfolding read_number well_formed
  read_parts k a b c ea eb ec = rw (le-leb _ 12 p.short, ← p.whole_is, ea, ← p.fraction_is, eb, ec) refl

  pub good_number : (k : ℕ) → all_digits w ≡ true → all_digits f ≡ true → (length w + length f ≡ 0 → ⊥) → number_is (scaled_value k w f) ≡ read_number k t
  unfolding read_number well_formed
  good_number k a b e = rw (le-leb _ 12 p.short, ← p.whole_is, a, ← p.fraction_is, b, lt-ltb 0 (length w + length f) (omega arith)) refl
