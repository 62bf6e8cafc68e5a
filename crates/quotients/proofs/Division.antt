-- Two floats that are whole numbers: their quotient is the rounded one of those numbers.
use mathlib.Core.Path.{◌≡◌, sym, ap, ◌∙◌, subst}
use mathlib.Core.Bool.{Bool, true, false, cond, true≢false}
use Prim.Native.Nat.{ℕ, zero, suc, ◌*◌, ◌<◌, ◌≤◌, ◌^◌}
use native.Mathlib.Nat.{lt_irrefl, mul-one, mul-pos, mul_assoc, mul_comm, mul_left_comm, zero-lt-suc, zero-mul}
use lib.IntN.{pos}
use lib.Dec.{T, eqb, eqb-suc-zero, le→leb}
use lib.Ieee.{Float, nan, inf, fin, binary64, up, down, round, of_int, div, in_float}
use lib.Ieee.Exact.{HasValue}
use lib.Ieee.Fits.{up_pos, down_pos}
use lib.Ieee.Scale.{round_same}
use lib.Ieee.Back.{round_whole}
use Rattle.quotients.specs.Quotient.{rounded, as_float, OneDivision}

-- what the cast asks
pub exact : (n : ℕ) → n ≤ 2 ^ 53 → T (in_float binary64 (pos n))
unfolding in_float
exact n h = le→leb n (2 ^ 53) h

operand : (n : ℕ) → n ≤ 2 ^ 53 → HasValue (as_float n) false n 1
unfolding of_int
operand n h = round_whole binary64 false n h

-- x is a and y is b, so x / y is a / b
cross : (x a p y b q : ℕ) → x * 1 ≡ a * p → y * 1 ≡ b * q → x * q * b ≡ a * (y * p)
cross x a p y b q h k =
    let e : x ≡ a * p = sym (mul-one x) ∙ h in
    let f : y ≡ b * q = sym (mul-one y) ∙ k in
    rw (e, f) (simp (mul_assoc, mul_comm, mul_left_comm))

div_at : (x y : Float) (a b : ℕ) → 0 < b → HasValue x false a 1 → HasValue y false b 1 → div binary64 x y ≡ rounded a b
unfolding div rounded
div_at nan y a b B h k = absurd h
div_at (inf s) y a b B h k = absurd h
div_at (fin s m e) nan a b B h k = absurd k
div_at (fin s m e) (inf t) a b B h k = absurd k
div_at (fin true m e) (fin t n d) a b B h k = absurd (true≢false h.0)
div_at (fin false m e) (fin true n d) a b B h k = absurd (true≢false k.0)
div_at (fin false m e) (fin false zero d) a b B h k =
    absurd
    (lt_irrefl 0 (subst (λ (z : ℕ). 0 < z) (sym k.1 ∙ mul-one (0 * up d) ∙ zero-mul (up d)) (mul-pos B (down_pos d))))
div_at (fin false m e) (fin false (suc n) d) a b B h k =
    ap (λ (t : Bool). cond t (cond (eqb m 0) nan (inf false)) (round binary64 false (m * up e * down d) (suc n * up d * down e))) (eqb-suc-zero n)
    ∙ round_same binary64 false (m * up e * down d) (suc n * up d * down e) a b
    (mul-pos (mul-pos (zero-lt-suc n) (up_pos d)) (down_pos e)) B
    (cross (m * up e) a (down e) (suc n * up d) b (down d) h.1 k.1)

pub one_division : OneDivision
one_division =
    record {
      operand = operand;
      divided = λ a b h B k. div_at (as_float a) (as_float b) a b B (operand a h) (operand b k);
    }
