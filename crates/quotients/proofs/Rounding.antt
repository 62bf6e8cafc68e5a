-- `rounded` is what `NearestFloat` asks for.
-- In units of 2 ^ -l, the format's smallest value, a / b is n / b with n = a * 2 ^ l. Rounding drops k binary digits of
-- the whole part and keeps a number of p digits, so the result is a multiple of 2 ^ k. Any other value, m * 2 ^ j with m
-- of p digits, is such a multiple too; or j is below k, and then it lies below 2 ^ (p - 1) * 2 ^ k, a multiple that is
-- itself no greater than n / b.
use mathlib.Core.Path.{◌≡◌, sym, ap, ◌∙◌, subst}
use mathlib.Core.Logic.{◌⊎◌, inl, inr}
use mathlib.Core.Bool.{Bool, true, false, true≢false, ◌&&◌}
use Prim.Native.Nat.{ℕ, zero, suc, ◌+◌, ◌-◌, ◌*◌, ◌/◌, ◌%◌, ◌≤◌, ◌<◌, ◌^◌}
use native.Mathlib.Nat.{le_trans, le_of_eq, le_of_lt, lt_of_lt_of_le, lt_of_le_of_lt, lt_irrefl, mul_assoc, mul_comm, mul_left_comm, mul_right_comm, mul-one, one-mul, zero-mul, mul-pos, mul-le-mul_right, mul-le-mul, le_of_mul-le-mul_right, le-div_iff_mul-le, mul-sub, add-mul, suc-mul, le_refl, zero-lt-suc}
use native.Mathlib.Omega.{arith}
use lib.IntN.{ℤ, pos, negsuc}
use lib.Dec.{T, eqb, ltb, leb, leb→le, ltb→lt, lit<}
use lib.Pow.{pow-add, pow_pos, pow_mono, pow-lt, shl_lt}
use lib.Ieee.{Float, nan, inf, fin, binary64, up, down, round, fits, size}
use lib.Ieee.Digits.{size_reaches, back}
use lib.Ieee.Exact.{HasValue}
use lib.Ieee.Fits.{round-fits}
use lib.Ieee.Order.{drop, kept}
use lib.Ieee.Positive.{num, den, value→cross}
use lib.Ieee.Scale.{grid, overflow, round_val}
use Rattle.quotients.specs.Quotient.{rounded}
use Rattle.quotients.specs.Nearest.{apart, off_by, unsigned, RoundedNearest}
use Rattle.quotients.proofs.Closest.{order, closest_nearest, closest_under}

-- ---- a value that is not negative is m * 2 ^ j units, with m of p digits
abbrev InUnits : ℕ → ℕ → Float → Type 0
InUnits p l y = (m : ℕ) × (j : ℕ) × (m < 2 ^ p) × (num y * 2 ^ l ≡ m * 2 ^ j * den y)

power_back : (i l : ℕ) → 2 ^ i ≤ 2 ^ l → i ≤ l
power_back i l h = go (order i l)
  where
    go : (i ≤ l) ⊎ (l < i) → i ≤ l
    go (inl k) = k
    go (inr k) = absurd (lt_irrefl (2 ^ l) (lt_of_lt_of_le (pow-lt k) h))

place : (l : ℕ) (e : ℤ) → down e ≤ 2 ^ l → (j : ℕ) × (up e * 2 ^ l ≡ 2 ^ j * down e)
place l (pos k) h = (k + l, sym (pow-add 2 k l) ∙ sym (mul-one (2 ^ (k + l))))
place l (negsuc k) h = (
  l - suc k,
  one-mul (2 ^ l) ∙ ap (λ (x : ℕ). 2 ^ x) (sym (back l (suc k) (power_back (suc k) l h))) ∙ pow-add 2 (l - suc k) (suc k),
)

middle : (a b c d : Bool) → T (a && b && c && d) → T b × T c
middle true true true d t = (tt, tt)
middle true true false d t = absurd t
middle true false c d t = absurd t
middle false b c d t = absurd t

in_units : (y : Float) → T (fits binary64 y) → T (unsigned y) → InUnits 53 1074 y
unfolding fits
in_units nan f u = absurd u
in_units (inf s) f u = absurd u
in_units (fin true m e) f u = absurd u
in_units (fin false zero e) f u = (0, 0, lit< tt, ap (λ (x : ℕ). x * 2 ^ 1074) (zero-mul (up e)) ∙ zero-mul (2 ^ 1074) ∙ sym (zero-mul (down e)))
in_units (fin false (suc m) e) f u =
    let t = middle (eqb (suc m % 2) 1) (ltb (suc m) (2 ^ 53)) (leb (down e) (2 ^ 1074)) (ltb (suc m * up e) (2 ^ 1024 * down e)) f in
    go (ltb→lt (suc m) (2 ^ 53) t.0) (place 1074 e (leb→le (down e) (2 ^ 1074) t.1))
  where
    go : suc m < 2 ^ 53 → (j : ℕ) × (up e * 2 ^ 1074 ≡ 2 ^ j * down e) → InUnits 53 1074 (fin false (suc m) e)
    go M (j, h) = (
      suc m,
      j,
      M,
      mul_assoc (suc m) (up e) (2 ^ 1074) ∙ ap (λ (x : ℕ). suc m * x) h ∙ sym (mul_assoc (suc m) (2 ^ j) (down e)),
    )

-- ---- no number of p digits, times any power of two, is nearer than the one that is kept
all_digits : (z p : ℕ) → 0 < p → 0 < z - p → p - 1 + (z - p) < z
all_digits z p P h = omega arith

one_less : (p j k : ℕ) → 0 < p → j < k → p + j ≤ p - 1 + k
one_less p j k P h = omega arith

nearer : (x y n : ℕ) → x ≤ y → y ≤ n → apart y n ≤ apart x n
nearer x y n h k = omega arith

module _ (p n b : ℕ) (P : 0 < p) (B : 0 < b) where
  -- where digits are dropped, the whole part of n / b has more than p of them
  dropped : 0 < drop p n b → 2 ^ (p - 1 + drop p n b) * b ≤ n
  dropped K = (le-div_iff_mul-le B).0 (size_reaches (n / b) (p - 1 + drop p n b) (all_digits (size (n / b)) p P K))

  -- x times the unit b * 2 ^ k
  by_unit : (x k : ℕ) → x * (b * 2 ^ k) ≡ x * 2 ^ k * b
  by_unit x k = simp (mul_assoc, mul_comm, mul_left_comm)

  taken_nearest : (z : ℕ) → apart (kept p n b * 2 ^ drop p n b * b) n ≤ apart (z * 2 ^ drop p n b * b) n
  taken_nearest z =
      let k = drop p n b in
      subst (λ (x : ℕ). apart x n ≤ apart (z * 2 ^ k * b) n) (by_unit (kept p n b) k)
      (subst (λ (x : ℕ). apart (kept p n b * (b * 2 ^ k)) n ≤ apart x n) (by_unit z k)
      (closest_nearest n (b * 2 ^ k) z (mul-pos B (pow_pos k))))

  kept_nearest : (m j : ℕ) → m < 2 ^ p → apart (kept p n b * 2 ^ drop p n b * b) n ≤ apart (m * 2 ^ j * b) n
  kept_nearest m j M = go (order (drop p n b) j)
    where
      go : (drop p n b ≤ j) ⊎ (j < drop p n b) → apart (kept p n b * 2 ^ drop p n b * b) n ≤ apart (m * 2 ^ j * b) n
      go (inl h) =
          let k = drop p n b in
          subst (λ (x : ℕ). apart (kept p n b * 2 ^ k * b) n ≤ apart (x * b) n)
          (mul_assoc m (2 ^ (j - k)) (2 ^ k) ∙ ap (λ (x : ℕ). m * x) (sym (pow-add 2 (j - k) k) ∙ ap (λ (x : ℕ). 2 ^ x) (back j k h)))
          (taken_nearest (m * 2 ^ (j - k)))
      go (inr h) =
          let k = drop p n b in
          let top : 2 ^ (p - 1) * 2 ^ k ≡ 2 ^ (p - 1 + k) = sym (pow-add 2 (p - 1) k) in
          let small : m * 2 ^ j ≤ 2 ^ (p - 1) * 2 ^ k = le_trans (le_of_lt (shl_lt p j M)) (le_trans (pow_mono (one_less p j k P h)) (le_of_eq (sym top))) in
          le_trans (taken_nearest (2 ^ (p - 1)))
          (nearer (m * 2 ^ j * b) (2 ^ (p - 1) * 2 ^ k * b) n (mul-le-mul_right b small)
          (le_trans (le_of_eq (ap (λ (x : ℕ). x * b) top)) (dropped (omega (arith, h)))))

  -- the unit is b itself, or at most n
  unit_le : b * 2 ^ drop p n b ≤ n + b
  unit_le = go (drop p n b) dropped
    where
      go : (k : ℕ) → (0 < k → 2 ^ (p - 1 + k) * b ≤ n) → b * 2 ^ k ≤ n + b
      go zero h = omega (arith, mul-one b)
      go (suc k) h =
          le_trans (le_of_eq (mul_comm b (2 ^ suc k)))
          (le_trans (mul-le-mul_right b (pow_mono (omega arith)))
          (le_trans (h (zero-lt-suc k)) (omega arith)))

  kept_under : kept p n b * 2 ^ drop p n b * b ≤ n + (n + b)
  kept_under =
      let k = drop p n b in
      le_trans (le_of_eq (sym (by_unit (kept p n b) k)))
      (omega (arith, closest_under n (b * 2 ^ k), unit_le))

-- ---- quotients of numbers up to 2 ^ 53 are far from overflow
far : (g n b c : ℕ) → 0 < b → g * b ≤ n + (n + b) → n ≤ c → g ≤ c + c + 1
far g n b c B h k = go (order g (c + c + 1))
  where
    go : (g ≤ c + c + 1) ⊎ (c + c + 1 < g) → g ≤ c + c + 1
    go (inl l) = l
    go (inr l) =
        absurd
        (omega (arith, mul-le-mul_right b l, suc-mul (c + c + 1) b, mul-le-mul (le_refl (c + c + 1)) B, mul-one (c + c + 1)))

no_overflow : (a b : ℕ) → a ≤ 2 ^ 53 → 0 < b → grid binary64 a b < overflow binary64
no_overflow a b h B =
    lt_of_le_of_lt
    (far (grid binary64 a b) (a * 2 ^ 1074) b (2 ^ 53 * 2 ^ 1074) B (kept_under 53 (a * 2 ^ 1074) b (lit< tt) B) (mul-le-mul_right (2 ^ 1074) h))
    (lit< tt)

-- ---- distances, in whole units
sub_mul : (p q c : ℕ) → (p - q) * c ≡ p * c - q * c
sub_mul p q c = mul_comm (p - q) c ∙ mul-sub c p q ∙ ap (λ (x : ℕ). x - c * q) (mul_comm c p) ∙ ap (λ (x : ℕ). p * c - x) (mul_comm c q)

apart_mul : (p q c : ℕ) → apart p q * c ≡ apart (p * c) (q * c)
apart_mul p q c =
    add-mul (p - q) (q - p) c
    ∙ ap (λ (x : ℕ). x + (q - p) * c) (sub_mul p q c)
    ∙ ap (λ (x : ℕ). (p * c - q * c) + x) (sub_mul q p c)

-- x is g units
off_units : (x : Float) (a b g l : ℕ) → num x * 2 ^ l ≡ g * den x → off_by x a b * 2 ^ l ≡ apart (g * b) (a * 2 ^ l) * den x
unfolding off_by
off_units x a b g l e =
    apart_mul (num x * b) (a * den x) (2 ^ l)
    ∙ ap (λ (z : ℕ). apart z (a * den x * 2 ^ l)) (mul_right_comm (num x) b (2 ^ l) ∙ ap (λ (z : ℕ). z * b) e ∙ mul_right_comm g (den x) b)
    ∙ ap (λ (z : ℕ). apart (g * b * den x) z) (mul_right_comm a (den x) (2 ^ l))
    ∙ sym (apart_mul (g * b) (a * 2 ^ l) (den x))

compared : (o q d c g h l : ℕ) → 0 < l → o * l ≡ g * d → q * l ≡ h * c → g ≤ h → o * c ≤ q * d
compared o q d c g h l L e f k =
    le_of_mul-le-mul_right
    (le_trans (le_of_eq (mul_right_comm o c l ∙ ap (λ (x : ℕ). x * c) e))
    (le_trans (mul-le-mul_right c (mul-le-mul_right d k))
    (le_of_eq (mul_right_comm h d c ∙ ap (λ (x : ℕ). x * d) (sym f) ∙ mul_right_comm q l d))))
    L

-- x is g units, and so no farther off than any y
against : (x : Float) (a b g : ℕ) → num x * 2 ^ 1074 ≡ g * den x
    → ((m j : ℕ) → m < 2 ^ 53 → apart (g * b) (a * 2 ^ 1074) ≤ apart (m * 2 ^ j * b) (a * 2 ^ 1074))
    → (y : Float) → InUnits 53 1074 y → off_by x a b * den y ≤ off_by y a b * den x
against x a b g e near y (m, j, M, f) =
    let n = a * 2 ^ 1074 in
    compared (off_by x a b) (off_by y a b) (den x) (den y) (apart (g * b) n) (apart (m * 2 ^ j * b) n) (2 ^ 1074) (pow_pos 1074)
    (off_units x a b g 1074 e) (off_units y a b (m * 2 ^ j) 1074 f) (near m j M)

unsigned_value : (x : Float) (a c : ℕ) → HasValue x false a c → T (unsigned x)
unsigned_value nan a c h = absurd h
unsigned_value (inf s) a c h = absurd h
unsigned_value (fin true m e) a c h = absurd (true≢false h.0)
unsigned_value (fin false m e) a c h = tt

pub rounded_nearest : RoundedNearest
unfolding rounded
rounded_nearest a b h B =
    let x = round binary64 false a b in
    let v : HasValue x false (grid binary64 a b) (2 ^ 1074) = round_val binary64 a b (no_overflow a b h B) in
    record {
      value = round-fits binary64 false a b;
      not_negative = unsigned_value x (grid binary64 a b) (2 ^ 1074) v;
      nearest = λ y f u.
          against x a b (grid binary64 a b) (value→cross x (grid binary64 a b) (2 ^ 1074) v)
          (kept_nearest 53 (a * 2 ^ 1074) b (lit< tt) B) y (in_units y f u);
    }
