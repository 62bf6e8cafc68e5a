-- Of all multiples of u, none is nearer to n than the one that rounding takes. Nothing here is about floats.
use mathlib.Core.Path.{◌≡◌, refl, sym, subst}
use mathlib.Core.Logic.{◌⊎◌, inl, inr}
use mathlib.Core.Bool.{Bool, true, false, not}
use Prim.Native.Nat.{ℕ, zero, suc, ◌+◌, ◌*◌, ◌/◌, ◌%◌, ◌≤◌, ◌<◌, compare, Ordering}
use native.Mathlib.Nat.{mul-le-mul_right, div-add-mod', mod-lt, le_of_eq, zero-lt-suc, suc-mul}
use native.Mathlib.Omega.{arith}
use lib.Dec.{T, is_le, compare_is_eq, leb, leb→le, nleb→lt, eqb→eq}
use lib.Ieee.{nearest}
use lib.Ieee.Nearest.{closest}
use Rattle.quotients.specs.Nearest.{apart}

pub order : (a b : ℕ) → (a ≤ b) ⊎ (b < a)
order a b = go (leb a b) (leb→le a b) (nleb→lt a b)
  where
    go : (t : Bool) → (T t → a ≤ b) → (T (not t) → b < a) → (a ≤ b) ⊎ (b < a)
    go true l g = inl (l tt)
    go false l g = inr (g tt)

-- with q times u at or below n and a rest of r: q is taken where the rest is at most a half, q + 1 where it is no less
abbrev Taken : ℕ → ℕ → ℕ → ℕ → Type 0
Taken k q r u = ((k ≡ q) × (r * 2 ≤ u)) ⊎ ((k ≡ suc q) × (u ≤ r * 2))

even_step : (q m : ℕ) → m < 2 → (q + m ≡ q) ⊎ (q + m ≡ suc q)
even_step q zero h = inl (omega arith)
even_step q (suc zero) h = inr (omega arith)
even_step q (suc (suc m)) h = absurd (omega arith)

taken : (q r u : ℕ) → Taken (nearest q (compare (r * 2) u)) q r u
taken q r u = go (compare (r * 2) u) (leb→le (r * 2) u) (nleb→lt (r * 2) u) (eqb→eq (r * 2) u)
  where
    tie : r * 2 ≡ u → (q + q % 2 ≡ q) ⊎ (q + q % 2 ≡ suc q) → Taken (q + q % 2) q r u
    tie e (inl s) = inl (s, le_of_eq e)
    tie e (inr s) = inr (s, le_of_eq (sym e))

    go : (o : Ordering) → (T (is_le o) → r * 2 ≤ u) → (T (not (is_le o)) → u < r * 2) → (T (compare_is_eq o) → r * 2 ≡ u)
        → Taken (nearest q o) q r u
    go Ordering.lt l g e = inl (refl, l tt)
    go Ordering.eq l g e = tie (e tt) (even_step q (q % 2) (mod-lt q (zero-lt-suc 1)))
    go Ordering.gt l g e = inr (refl, omega (arith, g tt))

-- a multiple of u is at most q * u or at least (q + 1) * u
step : (q z u : ℕ) → (z * u ≤ q * u) ⊎ (q * u + u ≤ z * u)
step q z u = go (order z q)
  where
    go : (z ≤ q) ⊎ (q < z) → (z * u ≤ q * u) ⊎ (q * u + u ≤ z * u)
    go (inl h) = inl (mul-le-mul_right u h)
    go (inr h) = inr (omega (arith, mul-le-mul_right u h, suc-mul q u))

below : (a c n r u : ℕ) → a + r ≡ n → r * 2 ≤ u → (c ≤ a) ⊎ (a + u ≤ c) → apart a n ≤ apart c n
below a c n r u e h (inl l) = omega arith
below a c n r u e h (inr l) = omega arith

above : (a c n r u : ℕ) → a + r ≡ n → r < u → u ≤ r * 2 → (c ≤ a) ⊎ (a + u ≤ c) → apart (a + u) n ≤ apart c n
above a c n r u e k h (inl l) = omega arith
above a c n r u e k h (inr l) = omega arith

pub closest_nearest : (n u z : ℕ) → 0 < u → apart (closest n u * u) n ≤ apart (z * u) n
closest_nearest n u z U = go (closest n u) (taken (n / u) (n % u) u)
  where
    go : (k : ℕ) → Taken k (n / u) (n % u) u → apart (k * u) n ≤ apart (z * u) n
    go k (inl (e, h)) =
        subst (λ (x : ℕ). apart (x * u) n ≤ apart (z * u) n) (sym e)
        (below (n / u * u) (z * u) n (n % u) u (div-add-mod' n u) h (step (n / u) z u))
    go k (inr (e, h)) =
        subst (λ (x : ℕ). apart (x * u) n ≤ apart (z * u) n) (sym e)
        (subst (λ (x : ℕ). apart x n ≤ apart (z * u) n) (sym (suc-mul (n / u) u))
        (above (n / u * u) (z * u) n (n % u) u (div-add-mod' n u) (mod-lt n U) h (step (n / u) z u)))

-- and it is at most one multiple above n
pub closest_under : (n u : ℕ) → closest n u * u ≤ n + u
closest_under n u = go (closest n u) (taken (n / u) (n % u) u)
  where
    go : (k : ℕ) → Taken k (n / u) (n % u) u → k * u ≤ n + u
    go k (inl (e, h)) = subst (λ (x : ℕ). x * u ≤ n + u) (sym e) (omega (arith, div-add-mod' n u))
    go k (inr (e, h)) = subst (λ (x : ℕ). x * u ≤ n + u) (sym e) (omega (arith, div-add-mod' n u, suc-mul (n / u) u))
