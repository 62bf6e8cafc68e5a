-- Laws of printing: how the code places a figure, and how long the figure is.
use Prim.Native.Nat.{ℕ, zero, suc, ◌+◌, ◌-◌, ◌/◌, ◌%◌, ◌^◌, ◌<◌, ◌≤◌}
use mathlib.Core.Path.{◌≡◌, refl}
use mathlib.Core.List.{List, [], ◌∷◌, ◌++◌, append-nil}
use native.Mathlib.Nat.{pow-suc, div-lt_iff_lt-mul, lt_trans}
use native.Mathlib.Omega.{arith}
use lib.Pow.{pow-add}
use lib.ListN.{length, length-append}
use lib.Dec.{ltb, lit<}
use borrow.Author.Tests.{lt-ltb, le-ltb}
use Rattle.base.proofs.Choice.{pick_keeps}
use Rattle.base.specs.Put.{Put}
use Rattle.base.proofs.Put.{put_none, put_then}
use Rattle.prints.specs.Figure.{fixed, shortest, decimals, figure}
use Rattle.figures.proofs.Laws.{pow_pos}

-- what the code places, digit by digit
module _ {b : List ℕ} {at : ℕ} where
  pub put_fixed_none : (n v : ℕ) → n ≡ 0 → Put b at (fixed n v) at b
  unfolding fixed
  put_fixed_none n v e = rw e (put_none b at)

  pub put_fixed_more : (n v : ℕ) → (n ≡ 0 → ⊥) → {p : ℕ} {b' : List ℕ} {q : ℕ} {b'' : List ℕ} → Put b at (fixed (n - 1) (v / 10)) p b' → Put b' p ((48 + v % 10) ∷ []) q b'' → Put b at (fixed n v) q b''
  unfolding fixed
  put_fixed_more zero v e f g = absurd (e refl)
  put_fixed_more (suc n) v e f g = let d : suc n - 1 ≡ n = omega arith in put_then (rw d at f) g

  pub put_shortest_none : (n v : ℕ) → n ≡ 0 → Put b at (shortest n v) at b
  unfolding shortest
  put_shortest_none n v e = rw e (put_none b at)

  pub put_shortest_small : (n v : ℕ) → (n ≡ 0 → ⊥) → v < 10 → {q : ℕ} {b' : List ℕ} → Put b at ((48 + v) ∷ []) q b' → Put b at (shortest n v) q b'
  unfolding shortest
  put_shortest_small zero v e l g = absurd (e refl)
  put_shortest_small (suc n) v e l g = rw (lt-ltb v 10 l) g

  pub put_shortest_more : (n v : ℕ) → (n ≡ 0 → ⊥) → 10 ≤ v → {p : ℕ} {b' : List ℕ} {q : ℕ} {b'' : List ℕ} → Put b at (shortest (n - 1) (v / 10)) p b' → Put b' p ((48 + v % 10) ∷ []) q b'' → Put b at (shortest n v) q b''
  unfolding shortest
  put_shortest_more zero v e l f g = absurd (e refl)
  put_shortest_more (suc n) v e l f g = let d : suc n - 1 ≡ n = omega arith in rw (le-ltb v 10 l) (put_then (rw d at f) g)

  -- a figure without decimals, and with some; w is what the code prints before the point
  pub put_figure_whole : (k v w : ℕ) → w ≡ v / 10 ^ k → k ≡ 0 → {p : ℕ} {b' : List ℕ} → Put b at (shortest 20 w) p b' → Put b at (figure k v) p b'
  unfolding figure decimals
  put_figure_whole k v w h e f = rw (← h, e, append-nil) f

  pub put_figure_point : (k v w : ℕ) → w ≡ v / 10 ^ k → (k ≡ 0 → ⊥) → {p : ℕ} {b₁ : List ℕ} {q : ℕ} {b₂ : List ℕ} {r : ℕ} {b₃ : List ℕ} → Put b at (shortest 20 w) p b₁ → Put b₁ p (46 ∷ []) q b₂ → Put b₂ q (fixed k v) r b₃ → Put b at (figure k v) r b₃
  unfolding figure decimals
  put_figure_point zero v w h e f g i = absurd (e refl)
  put_figure_point (suc k) v w h e f g i = rw (← h) (put_then f (put_then g i))

-- the length of a print
pub length_fixed : (n v : ℕ) → length (fixed n v) ≡ n
unfolding fixed
length_fixed zero v = refl
length_fixed (suc n) v = rw length-append (omega (arith, length_fixed n (v / 10)))

-- m + 1 digits are enough below 10 ^ (m + 1)
pub length_shortest : (m n v : ℕ) → v < 10 ^ suc m → length (shortest n v) ≤ suc m
unfolding shortest
length_shortest m zero v l = omega arith
length_shortest zero (suc n) v l = rw (lt-ltb v 10 l) (omega arith)
length_shortest (suc m) (suc n) v l =
    pick_keeps (λ (xs : List ℕ). length xs ≤ suc (suc m)) (ltb v 10) ((48 + v) ∷ []) (shortest n (v / 10) ++ ((48 + v % 10) ∷ []))
    (omega arith)
    (rw length-append (omega (arith, length_shortest m n (v / 10) (omega (arith, pow-suc 10 (suc m))))))

pub length_decimals : (k v : ℕ) → length (decimals k v) ≤ suc k
unfolding decimals
length_decimals zero v = omega arith
length_decimals (suc k) v = omega (arith, length_fixed (suc k) v)

-- m digits before the point, the point, and k digits after it
pub length_figure : (m k v : ℕ) → 0 < m → v < 10 ^ (m + k) → length (figure k v) ≤ m + 1 + k
unfolding figure
length_figure zero k v h l = absurd (omega arith)
length_figure (suc m) k v h l =
    let q : v / 10 ^ k < 10 ^ suc m = (div-lt_iff_lt-mul (pow_pos k)).1 (rw (pow-add 10 (suc m) k) at l) in
    rw length-append (omega (arith, length_shortest m 20 (v / 10 ^ k) q, length_decimals k v))

-- a 32-bit figure can be read back: it has at most 12 characters
pub figure_short : (k v : ℕ) → k < 10 → v < 2 ^ 32 → length (figure k v) ≤ 12
figure_short k v h l =
    let e : 10 - k + k ≡ 10 = omega arith in
    omega (arith, length_figure (10 - k) k v (omega arith) (rw e (lt_trans l (lit< tt))))
