-- Bytes printed up to an index; past the end of the buffer there are none.
use Prim.Native.Nat.{ℕ, zero, suc, min}
use mathlib.Core.Path.{◌≡◌, refl, sym, ap, ◌∙◌}
use mathlib.Core.Bool.{Bool, true, false}
use mathlib.Core.List.{List, [], ◌∷◌, ◌++◌, map}
use native.Mathlib.Omega.{arith}
use lib.Dec.{ltb, eqb}
use lib.ListN.{length, take, drop, length-take, take-append-drop}
use borrow.Author.Tests.{ltb-true, ltb-false, eqb-true}
use Rattle.base.specs.Choice.{pick}
use Rattle.base.specs.Lists.{each_to}
use Rattle.base.proofs.Lists.{each_to_all}
use Rattle.buffers.specs.Printed.{printed}

pub each_there : (f : ℕ → ℕ → ℕ) (k n : ℕ) (l : List ℕ) → k ≡ min n (length l) → each_to f k l ≡ each_to f n l
each_there f k n l e = by_test (ltb n (length l)) refl
  where
    by_test : (t : Bool) → ltb n (length l) ≡ t → each_to f k l ≡ each_to f n l
    by_test true h = let same : k ≡ n = omega (arith, e, ltb-true n (length l) h) in rw same refl
    by_test false h = each_to_all f k l 0 (omega (arith, e, ltb-false n (length l) h)) ∙ sym (each_to_all f n l 0 (ltb-false n (length l) h))

-- the bytes xs at the start are printed apart from those after them, which stay
each_part : (f : ℕ → ℕ) (xs ys : List ℕ) → each_to (λ i b. f b) (length xs) xs ++ ys ≡ each_to (λ i b. f b) (length xs) (xs ++ ys)
each_part f [] ys = refl
each_part f (x ∷ xs) ys = ap (λ (l : List ℕ). f x ∷ l) (each_part f xs ys)

-- the same of the bytes before index end, where the code keeps end inside the buffer
pub each_before : (f : ℕ → ℕ) (n end : ℕ) (l : List ℕ) → end ≡ min n (length l)
    → each_to (λ i b. f b) (length (take end l)) (take end l) ++ drop end l ≡ each_to (λ i b. f b) n l
each_before f n end l e =
    each_part f (take end l) (drop end l)
    ∙ rw take-append-drop (each_there (λ i b. f b) (length (take end l)) n l (omega (arith, length-take end l)))

-- if lines end with CR, nothing changes
pub printed_cr : (b : ℕ) → printed 13 b ≡ b
unfolding printed
printed_cr b = by_test (eqb b 13) refl
  where
    by_test : (t : Bool) → eqb b 13 ≡ t → pick t 13 b ≡ b
    by_test true e = sym (eqb-true b 13 e)
    by_test false e = refl

pub each_cr : (n : ℕ) (l : List ℕ) → l ≡ each_to (λ i b. printed 13 b) n l
each_cr zero l = refl
each_cr (suc n) [] = refl
each_cr (suc n) (b ∷ l) = rw (printed_cr b, ← each_cr n l) refl

pub map_cr : (l : List ℕ) → map (printed 13) l ≡ l
map_cr [] = refl
map_cr (b ∷ l) = rw (printed_cr b, map_cr l) refl

-- the bytes at the start of a buffer are printed, and those after them stay unchanged
pub each_first : (f : ℕ → ℕ) (xs ys : List ℕ) → each_to (λ i b. f b) (length xs) (xs ++ ys) ≡ map f xs ++ ys
each_first f [] ys = refl
each_first f (x ∷ xs) ys = ap (λ (l : List ℕ). f x ∷ l) (each_first f xs ys)
