-- The bounds of a parameter, and what the code reads of one, as the definitions tell it.
use Prim.Native.Nat.{ℕ, suc, ◌+◌, ◌-◌, ◌<◌, ◌≤◌}
use mathlib.Core.Path.{◌≡◌, refl, ap, ◌∙◌}
use mathlib.Core.List.{List}
use mathlib.Core.Bool.{Bool, true, false, ◌&&◌, and-eq-true_iff}
use native.Mathlib.Omega.{arith}
use lib.Dec.{leb, eqb}
use lib.ListN.{length, get_or}
use borrow.Author.Tests.{leb-true, lt-ltb, le-ltb}
use Rattle.base.specs.Choice.{pick}
use Rattle.base.proofs.Choice.{pick_keeps}
use Rattle.figures.specs.Number.{Number}
use Rattle.figures.specs.Number.{number_is, no_number, number_in}
use Rattle.std.specs.Prelude.{Some, None, Result, Ok, Err}
use Rattle.figures.specs.Digits.{run_value}
use Rattle.figures.proofs.Laws.{run_lt, pow_le}
use Rattle.supply.specs.declared.ErrorCode.{ErrorCode}
use Rattle.supply.specs.declared.ErrorCode.TheVariants.{C02}
use Rattle.supply.specs.ErrorCodes.{code_byte}
use Rattle.supply.specs.State.{c05}
use Rattle.parameters.specs.Told.{parameter_told, required, read_or_malformed}
use Rattle.parameters.specs.Parameters.{Parameter}
use Rattle.parameters.specs.Parameters.{needed, within30, is_empty, value_is, refused_by, c02, c03, switch, read_switch, read_as, parameter_of}

-- a required parameter's value keeps every bound of the number read
pub needed_small : (n : Number) (x : List ℕ) (b : ℕ) → n.value < b → (needed n x).value < b
needed_small n x b h =
    pick_keeps (λ (p : Parameter). p.value < b) (is_empty x) (refused_by c02) (pick n.good (value_is n.value) (refused_by c03)) (omega arith)
    (pick_keeps (λ (p : Parameter). p.value < b) n.good (value_is n.value) (refused_by c03) h (omega arith))

-- an address has at most two digits
pub address_lt : (x : List ℕ) (n : ℕ) → n < 3 → run_value x n < 256
address_lt x n h = omega (arith, run_lt x n, pow_le n 2 (omega arith))

-- a required parameter as the code gives it
pub required_told : (n : Number) (x : List ℕ) → parameter_told (required (number_in n) x) ≡ needed n x
required_told n x = by_tests (is_empty x) n.good
  where
    by_tests : (s t : Bool) → parameter_told (pick s (Err C02) (read_or_malformed (pick t (Some n.value) None))) ≡ pick s (refused_by c02) (pick t (value_is n.value) (refused_by c03))
    by_tests true t = refl
    by_tests false true = refl
    by_tests false false = refl

-- and an address, which may draw C05
module _ (r : Result ℕ ErrorCode) (n : Number) (x : List ℕ) (is : r ≡ required (number_in n) x) where
  told : parameter_told r ≡ needed n x
  told = ap parameter_told is ∙ required_told n x

  pub address_refused : (e : ErrorCode) → r ≡ Err e → refused_by (code_byte e) ≡ within30 (needed n x)
  address_refused e q = rw (← told, q) refl

  pub address_above : (a : ℕ) → r ≡ Ok a → 30 < a → refused_by c05 ≡ within30 (needed n x)
  address_above a q h = rw (← told, q, lt-ltb 30 a h) refl

  pub address_inside : (a : ℕ) → r ≡ Ok a → a ≤ 30 → value_is a ≡ within30 (needed n x)
  address_inside a q h = rw (← told, q, le-ltb 30 a h) refl

-- a switch reads as its greatest digit at most
digit_most : (most : ℕ) (x : List ℕ) → (read_switch most x).value ≤ most
digit_most most x = by_test (eqb (length x) 1 && (leb 48 (get_or x 0 0) && leb (get_or x 0 0) (48 + most))) refl
  where
    by_test : (t : Bool) → (eqb (length x) 1 && (leb 48 (get_or x 0 0) && leb (get_or x 0 0) (48 + most))) ≡ t
        → (pick t (number_is (get_or x 0 0 - 48)) no_number).value ≤ most
    by_test true e =
        let digit = ((and-eq-true_iff (eqb (length x) 1) (leb 48 (get_or x 0 0) && leb (get_or x 0 0) (48 + most))).0 e).1 in
        let low = ((and-eq-true_iff (leb 48 (get_or x 0 0)) (leb (get_or x 0 0) (48 + most))).0 digit).1 in
        omega (arith, leb-true (get_or x 0 0) (48 + most) low)
    by_test false e = omega arith

pub switch_most : (most : ℕ) (x : List ℕ) → (parameter_of (switch most) x).value ≤ most
unfolding parameter_of read_as
switch_most most x = omega (arith, needed_small (read_switch most x) x (suc most) (omega (arith, digit_most most x)))
