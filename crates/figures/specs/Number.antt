-- A number on the serial line: when it is well formed, and its value in units of a decimal place.
use Rattle.std.specs.Prelude.{ℕ, Option, Some, None, suc, ◌+◌, ◌*◌, ◌/◌, ◌%◌, ◌^◌, List, [], ◌∷◌, Bool, true, false, ◌&&◌, length, take, drop, ltb, leb, eqb}
use Rattle.base.specs.Choice.{pick}
use Rattle.figures.specs.Digits.{all_digits, run_value}

-- the index of the first x, or the length if there is none
unfoldable pub first_at : ℕ → List ℕ → ℕ
first_at x [] = 0
first_at x (y ∷ ys) = pick (eqb y x) 0 (suc (first_at x ys))

-- the text before the first point (46), and the text after it
abbrev pub whole : List ℕ → List ℕ
whole t = take (first_at 46 t) t

abbrev pub fraction : List ℕ → List ℕ
fraction t = drop (first_at 46 t + 1) t

-- at most 12 characters, only digits and at most one point, and at least one digit
unfoldable pub well_formed : List ℕ → Bool
well_formed t =
    leb (length t) 12
    && (all_digits (whole t) && (all_digits (fraction t) && ltb 0 (length (whole t) + length (fraction t))))

-- the even one of q and q + 1
abbrev pub even_of : ℕ → ℕ
even_of q = q + q % 2

-- a in units of d, rounded to the nearest whole number; a tie goes to the even one
unfoldable pub whole_units : ℕ → ℕ → ℕ
whole_units a d =
    pick (ltb (2 * (a % d)) d) (a / d)
    (pick (ltb d (2 * (a % d))) (a / d + 1)
    (even_of (a / d)))

-- the digits w before a point and f after it, side by side as one number
abbrev pub side_by_side : List ℕ → List ℕ → ℕ
side_by_side w f = run_value w (length w) * 10 ^ length f + run_value f (length f)

-- the same digits as a number with decimals, in units of the k-th decimal, rounded
unfoldable pub scaled_value : ℕ → List ℕ → List ℕ → ℕ
scaled_value k w f = whole_units (side_by_side w f * 10 ^ k) (10 ^ length f)

-- what reading a text gives: a number, or good false and value 0 if the text is no number
pub record Number : Type 0 where
  pub good : Bool
  pub value : ℕ

-- the same as the code gives it
abbrev pub number_in : Number → Option ℕ
number_in n = pick n.good (Some n.value) None

-- the results of reading a text: the number v, or no number
abbrev pub number_is : ℕ → Number
number_is v = record { good = true; value = v }

abbrev pub no_number : Number
no_number = record { good = false; value = 0 }

-- the number that a text spells, in units of the k-th decimal
unfoldable pub read_number : ℕ → List ℕ → Number
read_number k t = pick (well_formed t) (number_is (scaled_value k (whole t) (fraction t))) no_number
