-- Runs of decimal digits.
use Rattle.std.specs.Prelude.{ℕ, zero, suc, ◌+◌, ◌-◌, ◌*◌, ◌%◌, Bool, true, ◌&&◌, List, [], ◌∷◌, leb, get_or}

-- 48 to 57 are the characters 0 to 9
abbrev pub is_digit : ℕ → Bool
is_digit b = leb 48 b && leb b 57

unfoldable pub all_digits : List ℕ → Bool
all_digits [] = true
all_digits (b ∷ bs) = is_digit b && all_digits bs

-- the value of a digit character
abbrev pub digit_of : ℕ → ℕ
digit_of b = (b - 48) % 10

-- the value of the first n characters of s: ten times the value of all but the last, plus the last digit
unfoldable pub run_value : List ℕ → ℕ → ℕ
run_value s zero = 0
run_value s (suc n) = run_value s n * 10 + digit_of (get_or s n 0)
