-- QUOTIENTS OF WHOLE NUMBERS AS 64-BIT FLOATS.
use Rattle.std.specs.Prelude.{◌≡◌, false, ℕ, ◌<◌, ◌≤◌, ◌^◌, pos, Float}
use Rattle.std.specs.Float.{binary64}
use Rattle.std.specs.Float.Ieee.{round, of_int, div}
use Rattle.std.specs.Float.Ieee.Exact.{HasValue}

-- the binary64 value nearest to a / b, rounded once from the exact fraction; for b above 0
unfoldable pub rounded : ℕ → ℕ → Float
rounded a b = round binary64 false a b

-- a whole number converted by `as`
abbrev pub as_float : ℕ → Float
as_float n = of_int binary64 (pos n)

-- One division of floats is all that is rounded: up to 2 ^ 53 each operand is converted to its very value, and the
-- quotient of the two floats is then `rounded` of the whole numbers.
pub record OneDivision : Type 0 where
  pub operand : (n : ℕ) → n ≤ 2 ^ 53 → HasValue (as_float n) false n 1
  pub divided : (a b : ℕ) → a ≤ 2 ^ 53 → 0 < b → b ≤ 2 ^ 53 → div binary64 (as_float a) (as_float b) ≡ rounded a b
