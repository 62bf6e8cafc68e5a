-- NEAREST: what `rounded` means, in whole numbers alone.
use Rattle.std.specs.Prelude.{Bool, true, false, ℕ, ◌+◌, ◌-◌, ◌*◌, ◌<◌, ◌≤◌, ◌^◌, T, Float}
use Rattle.std.specs.Float.{nan, inf, fin, binary64}
use Rattle.std.specs.Float.Ieee.{fits}
use Rattle.std.specs.Float.Ieee.Positive.{num, den}
use Rattle.quotients.specs.Quotient.{rounded}

-- the difference of two numbers, whichever is greater
abbrev pub apart : ℕ → ℕ → ℕ
apart p q = (p - q) + (q - p)

-- how far x, which is num x / den x, lies from a / b, in parts of 1 / (b * den x)
unfoldable pub off_by : Float → ℕ → ℕ → ℕ
off_by x a b = apart (num x * b) (a * den x)

-- finite and not below zero
abbrev pub unsigned : Float → Bool
unsigned nan = false
unsigned (inf s) = false
unsigned (fin true m e) = false
unsigned (fin false m e) = true

-- x is such a value of binary64, and no other lies nearer to a / b
pub record NearestFloat (x : Float) (a b : ℕ) : Type 0 where
  pub value : T (fits binary64 x)
  pub not_negative : T (unsigned x)
  pub nearest : (y : Float) → T (fits binary64 y) → T (unsigned y) → off_by x a b * den y ≤ off_by y a b * den x

-- so is every quotient of a whole number up to 2 ^ 53
abbrev pub RoundedNearest : Type 0
RoundedNearest = (a b : ℕ) → a ≤ 2 ^ 53 → 0 < b → NearestFloat (rounded a b) a b
