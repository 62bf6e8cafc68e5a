-- What rounding promises, without saying how it is done.
use Rattle.std.specs.Prelude.{ℕ, ◌+◌, ◌-◌, ◌*◌, ◌%◌, ◌^◌, ◌≤◌, ◌≡◌, List, [], ◌∷◌, ◌++◌, ◌⊎◌, length}
use Rattle.figures.specs.Number.{whole, fraction, side_by_side}

-- how far two whole numbers are apart
abbrev pub apart : ℕ → ℕ → ℕ
apart x y = (x - y) + (y - x)

-- TO THE NEAREST, A TIE TO THE EVEN ONE: no whole number of units of d is nearer to a than r units are, and if another
-- is as near, r is even
pub record Rounded (a d r : ℕ) : Type 0 where
  pub none_nearer : (n : ℕ) → apart (r * d) a ≤ apart (n * d) a
  pub even_of_two : (n : ℕ) → (n ≡ r → ⊥) → apart (n * d) a ≡ apart (r * d) a → r % 2 ≡ 0

-- v is the number that t spells, rounded to units of the k-th decimal: what is rounded is all its digits as one number,
-- times 10 ^ k, over ten for each decimal typed
abbrev pub RoundedTo : ℕ → List ℕ → ℕ → Type 0
RoundedTo k t v = Rounded (side_by_side (whole t) (fraction t) * 10 ^ k) (10 ^ length (fraction t)) v

-- WHAT A TEXT SPELLS: it is its two parts with the point (46) between them, or without a point the first part alone
abbrev pub Spelled : List ℕ → Type 0
Spelled t = (t ≡ whole t ++ (46 ∷ fraction t)) ⊎ ((t ≡ whole t) × (fraction t ≡ []))
