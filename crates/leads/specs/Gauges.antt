-- GAUGES: table 2-2 of the manual, and the ranges of the lead adviser.
use Rattle.std.specs.Prelude.{Bool, true, false, ◌&&◌, List, [], ◌∷◌, ℕ, ◌*◌, eqb, leb, get_or, Option, Some, None}
use Rattle.base.specs.Choice.{pick}
use Rattle.leads.specs.declared.Row.{Row}

abbrev pub row_of : ℕ → ℕ → Row
row_of g r = record { gauge = g; resistance = r }

-- each gauge with its tenths of a milliohm per km, in the listed order
unfoldable pub table : List Row
table =
    row_of 14 82870 ∷
    row_of 12 52130 ∷
    row_of 10 32789 ∷
    row_of 8 20620 ∷
    row_of 6 12969 ∷
    row_of 4 8156 ∷
    row_of 2 5131 ∷
    row_of 0 3225 ∷
    []

-- row i, counted from 0
unfoldable pub row_at : ℕ → Row
row_at i = get_or table i (row_of 0 0)

-- v of the first row that passes a test, and e where none does
unfoldable pub first_row : {A : Type 0} → (Row → Bool) → (Row → A) → A → List Row → A
first_row test v e [] = e
first_row test v e (x ∷ xs) = pick (test x) (v x) (first_row test v e xs)

-- what rows have for a gauge, and what the table has: its resistance, or nothing
unfoldable pub listing_in : List Row → ℕ → Option ℕ
listing_in s g = first_row (λ (x : Row). eqb x.gauge g) (λ (x : Row). Some x.resistance) None s

unfoldable pub listing_of : ℕ → Option ℕ
listing_of g = listing_in table g

abbrev pub is_listed : Option ℕ → Bool
is_listed None = false
is_listed (Some r) = true

abbrev pub in_range : ℕ → ℕ → Bool
in_range most n = leb 1 n && leb n most

-- currents in mA, lengths in mm
abbrev pub current_in : ℕ → Bool
current_in ma = in_range 150000 ma

abbrev pub length_in : ℕ → Bool
length_in mm = in_range 1000000 mm

-- Whether a lead of any resistance meets the product: of these units 10,000,000,000,000 make a volt, the most that the
-- manual lets a lead drop.
unfoldable pub within_limit : ℕ → ℕ → ℕ → Bool
within_limit ma r mm = leb (ma * r * mm) 10000000000000
