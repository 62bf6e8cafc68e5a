-- WHAT HOLDS OF LEADS: of the table, the tests and the two answers.
use Rattle.std.specs.Prelude.{◌≡◌, ◌↔◌, Bool, false, not, ◌&&◌, ◌||◌, List, [], ◌∷◌, map, ℕ, ◌*◌, ◌≤◌, T, eqb, Float, Some, None, Ok}
use Rattle.std.specs.Float.Ieee.{le}
use Rattle.base.specs.Choice.{pick}
use Rattle.quotients.specs.Quotient.{rounded}
use Rattle.quotients.specs.Nearest.{NearestFloat}
use Rattle.leads.specs.declared.Row.{Row}
use Rattle.leads.specs.Gauges.{table, listing_of, is_listed, current_in, length_in, within_limit}
use Rattle.leads.specs.Longest.{longest_of, lead_numbers}
use Rattle.leads.specs.Advice.{suits, some_suits, advice_of, gauge_numbers}

-- the two columns of the table
abbrev pub gauges : List ℕ
gauges = 14 ∷ 12 ∷ 10 ∷ 8 ∷ 6 ∷ 4 ∷ 2 ∷ 0 ∷ []

abbrev pub resistances : List ℕ
resistances = 82870 ∷ 52130 ∷ 32789 ∷ 20620 ∷ 12969 ∷ 8156 ∷ 5131 ∷ 3225 ∷ []

abbrev pub has : List ℕ → ℕ → Bool
has [] g = false
has (x ∷ xs) g = eqb x g || has xs g

-- the gauges stand in this order; each is looked up as its own resistance, and no other is listed
pub record Columns : Type 0 where
  pub listed : map (λ (x : Row). x.gauge) table ≡ gauges
  pub each : map listing_of gauges ≡ map Some resistances
  pub others : (g : ℕ) → T (not (has gauges g)) → listing_of g ≡ None

-- what each test says, as a fact about numbers
pub record Tests : Type 0 where
  pub current : (ma : ℕ) → T (current_in ma) ↔ ((1 ≤ ma) × (ma ≤ 150000))
  pub length : (mm : ℕ) → T (length_in mm) ↔ ((1 ≤ mm) × (mm ≤ 1000000))
  pub limit : (ma r mm : ℕ) → T (within_limit ma r mm) ↔ (ma * r * mm ≤ 10000000000000)

-- The number that a question draws, tested in this order; and 11 exactly where no gauge suits.
pub record Refusals : Type 0 where
  pub longest : (g ma : ℕ) → (lead_numbers (longest_of g ma)).code ≡ pick (is_listed (listing_of g)) (pick (current_in ma) 0 10) 9
  pub advice : (ma mm g : ℕ)
      → (gauge_numbers (advice_of ma mm g)).code ≡ pick (current_in ma && length_in mm) (pick (some_suits ma mm) 0 11) 10
  pub one_suits : (ma mm : ℕ) → T (some_suits ma mm) → (h : ℕ) × T (suits ma mm h)
  pub suits_one : (ma mm h : ℕ) → T (suits ma mm h) → T (some_suits ma mm)

-- no float is nearer to the exact quotient than the metres, x, that are returned
abbrev pub MetresNearest : Type 0
MetresNearest = (g ma : ℕ) (x : Float) → longest_of g ma ≡ Ok x
    → (r : ℕ) × (listing_of g ≡ Some r) × NearestFloat x 10000000000 (ma * r)

-- A length is taken here as mm / 1000 metres, rounded. The longest lead x of a gauge that suits it is no shorter, and that
-- of a gauge that does not is no longer.
pub record Agree : Type 0 where
  pub reaches : (ma mm g : ℕ) (x : Float) → longest_of g ma ≡ Ok x → T (suits ma mm g) → T (le (rounded mm 1000) x)
  pub falls_short : (ma mm g : ℕ) (x : Float) → longest_of g ma ≡ Ok x → T (not (suits ma mm g))
      → T (le x (rounded mm 1000))
