-- ADVICE: a gauge for a current and a length. Which gauge is named, where several suit, the paper leaves free: so an
-- answer is `advice_of` at the gauge that it names itself, and `Suitable` is all that holds of that gauge.
use Rattle.std.specs.Prelude.{◌≡◌, Bool, true, false, ◌&&◌, List, ℕ, T, Option, Some, None, Result, Ok, Err}
use Rattle.base.specs.Choice.{pick}
use Rattle.leads.specs.declared.Row.{Row}
use Rattle.leads.specs.declared.LeadRefusal.{LeadRefusal}
use Rattle.leads.specs.declared.LeadRefusal.TheVariants.{OutOfRange, NoneSuits}
use Rattle.leads.specs.declared.GaugeFor.{GaugeFor}
use Rattle.leads.specs.Refusal.{refusal_number}
use Rattle.leads.specs.Gauges.{table, first_row, listing_of, current_in, length_in, within_limit}

-- whether a gauge is listed and meets the product
unfoldable pub suits_by : Option ℕ → ℕ → ℕ → Bool
suits_by None ma mm = false
suits_by (Some r) ma mm = within_limit ma r mm

unfoldable pub suits : ℕ → ℕ → ℕ → Bool
suits ma mm g = suits_by (listing_of g) ma mm

-- whether one of the rows meets it, and whether a listed gauge suits
unfoldable pub some_in : List Row → ℕ → ℕ → Bool
some_in s ma mm = first_row (λ (x : Row). within_limit ma x.resistance mm) (λ (x : Row). true) false s

unfoldable pub some_suits : ℕ → ℕ → Bool
some_suits ma mm = some_in table ma mm

-- the answer with the gauge g, if one is named
unfoldable pub chosen : ℕ → ℕ → ℕ → Result ℕ LeadRefusal
chosen ma mm g = pick (some_suits ma mm) (Ok g) (Err NoneSuits)

unfoldable pub advice_of : ℕ → ℕ → ℕ → Result ℕ LeadRefusal
advice_of ma mm g = pick (current_in ma && length_in mm) (chosen ma mm g) (Err OutOfRange)

-- a refusal, with 255 beside it, which is not listed
abbrev pub no_gauge : ℕ → GaugeFor
no_gauge c = record { code = c; gauge = 255 }

-- each answer as the paper's number and its value
abbrev pub gauge_numbers : Result ℕ LeadRefusal → GaugeFor
gauge_numbers (Ok g) = record { code = 0; gauge = g }
gauge_numbers (Err e) = no_gauge (refusal_number e)

-- the gauge that an answer names, or 255
abbrev pub named_of : Result ℕ LeadRefusal → ℕ
named_of a = (gauge_numbers a).gauge

-- the gauge that is named suits, whichever it is
unfoldable pub Suitable : ℕ → ℕ → ℕ → Type 0
Suitable ma mm g = advice_of ma mm g ≡ Ok g → T (suits ma mm g)
