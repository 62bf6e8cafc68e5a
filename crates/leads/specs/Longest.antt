-- THE LONGEST LEAD of a gauge at a current.
use Rattle.std.specs.Prelude.{false, ℕ, ◌*◌, pos, Float, Option, Some, None, Result, Ok, Err}
use Rattle.std.specs.Float.{fin}
use Rattle.base.specs.Choice.{pick}
use Rattle.quotients.specs.Quotient.{rounded}
use Rattle.leads.specs.declared.LeadRefusal.{LeadRefusal}
use Rattle.leads.specs.declared.LeadRefusal.TheVariants.{NotListed, OutOfRange}
use Rattle.leads.specs.declared.LongestLead.{LongestLead}
use Rattle.leads.specs.Gauges.{listing_of, current_in}
use Rattle.leads.specs.Refusal.{refusal_number}

-- in metres: one rounded quotient of two whole numbers
unfoldable pub lead_metres : ℕ → ℕ → Float
lead_metres ma r = rounded 10000000000 (ma * r)

-- the gauge is judged first, then the current
unfoldable pub longest_by : Option ℕ → ℕ → Result Float LeadRefusal
longest_by None ma = Err NotListed
longest_by (Some r) ma = pick (current_in ma) (Ok (lead_metres ma r)) (Err OutOfRange)

unfoldable pub longest_of : ℕ → ℕ → Result Float LeadRefusal
longest_of g ma = longest_by (listing_of g) ma

-- a refusal, with +0.0 beside it
abbrev pub no_lead : ℕ → LongestLead
no_lead c = record { code = c; metres = fin false 0 (pos 0) }

-- each answer as the paper's number and its value
abbrev pub lead_numbers : Result Float LeadRefusal → LongestLead
lead_numbers (Ok x) = record { code = 0; metres = x }
lead_numbers (Err e) = no_lead (refusal_number e)
