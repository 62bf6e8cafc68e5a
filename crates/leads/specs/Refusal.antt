-- WHY A LEAD OR A GAUGE IS REFUSED, as the paper numbers it.
use Rattle.std.specs.Prelude.{ℕ}
use Rattle.leads.specs.declared.LeadRefusal.{LeadRefusal}
use Rattle.leads.specs.declared.LeadRefusal.TheVariants.{NotListed, OutOfRange, NoneSuits}

abbrev pub refusal_number : LeadRefusal → ℕ
refusal_number NotListed = 9
refusal_number OutOfRange = 10
refusal_number NoneSuits = 11
