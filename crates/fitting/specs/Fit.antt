-- WHAT A FITTING LIST MAKES: a fresh rack of its models, or refusal 8.
use Rattle.std.specs.Prelude.{ℕ, ◌≡◌, List, Result, Ok, Err, true, false, replicate}
use Rattle.supply.specs.State.{fresh}
use Rattle.field.specs.declared.Refusal.{Refusal}
use Rattle.field.specs.Refusals.{refusal_number}
use Rattle.serial.specs.declared.Line.{Line}
use Rattle.slots.specs.declared.Rack.{Rack}
use Rattle.slots.specs.View.{rack_is}
use Rattle.fitting.specs.Fitting.{good_list, Made}
use Rattle.fitting.specs.declared.Fitted.{Fitted}

-- the rack of 31 empty slots: no supply, nobody selected, and an empty line
abbrev pub empty_line : Line
empty_line = record { kept = replicate 64 0; count = 0; spoiled = false; selected = 31 }

abbrev pub empty_rack : Rack
empty_rack = rack_is (replicate 31 (fresh 255)) empty_line (record { models = replicate 31 255 })

-- what `fit` answers, as the papers number it
abbrev pub fitted_told : Result Rack Refusal → Fitted
fitted_told (Ok q) = record { code = 0; rack = q }
fitted_told (Err e) = record { code = refusal_number e; rack = empty_rack }

-- a refused list gives the rack of 31 empty slots
pub record FitDoes (l : List ℕ) (f : Fitted) : Type 0 where
  pub refuses : good_list l ≡ false → (f.code ≡ 8) × Made (record { models = replicate 31 255 }) f.rack
  pub makes : good_list l ≡ true → (f.code ≡ 0) × Made (record { models = l }) f.rack
