-- WHAT IS PRINTED IS WHAT IS DIVIDED.
use Rattle.std.specs.Prelude.{ℕ, ◌^◌, ◌<◌, ◌≡◌, Ok, List, [], ◌∷◌, ◌++◌, Bool, false}
use Prim.Native.String.{String}
use Rattle.base.specs.Choice.{pick}
use Rattle.base.specs.Text.{codes}
use Rattle.figures.specs.Number.{number_is, read_number}
use Rattle.prints.specs.Figure.{figure}
use Rattle.supply.specs.declared.Supply.{Supply}
use Rattle.wire.specs.Wire.{line, model_at}
use Rattle.plain.specs.Plain.{reply_to}
use Rattle.slots.specs.declared.Rack.{Rack}
use Rattle.isolation.specs.Demand3.{supply_at}
use Rattle.resistance.specs.Cells.{cell_by, cell_at}

-- both counts fit in their 16 bits, as in every supply of the code; the definitions alone would let a field carry more
abbrev pub CountsFit : Supply → Type 0
CountsFit s = (s.volt_count < 2 ^ 16) × (s.amp_count < 2 ^ 16)

-- all that a supply replies to a line without a checksum, and all that the one at an address does
abbrev pub reply_to_line : ℕ → Supply → String → List ℕ
reply_to_line m s t = reply_to m s (line (codes t) false)

abbrev pub reply_at : Rack → ℕ → String → List ℕ
reply_at r a t = reply_to_line (model_at r.setup a) (supply_at r a) t

-- MV? prints these ticks, MC? these mA and OUT? whether the output is on, each with CR; both figures are read as those
-- very numbers; and the cell at the address is the one that they give
pub record AsPrinted (r : Rack) (a ticks ma : ℕ) (on : Bool) : Type 0 where
  pub mv : reply_at r a "MV?" ≡ figure 4 ticks ++ 13 ∷ []
  pub mc : reply_at r a "MC?" ≡ figure 3 ma ++ 13 ∷ []
  pub out : reply_at r a "OUT?" ≡ pick on (codes "ON\r") (codes "OFF\r")
  pub ticks_read : read_number 4 (figure 4 ticks) ≡ number_is ticks
  pub ma_read : read_number 3 (figure 3 ma) ≡ number_is ma
  pub divided : cell_at r a ≡ Ok (cell_by on ticks ma)
