-- CELLS: the resistance of the cell that a supply feeds, and the volts and amperes beside it.
use Rattle.std.specs.Prelude.{Result, Ok, Err, Bool, not, ◌||◌, ℕ, ◌*◌, eqb, ltb, get_or}
use Rattle.base.specs.Choice.{pick}
use Rattle.quotients.specs.Quotient.{rounded}
use Rattle.models.specs.Models.{volt_reading, amp_reading}
use Rattle.supply.specs.declared.Supply.{Supply}
use Rattle.supply.specs.State.{fresh}
use Rattle.supply.specs.Flt.{on_of}
use Rattle.wire.specs.Wire.{model_at, fitted}
use Rattle.slots.specs.declared.Rack.{Rack}
use Rattle.resistance.specs.declared.Resistance.{Resistance}
use Rattle.resistance.specs.declared.Resistance.TheVariants.{Ohms, Open, Off}
use Rattle.resistance.specs.declared.Metered.{Metered}
use Rattle.resistance.specs.declared.Cell.{Cell}
use Rattle.field.specs.declared.Refusal.{Refusal}
use Rattle.field.specs.declared.Refusal.TheVariants.{NoSupply}

-- Off comes first, and a reading of 0 mA is open; otherwise it is ticks over ten times the mA, rounded once: a volt has
-- ten times as many ticks as an ampere has mA
unfoldable pub resistance_of : Bool → ℕ → ℕ → Resistance
resistance_of on ticks ma = pick (not on) Off (pick (eqb ma 0) Open (Ohms (rounded ticks (10 * ma))))

-- readings in volts and in amperes, each rounded once
unfoldable pub metered_of : ℕ → ℕ → Metered
metered_of ticks ma = record { volts = rounded ticks 10000; amps = rounded ma 1000 }

-- a cell, from whether the output is on and the two readings
abbrev pub cell_by : Bool → ℕ → ℕ → Cell
cell_by on ticks ma = record { resistance = resistance_of on ticks ma; metered = metered_of ticks ma }

-- the cell of a supply, by the readings of its stored counts
unfoldable pub cell_of : ℕ → Supply → Cell
cell_of m s = cell_by (on_of s) (volt_reading m s.volt_count) (amp_reading m s.amp_count)

-- an address above 30, or an empty slot
abbrev pub unfitted : Rack → ℕ → Bool
unfitted r a = ltb 30 a || not (fitted r.setup a)

-- THE CELL AT AN ADDRESS
unfoldable pub cell_at : Rack → ℕ → Result Cell Refusal
cell_at r a = pick (unfitted r a) (Err NoSupply) (Ok (cell_of (model_at r.setup a) (get_or r.slots a (fresh 255))))
