-- EACH ANSWER IN PLAIN TERMS: when it is given, that no float is nearer to the exact quotient than its figures, and the
-- numbers that it is told as.
use Rattle.std.specs.Prelude.{ℕ, ◌*◌, ◌≤◌, ◌<◌, ◌≡◌, ◌⊎◌, Ok, true, false, Float}
use Rattle.std.specs.Float.{nan}
use Rattle.quotients.specs.Nearest.{NearestFloat}
use Rattle.models.specs.Models.{volt_reading, amp_reading}
use Rattle.supply.specs.declared.Supply.{Supply}
use Rattle.supply.specs.Flt.{on_of}
use Rattle.wire.specs.Wire.{model_at}
use Rattle.slots.specs.declared.Rack.{Rack}
use Rattle.isolation.specs.Demand3.{supply_at}
use Rattle.resistance.specs.declared.Resistance.TheVariants.{Ohms, Open, Off}
use Rattle.resistance.specs.declared.Metered.{Metered}
use Rattle.resistance.specs.declared.Cell.{Cell}
use Rattle.resistance.specs.declared.CellNumbers.{CellNumbers}
use Rattle.resistance.specs.Cells.{cell_of, cell_at}
use Rattle.resistance.specs.Numbers.{cell_numbers}

pub record CellFigures (m : ℕ) (s : Supply) (ticks ma : ℕ) : Type 0 where
  -- the readings are those of the stored counts
  pub ticks_are : ticks ≡ volt_reading m s.volt_count
  pub ma_are : ma ≡ amp_reading m s.amp_count
  -- Off with the output off, whatever the readings; with it on, Open at 0 mA and ohms otherwise
  pub when_off : on_of s ≡ false → (cell_of m s).resistance ≡ Off
  pub when_open : on_of s ≡ true → ma ≡ 0 → (cell_of m s).resistance ≡ Open
  pub when_ohms : on_of s ≡ true → 0 < ma
      → (x : Float) × ((cell_of m s).resistance ≡ Ohms x) × NearestFloat x ticks (10 * ma)
  -- volts and amperes in each case
  pub volts : NearestFloat (cell_of m s).metered.volts ticks 10000
  pub amps : NearestFloat (cell_of m s).metered.amps ma 1000

-- code 0, a kind, these ohms, and volts and amperes as they are
abbrev pub numbers_are : ℕ → Float → Metered → CellNumbers
numbers_are k x v = record { code = 0; kind = k; ohms = x; volts = v.volts; amps = v.amps }

-- the numbers of a cell: its kind, its own figures, and NaN for the ohms that are missing
pub record AsNumbers (c : Cell) : Type 0 where
  pub with_ohms : (x : Float) → c.resistance ≡ Ohms x → cell_numbers (Ok c) ≡ numbers_are 0 x c.metered
  pub with_open : c.resistance ≡ Open → cell_numbers (Ok c) ≡ numbers_are 1 nan c.metered
  pub with_off : c.resistance ≡ Off → cell_numbers (Ok c) ≡ numbers_are 2 nan c.metered

-- refusal 6 exactly where no supply is fitted, with kind 255 and no figure, and the cell of the slot's own supply
-- everywhere else
pub record Refusals (r : Rack) (a : ℕ) : Type 0 where
  pub six : (30 < a) ⊎ (model_at r.setup a ≡ 255)
      → cell_numbers (cell_at r a) ≡ record { code = 6; kind = 255; ohms = nan; volts = nan; amps = nan }
  pub none : a ≤ 30 → (model_at r.setup a ≡ 255 → ⊥)
      → cell_at r a ≡ Ok (cell_of (model_at r.setup a) (supply_at r a))
