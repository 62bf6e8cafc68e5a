-- CELLS AS NUMBERS: the code of an answer, its kind, and its figures.
use Rattle.std.specs.Prelude.{ℕ, Float, Result, Ok, Err}
use Rattle.std.specs.Float.{nan}
use Rattle.resistance.specs.declared.Resistance.{Resistance}
use Rattle.resistance.specs.declared.Resistance.TheVariants.{Ohms, Open, Off}
use Rattle.resistance.specs.declared.Metered.{Metered}
use Rattle.resistance.specs.declared.Cell.{Cell}
use Rattle.field.specs.declared.Refusal.{Refusal}
use Rattle.field.specs.Refusals.{refusal_number}
use Rattle.resistance.specs.declared.CellNumbers.{CellNumbers}

-- what stands for a missing figure
abbrev pub no_figure : Float
no_figure = nan

-- the kind of each resistance, and its ohms
abbrev pub kind_of : Resistance → ℕ
kind_of (Ohms x) = 0
kind_of Open = 1
kind_of Off = 2

abbrev pub ohms_of : Resistance → Float
ohms_of (Ohms x) = x
ohms_of Open = no_figure
ohms_of Off = no_figure

-- each answer as numbers: code 0 and its values, or the paper's 6 with kind 255 and every figure missing
abbrev pub refused_numbers : Refusal → CellNumbers
refused_numbers e = record { code = refusal_number e; kind = 255; ohms = no_figure; volts = no_figure; amps = no_figure }

abbrev pub cell_numbers : Result Cell Refusal → CellNumbers
cell_numbers (Ok c) =
    record {
      code = 0;
      kind = kind_of c.resistance;
      ohms = ohms_of c.resistance;
      volts = c.metered.volts;
      amps = c.metered.amps;
    }
cell_numbers (Err e) = refused_numbers e
