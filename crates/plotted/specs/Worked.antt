-- WORKED CELLS, by computation.
use Rattle.std.specs.Prelude.{ℕ, ◌/◌, ◌%◌, ◌≡◌, Ok, false, List, [], ◌∷◌, ◌++◌, Float}
use Prim.Native.String.{String}
use Rattle.std.specs.Float.{binary64}
use Rattle.std.specs.Float.Ieee.{to_bits}
use Rattle.base.specs.Text.{codes}
use Rattle.supply.specs.declared.Supply.{Supply}
use Rattle.wire.specs.Wire.{Entry, field, line}
use Rattle.wire.specs.Rack.{plain}
use Rattle.plain.specs.Plain.{plain_supply}
use Rattle.resistance.specs.declared.CellNumbers.{CellNumbers}
use Rattle.resistance.specs.Cells.{cell_of}
use Rattle.resistance.specs.Numbers.{cell_numbers}
use Rattle.plotted.specs.Printed.{reply_to_line}

-- entries of a share: a line, and a sample
abbrev pub line_entry : String → Entry
line_entry t = line (codes t) false

abbrev pub sample_entry : ℕ → ℕ → Entry
sample_entry v a = field 5 (0 ∷ v / 256 ∷ v % 256 ∷ a / 256 ∷ a % 256 ∷ [])

-- a fresh supply of the model after some entries, and its cell as numbers
unfoldable pub supply_after : ℕ → List Entry → Supply
supply_after m es = plain plain_supply m es

unfoldable pub cell_after : ℕ → List Entry → CellNumbers
cell_after m es = cell_numbers (Ok (cell_of m (supply_after m es)))

-- the 64 bits of a float
abbrev pub bits_of : Float → ℕ
bits_of x = to_bits binary64 x

-- a cell in use, at 4.9993 V and 2.010 A
unfoldable pub in_use : List Entry
in_use = line_entry "PV 5" ∷ line_entry "PC 10" ∷ line_entry "OUT 1" ∷ sample_entry 41661 1005 ∷ []

-- and with the output off again
unfoldable pub turned_off : List Entry
turned_off = in_use ++ line_entry "OUT 0" ∷ []

-- a sample with the greatest volt count and this ampere count, taken before the output is turned on
unfoldable pub then_on : ℕ → List Entry
then_on a = sample_entry 65535 a ∷ line_entry "OUT 1" ∷ []

pub record Worked : Type 0 where
  -- 49,993 ticks over 20,100: 2.4872139303482586 ohms, where 4.9993 V divided by 2.010 A as floats gives another float
  pub ohms : bits_of (cell_after 0 in_use).ohms ≡ 0x4003e5d06ac802da
  pub volts : bits_of (cell_after 0 in_use).volts ≡ 0x4013ff487fcb923a
  pub amps : bits_of (cell_after 0 in_use).amps ≡ 0x4000147ae147ae14
  pub mv : reply_to_line 0 (supply_after 0 in_use) "MV?" ≡ codes "4.9993\r"
  pub mc : reply_to_line 0 (supply_after 0 in_use) "MC?" ≡ codes "2.010\r"
  -- off, with the same volts and amperes
  pub off : (cell_after 0 turned_off).kind ≡ 2
  pub off_volts : bits_of (cell_after 0 turned_off).volts ≡ 0x4013ff487fcb923a
  pub off_amps : bits_of (cell_after 0 turned_off).amps ≡ 0x4000147ae147ae14
  -- model 11, 600 V and 1.3 A: an ampere count of 38 reads as 0 mA, and one of 39 as 1 mA, which is 786,420 ohms
  pub at_38 : (cell_after 11 (then_on 38)).kind ≡ 1
  pub at_38_volts : bits_of (cell_after 11 (then_on 38)).volts ≡ 0x4088935c28f5c28f
  pub at_38_amps : bits_of (cell_after 11 (then_on 38)).amps ≡ 0
  pub at_39 : (cell_after 11 (then_on 39)).kind ≡ 0
  pub at_39_ohms : bits_of (cell_after 11 (then_on 39)).ohms ≡ 0x4127ffe800000000
  -- off comes before open
  pub fresh : (cell_after 0 []).kind ≡ 2
