-- The error codes as the code has them, with the byte that the papers give each, and what a supply answers with them.
use Rattle.std.specs.Prelude.{ℕ, Result, Ok, Err}
use Rattle.supply.specs.declared.Supply.{Supply}
use Rattle.supply.specs.declared.ErrorCode.{ErrorCode}
use Rattle.supply.specs.declared.ErrorCode.TheVariants.{C01, C02, C03, C04, C05, E01, E02, E04, E06, E07}
use Rattle.supply.specs.State.{c05, e01, e02, e04, e06, e07}

-- in hexadecimal the byte of an error code reads as its name, without the 0
abbrev pub code_byte : ErrorCode → ℕ
code_byte C01 = 0xC1
code_byte C02 = 0xC2
code_byte C03 = 0xC3
code_byte C04 = 0xC4
code_byte C05 = c05
code_byte E01 = e01
code_byte E02 = e02
code_byte E04 = e04
code_byte E06 = e06
code_byte E07 = e07

-- an answer as the papers number it: 0 where nothing is refused, otherwise the byte of the error code
abbrev pub code_told : {A : Type 0} → Result A ErrorCode → ℕ
code_told (Ok a) = 0
code_told (Err e) = code_byte e

-- the supply that an answer leaves in place of s: a refusal changes nothing
abbrev pub supply_left : Supply → Result Supply ErrorCode → Supply
supply_left s (Ok t) = t
supply_left s (Err e) = s
