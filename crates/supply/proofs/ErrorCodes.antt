-- No error code has the byte 0, which means that nothing is refused; and `unwrap_or` gives what an answer leaves.
use mathlib.Core.Path.{◌≡◌, refl}
use Rattle.std.specs.Prelude.{Result, Ok, Err}
use Rattle.std.specs.Result.{result_unwrap_or}
use native.Mathlib.Omega.{arith}
use Rattle.supply.specs.declared.ErrorCode.{ErrorCode}
use Rattle.supply.specs.declared.ErrorCode.TheVariants.{C01, C02, C03, C04, C05, E01, E02, E04, E06, E07}
use Rattle.supply.specs.declared.Supply.{Supply}
use Rattle.supply.specs.ErrorCodes.{code_byte, supply_left}

pub code_not_0 : (e : ErrorCode) → code_byte e ≡ 0 → ⊥
code_not_0 C01 z = omega arith
code_not_0 C02 z = omega arith
code_not_0 C03 z = omega arith
code_not_0 C04 z = omega arith
code_not_0 C05 z = omega arith
code_not_0 E01 z = omega arith
code_not_0 E02 z = omega arith
code_not_0 E04 z = omega arith
code_not_0 E06 z = omega arith
code_not_0 E07 z = omega arith

pub unwrapped : (s : Supply) (r : Result Supply ErrorCode) → result_unwrap_or r s ≡ supply_left s r
unwrapped s (Ok t) = refl
unwrapped s (Err e) = refl
