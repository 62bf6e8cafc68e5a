-- A parameter as the code gives it: a value, or an error code.
use Rattle.std.specs.Prelude.{ℕ, List, Option, Some, None, Result, Ok, Err, ⊤}
use Rattle.base.specs.Choice.{pick}
use Rattle.supply.specs.declared.ErrorCode.{ErrorCode}
use Rattle.supply.specs.declared.ErrorCode.TheVariants.{C02, C03}
use Rattle.supply.specs.ErrorCodes.{code_byte, code_told}
use Rattle.parameters.specs.Parameters.{Parameter, value_is, refused_by, is_empty}

-- the same with the error code as a byte, 0 for none
abbrev pub parameter_told : Result ℕ ErrorCode → Parameter
parameter_told (Ok v) = value_is v
parameter_told (Err e) = refused_by (code_byte e)

-- and where the word takes none
abbrev pub bare_told : Result ⊤ ErrorCode → Parameter
bare_told r = refused_by (code_told r)

-- a required parameter: C02 if it is empty, C03 if it could not be read
abbrev pub read_or_malformed : {A : Type 0} → Option A → Result A ErrorCode
read_or_malformed (Some v) = Ok v
read_or_malformed None = Err C03

abbrev pub required : {A : Type 0} → Option A → List ℕ → Result A ErrorCode
required n x = pick (is_empty x) (Err C02) (read_or_malformed n)
