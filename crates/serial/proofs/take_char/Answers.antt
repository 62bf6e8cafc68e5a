-- a law for each byte
use Rattle.std.proofs.Common.{arith}
use Rattle.serial.proofs.Chars.{does_lf, does_back, does_add, does_full}
use Rattle.serial.proofs.take_char.Goals as goal

pub returns-in-10 : goal.returns-in-10
returns-in-10 c = does_lf _ _ _ _ c.in-10.is

pub returns-in-8 : goal.returns-in-8
returns-in-8 c = rw c.saturating_sub.ensures (does_back _ _ _ _ c.in-8.is)

pub returns-in_default : goal.returns-in_default
returns-in_default c = does_add _ _ _ _ (omega arith) (omega arith) (omega arith)

pub returns-in_default-2 : goal.returns-in_default-2
returns-in_default-2 c = does_full _ _ _ _ (omega arith) (omega arith) (omega arith)
