-- INVARIANTS OF A SUPPLY'S STATE BESIDES ITS SETTINGS: a known MODE, listed LINES, no FOLD trip without foldback armed,
-- no bit in SENA that it never keeps.
use Rattle.std.specs.Prelude.{ℕ, ◌≤◌, ◌≡◌, Bool, true, false}
use Rattle.std.specs.Int.Bits.{bit_and}
use Rattle.base.specs.Bits.{bit_at}
use Rattle.supply.specs.declared.Supply.{Supply}
use Rattle.supply.specs.declared.Order.{Order}
use Rattle.supply.specs.declared.Order.TheVariants.{Set, Ovm, Out, Fld, Ast, Rmt, Fena, Sena, Cls, Rst}
use Rattle.supply.specs.declared.Act.{Act}
use Rattle.supply.specs.declared.Act.TheVariants.{Lines, Sample, Press, Turn, Obey, Ask, Nothing}

-- the bits of LINES that are listed are AC 1, OTP 2, SO 5 and ENA 7; none of the others, 0x59, is set
abbrev pub Listed : ℕ → Type 0
Listed b = bit_and b 0x59 ≡ 0

-- bits 4, 5 and 6, which SENA never keeps, are 0
abbrev pub Enabling : ℕ → Type 0
Enabling n = (bit_at 4 n ≡ false) × ((bit_at 5 n ≡ false) × (bit_at 6 n ≡ false))

-- the parts of a supply's state that must agree
pub record Agreeing (mode lines : ℕ) (fold armed : Bool) (sena : ℕ) : Type 0 where
  -- MODE is local, remote or locked out
  pub mode_known : mode ≤ 2
  pub lines_listed : Listed lines
  -- a FOLD trip stands only while foldback is armed
  pub fold_armed : fold ≡ true → armed ≡ true
  -- SENA never keeps bits 4 to 6
  pub sena_enabling : Enabling sena

abbrev pub Coherent : Supply → Type 0
Coherent s = Agreeing s.mode s.lines s.fold_trip s.armed s.sena

-- the acts that calls can cause: RMT names a mode, and LINES has only listed bits; the others have no condition
abbrev pub CheckedOrder : Order → Type 0
CheckedOrder (Rmt k) = k ≤ 2
CheckedOrder (Set t n) = Unit
CheckedOrder Ovm = Unit
CheckedOrder (Out b) = Unit
CheckedOrder (Fld b) = Unit
CheckedOrder (Ast b) = Unit
CheckedOrder (Fena b) = Unit
CheckedOrder (Sena b) = Unit
CheckedOrder Cls = Unit
CheckedOrder Rst = Unit

abbrev pub Checked : Act → Type 0
Checked (Lines b) = Listed b
Checked (Obey o) = CheckedOrder o
Checked (Sample v a) = Unit
Checked (Press k) = Unit
Checked (Turn t raw) = Unit
Checked (Ask q) = Unit
Checked Nothing = Unit
