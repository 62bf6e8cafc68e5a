-- FLT and what follows from it. Nothing else derives the output from LINES and the trips, or compares the current.
use Rattle.std.specs.Prelude.{ℕ, ◌≡◌, Bool, false, not, leb, eqb}
use Rattle.std.specs.Int.Bits.{bit_and, bit_or}
use Rattle.base.specs.Choice.{bit}
use Rattle.base.specs.Bits.{bit_at, shift}
use Rattle.models.specs.Models.{amp_reading}
use Rattle.supply.specs.declared.Supply.{Supply}

-- FLT: LINES masked with 0xA6 (AC 1, OTP 2, SO 5, ENA 7), the FOLD trip at bit 3, the OVP trip at bit 4,
-- and WANT off at bit 6
unfoldable pub flt_of : Supply → ℕ
flt_of s =
    bit_or
    (bit_or (bit_or (bit_and s.lines 0xA6) (shift 3 (bit s.fold_trip))) (shift 4 (bit s.ovp_trip)))
    (shift 6 (bit (not s.want)))

-- the output is on: no fault bit is set
unfoldable pub on_of : Supply → Bool
on_of s = eqb (flt_of s) 0

-- LINES is 0, so the output may be turned on
unfoldable pub lines_clear : Supply → Bool
lines_clear s = eqb s.lines 0

-- the ampere reading of the stored counts is at least PC
unfoldable pub in_limit : ℕ → Supply → Bool
in_limit m s = leb s.pc (amp_reading m s.amp_count)

-- FLT BIT BY BIT
pub record FltBits (s : Supply) : Type 0 where
  pub none : bit_at 0 (flt_of s) ≡ false
  pub ac : bit_at 1 (flt_of s) ≡ bit_at 1 s.lines
  pub otp : bit_at 2 (flt_of s) ≡ bit_at 2 s.lines
  pub fold : bit_at 3 (flt_of s) ≡ s.fold_trip
  pub ovp : bit_at 4 (flt_of s) ≡ s.ovp_trip
  pub so : bit_at 5 (flt_of s) ≡ bit_at 5 s.lines
  pub want_off : bit_at 6 (flt_of s) ≡ not s.want
  pub ena : bit_at 7 (flt_of s) ≡ bit_at 7 s.lines
