-- FLT bit by bit.
use mathlib.Core.Path.{◌≡◌, refl, ◌∙◌}
use mathlib.Core.Bool.{Bool, true, false, not, ◌&&◌, ◌||◌}
use Prim.Native.Nat.{ℕ, ◌*◌}
use Rattle.base.specs.Choice.{bit}
use Rattle.base.specs.Bits.{bit_at}
use Rattle.base.proofs.Bits.{bit_of_or, bit_of_and}
use Rattle.supply.specs.declared.Supply.{Supply}
use Rattle.supply.specs.Flt.{flt_of, FltBits}

-- bit k of FLT, from its four parts
flt_bit : (k : ℕ) (s : Supply) → bit_at k (flt_of s) ≡ ((((bit_at k s.lines && bit_at k 0xA6) || bit_at k (bit s.fold_trip * 8)) || bit_at k (bit s.ovp_trip * 16)) || bit_at k (bit (not s.want) * 64))
unfolding flt_of
flt_bit k s = simp (bit_of_or, bit_of_and)

-- the or of the four parts at bit k: LINES through its mask, and a flag at 8, 16 and 64
abbrev joined : ℕ → Bool → Bool → Bool → Bool → Bool
joined k line f o off = (((line && bit_at k 0xA6) || bit_at k (bit f * 8)) || bit_at k (bit o * 16)) || bit_at k (bit off * 64)

record Joined (x f o off : Bool) : Type 0 where
  bit0 : joined 0 x f o off ≡ false
  bit1 : joined 1 x f o off ≡ x
  bit2 : joined 2 x f o off ≡ x
  bit3 : joined 3 x f o off ≡ f
  bit4 : joined 4 x f o off ≡ o
  bit5 : joined 5 x f o off ≡ x
  bit6 : joined 6 x f o off ≡ off
  bit7 : joined 7 x f o off ≡ x

each_bit : (x f o off : Bool) → Joined x f o off
unfolding bit_at
each_bit true true true true = record { bit0 = refl; bit1 = refl; bit2 = refl; bit3 = refl; bit4 = refl; bit5 = refl; bit6 = refl; bit7 = refl }
each_bit true true true false = record { bit0 = refl; bit1 = refl; bit2 = refl; bit3 = refl; bit4 = refl; bit5 = refl; bit6 = refl; bit7 = refl }
each_bit true true false true = record { bit0 = refl; bit1 = refl; bit2 = refl; bit3 = refl; bit4 = refl; bit5 = refl; bit6 = refl; bit7 = refl }
each_bit true true false false = record { bit0 = refl; bit1 = refl; bit2 = refl; bit3 = refl; bit4 = refl; bit5 = refl; bit6 = refl; bit7 = refl }
each_bit true false true true = record { bit0 = refl; bit1 = refl; bit2 = refl; bit3 = refl; bit4 = refl; bit5 = refl; bit6 = refl; bit7 = refl }
each_bit true false true false = record { bit0 = refl; bit1 = refl; bit2 = refl; bit3 = refl; bit4 = refl; bit5 = refl; bit6 = refl; bit7 = refl }
each_bit true false false true = record { bit0 = refl; bit1 = refl; bit2 = refl; bit3 = refl; bit4 = refl; bit5 = refl; bit6 = refl; bit7 = refl }
each_bit true false false false = record { bit0 = refl; bit1 = refl; bit2 = refl; bit3 = refl; bit4 = refl; bit5 = refl; bit6 = refl; bit7 = refl }
each_bit false true true true = record { bit0 = refl; bit1 = refl; bit2 = refl; bit3 = refl; bit4 = refl; bit5 = refl; bit6 = refl; bit7 = refl }
each_bit false true true false = record { bit0 = refl; bit1 = refl; bit2 = refl; bit3 = refl; bit4 = refl; bit5 = refl; bit6 = refl; bit7 = refl }
each_bit false true false true = record { bit0 = refl; bit1 = refl; bit2 = refl; bit3 = refl; bit4 = refl; bit5 = refl; bit6 = refl; bit7 = refl }
each_bit false true false false = record { bit0 = refl; bit1 = refl; bit2 = refl; bit3 = refl; bit4 = refl; bit5 = refl; bit6 = refl; bit7 = refl }
each_bit false false true true = record { bit0 = refl; bit1 = refl; bit2 = refl; bit3 = refl; bit4 = refl; bit5 = refl; bit6 = refl; bit7 = refl }
each_bit false false true false = record { bit0 = refl; bit1 = refl; bit2 = refl; bit3 = refl; bit4 = refl; bit5 = refl; bit6 = refl; bit7 = refl }
each_bit false false false true = record { bit0 = refl; bit1 = refl; bit2 = refl; bit3 = refl; bit4 = refl; bit5 = refl; bit6 = refl; bit7 = refl }
each_bit false false false false = record { bit0 = refl; bit1 = refl; bit2 = refl; bit3 = refl; bit4 = refl; bit5 = refl; bit6 = refl; bit7 = refl }

pub flt_bits : (s : Supply) → FltBits s
flt_bits s =
    record {
      none = flt_bit 0 s ∙ (at 0).bit0;
      ac = flt_bit 1 s ∙ (at 1).bit1;
      otp = flt_bit 2 s ∙ (at 2).bit2;
      fold = flt_bit 3 s ∙ (at 3).bit3;
      ovp = flt_bit 4 s ∙ (at 4).bit4;
      so = flt_bit 5 s ∙ (at 5).bit5;
      want_off = flt_bit 6 s ∙ (at 6).bit6;
      ena = flt_bit 7 s ∙ (at 7).bit7;
    }
  where
    at : (k : ℕ) → Joined (bit_at k s.lines) s.fold_trip s.ovp_trip (not s.want)
    at k = each_bit (bit_at k s.lines) s.fold_trip s.ovp_trip (not s.want)
