-- What keeps the output off.
use mathlib.Core.Path.{◌≡◌, refl, sym, ap, ◌∙◌}
use mathlib.Core.Bool.{Bool, true, false, not, false≢true}
use Prim.Native.Nat.{ℕ}
use lib.Dec.{eqb}
use borrow.Author.Tests.{eqb-true}
use Rattle.base.specs.Bits.{bit_at}
use Rattle.supply.specs.declared.Supply.{Supply}
use Rattle.supply.specs.Flt.{flt_of, on_of}
use Rattle.supply.proofs.FltBits.{flt_bits}

-- if any bit of FLT is set, the output is off
bit_off : (k : ℕ) (s : Supply) → bit_at k 0 ≡ false → bit_at k (flt_of s) ≡ true → on_of s ≡ false
unfolding on_of
bit_off k s z e = by_test (eqb (flt_of s) 0) refl
  where
    by_test : (t : Bool) → eqb (flt_of s) 0 ≡ t → t ≡ false
    by_test true q = absurd (false≢true (sym z ∙ sym (ap (bit_at k) (eqb-true (flt_of s) 0 q)) ∙ e))
    by_test false q = refl

-- if a trip is set, the output is off
pub fold_shut : (s : Supply) → s.fold_trip ≡ true → on_of s ≡ false
unfolding bit_at
fold_shut s e = bit_off 3 s refl ((flt_bits s).fold ∙ e)

pub ovp_shut : (s : Supply) → s.ovp_trip ≡ true → on_of s ≡ false
unfolding bit_at
ovp_shut s e = bit_off 4 s refl ((flt_bits s).ovp ∙ e)

-- and so it is if WANT is off
pub want_off_shut : (s : Supply) → s.want ≡ false → on_of s ≡ false
unfolding bit_at
want_off_shut s e = bit_off 6 s refl ((flt_bits s).want_off ∙ ap not e)
