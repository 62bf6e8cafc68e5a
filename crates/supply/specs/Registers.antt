-- What an event adds to the two event registers: FEVE gains fault bits, SEVE gains status bits.
use Rattle.std.specs.Prelude.{ℕ, ◌≡◌, not, ◌&&◌, ◌||◌}
use Rattle.std.specs.Int.Bits.{bit_and, bit_or}
use Rattle.base.specs.Bits.{bit_at, complement}
use Rattle.supply.specs.declared.Supply.{Supply}
use Rattle.supply.specs.With.{with_feve, with_seve}
use Rattle.supply.specs.Flt.{flt_of}
use Rattle.supply.specs.Stat.{stat_of}

-- the bits that were 0 and are now 1, if they are enabled
abbrev pub rising : ℕ → ℕ → ℕ → ℕ
rising enabled was is = bit_and (bit_and is (complement was)) enabled

-- FEVE gains each bit of FLT that rose and that FENA enabled before
unfoldable pub feve_gained : Supply → Supply → Supply
feve_gained before after = with_feve (bit_or after.feve (rising before.fena (flt_of before) (flt_of after))) after

-- SEVE gains each bit of STAT that rose and that SENA enabled before
unfoldable pub seve_gained : ℕ → Supply → Supply → Supply
seve_gained m before after =
    with_seve (bit_or after.seve (rising before.sena (stat_of m before) (stat_of m after))) after

-- THE SECOND STAGE OF AN ACT: FEVE gains first, so that STAT shows what FEVE has gained; then SEVE
unfoldable pub settled : ℕ → Supply → Supply → Supply
settled m before after = seve_gained m before (feve_gained before after)

-- FEVE BIT BY BIT: bit k is set if the first stage left it set, or if fault bit k rose and FENA enabled it before
abbrev pub FeveBit : ℕ → Supply → Supply → ℕ → Type 0
FeveBit m before after k =
    bit_at k (settled m before after).feve
    ≡ (bit_at k after.feve || ((bit_at k (flt_of after) && not (bit_at k (flt_of before))) && bit_at k before.fena))

-- SEVE BIT BY BIT: the same with STAT and SENA; STAT after the event is that of the supply whose FEVE has gained
abbrev pub SeveBit : ℕ → Supply → Supply → ℕ → Type 0
SeveBit m before after k =
    bit_at k (settled m before after).seve
    ≡ (bit_at k after.seve
    || ((bit_at k (stat_of m (feve_gained before after)) && not (bit_at k (stat_of m before))) && bit_at k before.sena))
