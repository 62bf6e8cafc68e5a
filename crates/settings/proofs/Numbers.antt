-- What the code of the knob depends on: what fits in 32 bits, and a step in two's complement.
use mathlib.Core.Path.{◌≡◌, refl, ap}
use mathlib.Core.Bool.{Bool, true, false}
use Prim.Native.Nat.{ℕ, suc, ◌-◌, ◌^◌, ◌<◌}
use native.Mathlib.Omega.{arith}
use lib.Dec.{ltb}
use lib.IntN.{ℤ, pos, negsuc}
use lib.Signed.{◌<ℤ◌}
use mir.Syntax.{w32, w64}
use mir.Val.{to_z, sel}
use Rattle.std.specs.Int.{saturate_unsigned}
use Rattle.std.proofs.lemmas.Int.{ints}
use Rattle.base.specs.Choice.{pick}
use Rattle.models.specs.Models.{limits_of}
use Rattle.models.proofs.Rules.{volts_lt, amps_lt, ovp_most_lt, uvl_most_lt}
use Rattle.supply.specs.declared.Supply.{Supply}
use Rattle.supply.specs.declared.Target.{Target}
use Rattle.supply.specs.declared.Target.TheVariants.{Pv, Pc, Ovp, Uvl}
use Rattle.settings.specs.Settings.{most_of, signed_of, nat_part}

-- under every model the greatest value of a setting fits in 32 bits
pub most_fits : (m : ℕ) (s : Supply) (t : Target) → most_of (limits_of m) s t < 2 ^ 32
unfolding most_of
most_fits m s Pv = omega (arith, volts_lt m)
most_fits m s Pc = omega (arith, amps_lt m)
most_fits m s Ovp = omega (arith, ovp_most_lt m)
most_fits m s Uvl = omega (arith, uvl_most_lt m)

-- std reads a step as the papers do
pub signed_is : (raw : ℕ) → to_z w32 raw ≡ signed_of raw
unfolding signed_of
signed_is raw = by_sign (ltb raw 0x80000000)
  where
    by_sign : (t : Bool) → sel t (pos raw) (negsuc (2 ^ 32 - suc raw)) ≡ pick t (pos raw) (negsuc (0xFFFFFFFF - raw))
    by_sign true = refl
    by_sign false = ap negsuc (omega arith)

-- and what std cuts off below 0 is cut off here
pub cut_is : (z : ℤ) → z <ℤ pos (2 ^ 64) → saturate_unsigned w64 z ≡ nat_part z
cut_is (pos n) h = omega (arith, ints)
cut_is (negsuc n) h = omega (arith, ints)
