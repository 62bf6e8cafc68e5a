-- The four settings, the range of each, and a knob step on one.
use Rattle.std.specs.Prelude.{ℕ, ◌+◌, ◌-◌, ◌*◌, ◌/◌, min, max, ltb, ℤ, pos, negsuc, ◌+ℤ◌}
use Rattle.base.specs.Choice.{pick}
use Rattle.models.specs.declared.Limits.{Limits}
use Rattle.supply.specs.declared.Supply.{Supply}
use Rattle.supply.specs.declared.Target.{Target}
use Rattle.supply.specs.declared.Target.TheVariants.{Pv, Pc, Ovp, Uvl}
use Rattle.supply.specs.With.{with_pv, with_pc, with_ovp, with_uvl}

unfoldable pub setting_of : Target → Supply → ℕ
setting_of Pv s = s.pv
setting_of Pc s = s.pc
setting_of Ovp s = s.ovp
setting_of Uvl s = s.uvl

unfoldable pub with_setting : Target → ℕ → Supply → Supply
with_setting Pv x s = with_pv x s
with_setting Pc x s = with_pc x s
with_setting Ovp x s = with_ovp x s
with_setting Uvl x s = with_uvl x s

-- a quotient rounded up to a whole number
abbrev pub ceiling : ℕ → ℕ → ℕ
ceiling n d = (n + (d - 1)) / d

-- the range of a setting under any five limits, with the other settings as they are: the least and the greatest value
-- that margins and limits allow
unfoldable pub least_of : Limits → Supply → Target → ℕ
least_of l s Pv = ceiling (20 * s.uvl) 19
least_of l s Pc = 0
least_of l s Ovp = max l.ovp_least (ceiling (21 * s.pv) 20)
least_of l s Uvl = 0

unfoldable pub most_of : Limits → Supply → Target → ℕ
most_of l s Pv = min (21 * l.volts / 20) (20 * s.ovp / 21)
most_of l s Pc = 21 * l.amps / 20
most_of l s Ovp = l.ovp_most
most_of l s Uvl = min l.uvl_most (19 * s.pv / 20)

-- the signed number that a raw step, 32 bits in two's complement, stands for
unfoldable pub signed_of : ℕ → ℤ
signed_of raw = pick (ltb raw 0x80000000) (pos raw) (negsuc (0xFFFFFFFF - raw))

-- an exact sum, or 0 if it is negative
abbrev pub nat_part : ℤ → ℕ
nat_part (pos n) = n
nat_part (negsuc n) = 0

-- the whole number from lo to hi that is nearest to z
unfoldable pub nearest_in : ℕ → ℕ → ℤ → ℕ
nearest_in lo hi z = min hi (max lo (nat_part z))

-- a setting after a knob step: the value in the setting's range nearest to the exact sum
unfoldable pub stepped : Limits → Supply → Target → ℕ → ℕ
stepped l s t raw = nearest_in (least_of l s t) (most_of l s t) (pos (setting_of t s) +ℤ signed_of raw)
