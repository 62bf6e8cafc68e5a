-- Rules that the limits keep under every model number, by one test computed over the table.
use Prim.Native.Nat.{ℕ, ◌*◌, ◌/◌, ◌%◌, ◌^◌, ◌≤◌, ◌<◌}
use native.Mathlib.Nat.{le_of_lt, mul-le-mul}
use native.Mathlib.Omega.{arith}
use Rattle.base.proofs.Table.{Check, lt, le, eq, ◌and◌, everywhere}
use Rattle.models.specs.declared.Limits.{Limits}
use Rattle.models.specs.Models.{table, limits_of, no_limits, volt_reading, amp_reading}

-- every limit is below 2 ^ 24
abbrev pub Small : Limits → Check
Small l =
    lt l.volts (2 ^ 24)
    and lt l.amps (2 ^ 24)
    and lt l.ovp_least (2 ^ 24)
    and lt l.ovp_most (2 ^ 24)
    and lt l.uvl_most (2 ^ 24)

-- both ratings are multiples of 100, and 105 % of each is a whole number
abbrev pub Round : Limits → Check
Round l =
    eq (l.volts % 100) 0
    and eq (l.amps % 100) 0
    and eq (20 * (l.volts * 21 / 20)) (21 * l.volts)
    and eq (20 * (l.amps * 21 / 20)) (21 * l.amps)

-- the OVP range is not empty; and the products of the margins fit in 32 bits
abbrev pub Margins : Limits → Check
Margins l =
    le l.ovp_least l.ovp_most
    and lt (21 * (l.volts * 21 / 20)) (2 ^ 32)
    and lt (20 * l.ovp_most) (2 ^ 32)
    and lt (20 * l.uvl_most) (2 ^ 32)

abbrev pub Rules : Limits → Check
Rules l = Small l and Round l and Margins l

pub rules : (m : ℕ) → (Rules (limits_of m)).fact
unfolding limits_of table
rules m = everywhere Rules table no_limits tt tt m

-- the rules that other layers use, by name
pub volts_lt : (m : ℕ) → (limits_of m).volts < 2 ^ 24
volts_lt m = (rules m).0.0

pub amps_lt : (m : ℕ) → (limits_of m).amps < 2 ^ 24
amps_lt m = (rules m).0.1.0

pub ovp_most_lt : (m : ℕ) → (limits_of m).ovp_most < 2 ^ 24
ovp_most_lt m = (rules m).0.1.1.1.0

pub uvl_most_lt : (m : ℕ) → (limits_of m).uvl_most < 2 ^ 24
uvl_most_lt m = (rules m).0.1.1.1.1

pub ovp_room : (m : ℕ) → (limits_of m).ovp_least ≤ (limits_of m).ovp_most
ovp_room m = (rules m).1.1.0

-- no rating is above 600 V or 100 A
abbrev Rated : Limits → Check
Rated l = le l.volts 6000000 and le l.amps 100000

rated : (m : ℕ) → (Rated (limits_of m)).fact
unfolding limits_of table
rated m = everywhere Rated table no_limits tt tt m

-- so a reading of any 16-bit count has at most seven digits in ticks, and six in mA
pub volts_small : (m count : ℕ) → count < 2 ^ 16 → volt_reading m count < 10 ^ 7
unfolding volt_reading
volts_small m count h = omega (arith, mul-le-mul (le_of_lt h) (rated m).0)

pub amps_small : (m count : ℕ) → count < 2 ^ 16 → amp_reading m count < 10 ^ 6
unfolding amp_reading
amps_small m count h = omega (arith, mul-le-mul (le_of_lt h) (rated m).1)
