-- The models, with figures in ticks of 0.1 mV and in mA.
use Rattle.std.specs.Prelude.{ℕ, ◌*◌, ◌/◌, List, [], ◌∷◌, get_or}
use Rattle.models.specs.declared.Limits.{Limits}

-- rated volts and amperes, least and greatest OVP, greatest UVL
abbrev pub limits_are : ℕ → ℕ → ℕ → ℕ → ℕ → Limits
limits_are v a l m u = record { volts = v; amps = a; ovp_least = l; ovp_most = m; uvl_most = u }

unfoldable pub table : List Limits
table =
    limits_are 60000 100000 5000 75000 57000 ∷
    limits_are 80000 90000 5000 100000 76000 ∷
    limits_are 125000 60000 10000 150000 119000 ∷
    limits_are 200000 38000 10000 240000 190000 ∷
    limits_are 300000 25000 20000 360000 285000 ∷
    limits_are 400000 19000 20000 440000 380000 ∷
    limits_are 600000 12500 50000 660000 570000 ∷
    limits_are 800000 9500 50000 880000 760000 ∷
    limits_are 1000000 7500 50000 1100000 950000 ∷
    limits_are 1500000 5000 50000 1650000 1420000 ∷
    limits_are 3000000 2500 50000 3300000 2850000 ∷
    limits_are 6000000 1300 50000 6600000 5700000 ∷
    []

-- for a number that is no model, every limit is 0
abbrev pub no_limits : Limits
no_limits = limits_are 0 0 0 0 0

unfoldable pub limits_of : ℕ → Limits
limits_of m = get_or table m no_limits

-- readings: 50,000 counts are the rating; rounded down to a whole tick and to a whole mA
unfoldable pub volt_reading : ℕ → ℕ → ℕ
volt_reading m count = count * (limits_of m).volts / 50000

unfoldable pub amp_reading : ℕ → ℕ → ℕ
amp_reading m count = count * (limits_of m).amps / 50000
