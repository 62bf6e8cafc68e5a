-- WORKED ANSWERS, by computation.
use Rattle.std.specs.Prelude.{◌≡◌, true, false, [], ◌∷◌, map, ℕ, None, Ok, Err}
use Rattle.std.specs.Float.{binary64}
use Rattle.std.specs.Float.Ieee.{to_bits}
use Rattle.leads.specs.declared.LeadRefusal.TheVariants.{NotListed, OutOfRange, NoneSuits}
use Rattle.leads.specs.Gauges.{listing_of}
use Rattle.leads.specs.Longest.{longest_of, lead_numbers}
use Rattle.leads.specs.Advice.{suits, advice_of, no_gauge}
use Rattle.leads.specs.Leads.{gauges}

-- the 64 bits of the metres that are returned
unfoldable pub metre_bits : ℕ → ℕ → ℕ
metre_bits g ma = to_bits binary64 (lead_numbers (longest_of g ma)).metres

-- g is the gauge that an answer names, whichever it is
pub record Worked (g : ℕ) : Type 0 where
  -- 24.134186... m, 120670.930... m, 20.671834... m, and 21.418596... m, where two divisions give another float
  pub at_5_amperes : metre_bits 14 5000 ≡ 0x4038225a04c1e06e
  pub at_1_milliampere : metre_bits 14 1 ≡ 0x40fd75eee2ceaa76
  pub at_150_amperes : metre_bits 0 150000 ≡ 0x4034abfd5aa0152b
  pub at_36_amperes : metre_bits 6 36000 ≡ 0x40356b2923994fb6
  pub unlisted : longest_of 13 0 ≡ Err NotListed
  pub no_current : longest_of 14 0 ≡ Err OutOfRange
  -- 100 A over 5 m: gauge 8 drops 1.031 V and gauge 6 drops 0.648 V
  pub five_metres : map (suits 100000 5000) gauges ≡ false ∷ false ∷ false ∷ false ∷ true ∷ true ∷ true ∷ true ∷ []
  -- 100 A over the longest lead of gauge 6 in whole mm, and over one mm more
  pub at_7710_mm : suits 100000 7710 6 ≡ true
  pub at_7711_mm : suits 100000 7711 6 ≡ false
  pub named : advice_of 100000 5000 g ≡ Ok g
  pub too_far : advice_of 150000 1000000 g ≡ Err NoneSuits
  pub too_long : advice_of 150000 1000001 g ≡ Err OutOfRange
  -- 255, which stands beside a refusal, passes for no gauge
  pub no_gauge_lem : (c : ℕ) → listing_of (no_gauge c).gauge ≡ None
