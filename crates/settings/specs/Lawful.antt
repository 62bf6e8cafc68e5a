-- The margins and the model's limits, kept by every supply that acts can lead to.
-- All but `Lawful` is stated for any five limits, without naming a model.
use Rattle.std.specs.Prelude.{ℕ, ◌*◌, ◌≤◌, pos, ◌+ℤ◌, ◌-ℤ◌, nat_abs}
use Rattle.models.specs.declared.Limits.{Limits}
use Rattle.models.specs.Models.{limits_of}
use Rattle.supply.specs.declared.Supply.{Supply}
use Rattle.supply.specs.declared.Target.{Target}
use Rattle.settings.specs.Settings.{setting_of, signed_of, with_setting}

-- the four settings keep the margins and the limits
pub record Within (l : Limits) (pv pc ovp uvl : ℕ) : Type 0 where
  -- the margins
  pub uvl_margin : 20 * uvl ≤ 19 * pv
  pub ovp_margin : 21 * pv ≤ 20 * ovp
  -- the limits; for PV and PC, 105 % of the rating
  pub pv_limit : 20 * pv ≤ 21 * l.volts
  pub pc_limit : 20 * pc ≤ 21 * l.amps
  pub ovp_least : l.ovp_least ≤ ovp
  pub ovp_most : ovp ≤ l.ovp_most
  pub uvl_most : uvl ≤ l.uvl_most

-- a supply keeps the margins and these limits
abbrev pub Bounded : Limits → Supply → Type 0
Bounded l s = Within l s.pv s.pc s.ovp s.uvl

-- a supply keeps the margins and its model's limits
abbrev pub Lawful : ℕ → Supply → Type 0
Lawful m s = Bounded (limits_of m) s

-- a value that a setting may take while the others stay as they are
abbrev pub Admissible : Limits → Supply → Target → ℕ → Type 0
Admissible l s t x = Bounded l (with_setting t x s)

-- THE KNOB: the value is admissible, and no admissible value is nearer to the exact signed sum
pub record Nearest (l : Limits) (s : Supply) (t : Target) (raw x : ℕ) : Type 0 where
  pub admissible : Admissible l s t x
  pub nearest :
      (y : ℕ) → Admissible l s t y →
      nat_abs (pos x -ℤ (pos (setting_of t s) +ℤ signed_of raw))
      ≤ nat_abs (pos y -ℤ (pos (setting_of t s) +ℤ signed_of raw))
