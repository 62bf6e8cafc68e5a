-- What LINES, keys and the knob do to a supply; none of them comes over the serial line.
use Rattle.std.specs.Prelude.{ℕ, Bool, true, false, not, ◌&&◌, eqb}
use Rattle.std.specs.Int.Bits.{bit_and}
use Rattle.base.specs.Choice.{pick}
use Rattle.base.specs.Bits.{bit_at, complement}
use Rattle.models.specs.Models.{limits_of}
use Rattle.supply.specs.declared.Supply.{Supply}
use Rattle.supply.specs.declared.Key.{Key}
use Rattle.supply.specs.declared.Key.TheVariants.{Output, Fold, Local}
use Rattle.supply.specs.declared.Target.{Target}
use Rattle.supply.specs.With.{with_want, with_armed, with_mode, with_lines, with_fold_trip, with_ovp_trip}
use Rattle.supply.specs.Flt.{on_of, lines_clear}
use Rattle.settings.specs.Settings.{with_setting, stepped}

-- whether any bit of LINES rises, and whether bit k of it falls
unfoldable pub any_rises : ℕ → ℕ → Bool
any_rises old new = not (eqb (bit_and new (complement old)) 0)

unfoldable pub falls : ℕ → ℕ → ℕ → Bool
falls k old new = bit_at k old && not (bit_at k new)

-- AC (bit 1) fell, so mains is back: both trips are released, and a locked-out supply becomes remote
abbrev pub ac_fallen : Supply → Supply
ac_fallen s = with_fold_trip false (with_ovp_trip false (with_mode (pick (eqb s.mode 2) 1 s.mode) s))

-- a new LINES byte, in three steps: a rising bit turns WANT off unless AST is on; AC falling; SO (bit 5) falling
-- with AST on releases the OVP trip
unfoldable pub lines_changed : Supply → ℕ → Supply
lines_changed s b =
    let dropped = pick (any_rises s.lines b && not s.ast) (with_want false s) s in
    let freed = pick (falls 1 s.lines b) (ac_fallen dropped) dropped in
    with_lines b (pick (falls 5 s.lines b && s.ast) (with_ovp_trip false freed) freed)

-- turned on: WANT is on and both trips are released
unfoldable pub turned_on : Supply → Supply
turned_on s = with_fold_trip false (with_ovp_trip false (with_want true s))

-- foldback disarmed: this releases a standing FOLD trip, and then also turns WANT off
unfoldable pub disarmed : Supply → Supply
disarmed s = with_armed false (pick s.fold_trip (with_fold_trip false (with_want false s)) s)

-- the keys: OUTPUT and FOLD work in MODE 0, LOCAL works in MODE 1
unfoldable pub pressed : Supply → Key → Supply
pressed s Output = pick (eqb s.mode 0) (pick (on_of s) (with_want false s) (pick (lines_clear s) (turned_on s) s)) s
pressed s Fold = pick (eqb s.mode 0) (pick s.armed (disarmed s) (with_armed true s)) s
pressed s Local = pick (eqb s.mode 1) (with_mode 0 s) s

-- the knob works in MODE 0
unfoldable pub turned : ℕ → Supply → Target → ℕ → Supply
turned m s t raw = pick (eqb s.mode 0) (with_setting t (stepped (limits_of m) s t raw) s) s
