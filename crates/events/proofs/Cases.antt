-- A formula for each part of the state, compared with the paper's sentences by cases on their tests.
use mathlib.Core.Path.{◌≡◌, refl}
use mathlib.Core.Bool.{Bool, true, false, not, ◌&&◌}
use Prim.Native.Nat.{ℕ}
use lib.Dec.{eqb}
use Rattle.base.specs.Choice.{pick}
use Rattle.supply.specs.declared.Supply.{Supply}
use Rattle.supply.specs.With.{with_want, with_armed, with_mode, with_lines, with_fold_trip, with_ovp_trip}
use Rattle.events.specs.Events.{any_rises, falls, ac_fallen, lines_changed, disarmed}

module _ (s : Supply) (b : ℕ) where
  -- rose: a bit rose while AST is off; ac: AC fell; so: SO fell while AST is on
  lines_cases : (rose ac so : Bool) →
      with_lines b
      (with_want (not rose && s.want)
      (with_fold_trip (not ac && s.fold_trip)
      (with_ovp_trip (not so && (not ac && s.ovp_trip)) (with_mode (pick ac (pick (eqb s.mode 2) 1 s.mode) s.mode) s))))
      ≡ with_lines b (pick so (with_ovp_trip false (pick ac (ac_fallen (pick rose (with_want false s) s)) (pick rose (with_want false s) s))) (pick ac (ac_fallen (pick rose (with_want false s) s)) (pick rose (with_want false s) s)))
  lines_cases true true true = refl
  lines_cases true true false = refl
  lines_cases true false true = refl
  lines_cases true false false = refl
  lines_cases false true true = refl
  lines_cases false true false = refl
  lines_cases false false true = refl
  lines_cases false false false = refl

  pub lines_law :
      with_lines b
      (with_want (not (any_rises s.lines b && not s.ast) && s.want)
      (with_fold_trip (not (falls 1 s.lines b) && s.fold_trip)
      (with_ovp_trip (not (falls 5 s.lines b && s.ast) && (not (falls 1 s.lines b) && s.ovp_trip))
      (with_mode (pick (falls 1 s.lines b) (pick (eqb s.mode 2) 1 s.mode) s.mode) s))))
      ≡ lines_changed s b
  unfolding lines_changed
  lines_law = lines_cases (any_rises s.lines b && not s.ast) (falls 1 s.lines b) (falls 5 s.lines b && s.ast)

pub disarm_law : (s : Supply) → with_armed false (with_want (not s.fold_trip && s.want) (with_fold_trip false s)) ≡ disarmed s
unfolding disarmed
disarm_law s = by_trip s.fold_trip refl
  where
    by_trip : (t : Bool) → s.fold_trip ≡ t → with_armed false (with_want (not s.fold_trip && s.want) (with_fold_trip false s)) ≡ disarmed s
    by_trip true e = rw e refl
    by_trip false e = rw e refl
