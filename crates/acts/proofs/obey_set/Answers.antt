use mathlib.Core.Path.{sym, ap, ◌∙◌}
use Rattle.supply.specs.Memory.{cv_forgotten}
use Rattle.supply.proofs.Gains.{seve_disabled}
use Rattle.std.proofs.lemmas.Result.{err_from_is_err_and}
use Rattle.acts.proofs.Idle.{order_refused, set_closed}
use Rattle.acts.proofs.obey_set.Goals as goal

pub returns-in_err-set : goal.returns-in_err-set
returns-in_err-set c =
    let e = err_from_is_err_and c.from_residual.result c.from_residual.ensures.1 in
    rw (e.1, e.2) (c.in_err-set.ensures.0, order_refused _ _ _ _ c.in_err-set.ensures.0)

pub returns-then-s-eq0 : goal.returns-then-s-eq0
returns-then-s-eq0 c =
    let set = c.in_ok-set.ensures in (
      set.0,
      c.forget_cv.ensures
          ∙ ap cv_forgotten (set.1 ∙ sym (seve_disabled _ _ _ c.if-s-eq0.true))
          ∙ set_closed _ _ _ _ (sym set.0),
    )

pub returns : goal.returns
returns c =
    let set = c.in_ok-set.ensures in
    (set.0, rw (c.gain_seve.ensures, set.1) at c.forget_cv-2.ensures ∙ set_closed _ _ _ _ (sym set.0))
