use mathlib.Core.Path.{sym, ◌∙◌}
use Rattle.std.proofs.lemmas.Result.{err_from_is_err_and}
use Rattle.acts.proofs.Idle.{order_closed, order_refused}
use Rattle.acts.proofs.obey_order.Goals as goal

pub returns-in_err-done : goal.returns-in_err-done
returns-in_err-done c =
    let e = err_from_is_err_and c.from_residual.result c.from_residual.ensures.1 in
    rw (e.1, e.2) (c.in_err-done.ensures.0, order_refused _ _ _ _ c.in_err-done.ensures.0)

pub returns : goal.returns
returns c =
    let done = c.in_ok-done.ensures in (
      done.0,
      rw (c.clear_registers.ensures, c.order_clears.ensures, c.settle-settled.ensures, done.1) at c.forget_cv.ensures
          ∙ order_closed _ _ _ (sym done.0),
    )
