use mathlib.Core.Path.{sym, ap, ◌∙◌}
use Rattle.supply.specs.Memory.{cv_forgotten}
use Rattle.supply.proofs.Gains.{seve_disabled}
use Rattle.acts.proofs.Idle.{query_done}
use Rattle.acts.proofs.asked.Goals as goal

pub returns-then-s-eq0 : goal.returns-then-s-eq0
returns-then-s-eq0 c =
    c.forget_cv.ensures
    ∙ ap cv_forgotten (c.after_query-after.ensures ∙ sym (seve_disabled _ _ _ c.if-s-eq0.true))
    ∙ query_done _ _ _

pub returns : goal.returns
returns c =
    rw (c.gain_seve.ensures, c.after_query-after.ensures) at c.forget_cv-2.ensures
    ∙ query_done _ _ _
