use mathlib.Core.Path.{sym, ap, ◌∙◌}
use Rattle.supply.specs.Memory.{cv_forgotten}
use Rattle.supply.specs.Registers.{settled}
use Rattle.supply.proofs.Gains.{seve_disabled}
use Rattle.acts.specs.Acts.{code_of, acted, clearing_act, performed}
use Rattle.acts.proofs.sampled.Goals as goal

pub returns-then-s-eq0 : goal.returns-then-s-eq0
unfolding performed code_of acted clearing_act settled
returns-then-s-eq0 c =
    c.forget_cv.ensures
    ∙ ap cv_forgotten
    (rw c.sampled_at.ensures at c.gain_feve-gained.ensures ∙ sym (seve_disabled _ _ _ c.if-s-eq0.true))
