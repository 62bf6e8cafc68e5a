use Rattle.std.proofs.Common.{refl, sym, ◌∙◌}
use Rattle.slots.proofs.LineEnds.{ends_code, ends_code_empty}
use Rattle.slots.proofs.say_code.Goals as goal

pub returns-then-has_supply : goal.returns-then-has_supply
returns-then-has_supply c =
    let z = c.args in
    rw c.one_ended.ensures
    (refl, λ l e. ends_code z.u l z.s z.buf.now z.at z.selected e _ _ _ (sym c.has_supply.ensures ∙ c.if-has_supply.true) c.put_told_reply-next.ensures)

pub returns-else-has_supply : goal.returns-else-has_supply
returns-else-has_supply c =
    let z = c.args in
    rw c.one_ended-else-has_supply.ensures
    (refl, λ l e. ends_code_empty z.u l z.s z.buf.now z.at z.selected e _ (sym c.has_supply.ensures ∙ c.if-has_supply.false))
