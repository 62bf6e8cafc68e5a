use Rattle.std.proofs.Common.{refl, sym, ◌∙◌}
use Rattle.slots.proofs.LineEnds.{ends_select, ends_select_empty}
use Rattle.slots.proofs.select_slot.Goals as goal

pub returns-then-has_supply : goal.returns-then-has_supply
returns-then-has_supply c =
    let z = c.args in
    rw c.one_ended.ensures
    (refl, λ l. ends_select z.u l z.s z.buf.now z.at z.a _ _ _ (sym c.has_supply.ensures ∙ c.if-has_supply.true) c.put_told_reply-next.ensures)

pub returns-else-has_supply : goal.returns-else-has_supply
returns-else-has_supply c =
    let z = c.args in
    rw c.one_ended-else-has_supply.ensures
    (refl, λ l. ends_select_empty z.u l z.s z.buf.now z.at z.a _ (sym c.has_supply.ensures ∙ c.if-has_supply.false))
