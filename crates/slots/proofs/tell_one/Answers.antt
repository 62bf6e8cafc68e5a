use Rattle.std.proofs.Common.{refl}
use Rattle.serial.proofs.Models.{model_there}
use Rattle.slots.proofs.LineEnds.{ends_asked}
use Rattle.slots.proofs.tell_one.Goals as goal

pub returns : goal.returns
returns c =
    let z = c.args in
    let there = model_there z.u z.selected _ c.in-Some.ensures in
    rw c.one_ended-2.ensures
    (refl, λ l e. ends_asked z.u l z.s z.buf.now z.at z.selected e z.a z.checksummed c.in-Some.model _ _ _ there.0 there.1 c.obey-next.ensures.does c.obey-next.ensures.says)
