use borrow.Author.Rules.{rules}
use borrow.Author.Tests.{eq-eqb, ne_eqb}
use Rattle.std.proofs.Common.{◌≡◌, ◌<◌, length, arith}
use Rattle.base.proofs.Lists.{get_d_any}
use Rattle.base.proofs.Put.{put_none}
use Rattle.supply.specs.State.{fresh}
use Rattle.messages.proofs.Kept.{unset, put_next}
use Rattle.messages.proofs.ring_all.Goals as goal

pub returns-then-left-ne0 : goal.returns-then-left-ne0
returns-then-left-ne0 c = rw (ne_eqb _ _ c.if-left-ne0.true) (put_none _ _)

pub loop-i-preserved : goal.loop-i-preserved
loop-i-preserved c =
    let inside : c.loop-i.i < length c.args.slots = search rules in
    record {
      inside = omega arith;
      placed = put_next _ _ c.loop-i.i c.loop-i.invariant.placed
          (rw (get_d_any c.args.slots c.loop-i.i unset (fresh 255) inside) at c.ring-next.ensures);
    }

pub returns : goal.returns
returns c =
    let full : c.loop-i.i ≡ 31 = omega arith in
    rw (eq-eqb _ _ c.if-left-ne0.false) (rw full at c.loop-i.invariant.placed)
