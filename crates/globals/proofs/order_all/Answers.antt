use borrow.Author.Rules.{rules}
use Rattle.std.proofs.Common.{◌≡◌, sym, ◌∙◌, length, arith}
use Rattle.supply.proofs.ErrorCodes.{unwrapped}
use Rattle.globals.proofs.Each.{passed_over, obeyed}
use Rattle.globals.proofs.order_all.Goals as goal

pub loop-i-preserved-then-model : goal.loop-i-preserved-then-model
loop-i-preserved-then-model c =
    let l : length c.args.u.models ≡ 31 = search rules in
    record {
      same = c.loop-i.invariant.same;
      taken = passed_over c.args.u c.args.o c.loop-i.i c.args.slots c.loop-i.slots (omega arith) c.loop-i.invariant.taken c.if-model.true;
    }

pub loop-i-preserved-in-Set : goal.loop-i-preserved-in-Set
loop-i-preserved-in-Set c =
    let l : length c.args.u.models ≡ 31 = search rules in
    let same = sym c.in-Set.is ∙ c.loop-i.invariant.same in
    record {
      same = same;
      taken = obeyed c.args.u c.args.o c.loop-i.i c.args.slots c.loop-i.slots (omega arith) c.loop-i.invariant.taken _ _ _ same c.if-model.false (c.unwrap_or.ensures ∙ unwrapped _ c.obey_set.result ∙ c.obey_set.ensures.1);
    }

pub loop-i-preserved : goal.loop-i-preserved
loop-i-preserved c =
    let l : length c.args.u.models ≡ 31 = search rules in
    record {
      same = c.loop-i.invariant.same;
      taken = obeyed c.args.u c.args.o c.loop-i.i c.args.slots c.loop-i.slots (omega arith) c.loop-i.invariant.taken _ _ _ c.loop-i.invariant.same c.if-model.false (c.unwrap_or-in-loop-i.ensures ∙ unwrapped _ c.obey_order.result ∙ c.obey_order.ensures.1);
    }

pub returns : goal.returns
returns c =
    let e : c.loop-i.i ≡ 31 = omega arith in
    rw e at c.loop-i.invariant.taken
