use Rattle.std.proofs.Common.{length, take, arith, ◌≡◌}
use Rattle.base.proofs.Lists.{each_to_again}
use Rattle.buffers.specs.Printed.{printed}
use Rattle.buffers.proofs.Printed.{each_before, each_cr}
use Rattle.buffers.proofs.end_lines.Goals as goal

pub returns-then-ending-eq-CR : goal.returns-then-ending-eq-CR
returns-then-ending-eq-CR c = rw c.if-ending-eq-CR.true (each_cr c.args.n c.args.out.now)

pub loop-b-preserved : goal.loop-b-preserved
loop-b-preserved c = each_to_again _ c.loop-b.b-index _ c.loop-b.b-items 0 _ c.loop-b.invariant c.printed_byte.ensures

pub returns : goal.returns
returns c =
    let all : c.loop-b.b-index ≡ length (take c.min-end.result c.args.out.now) = omega arith in
    rw (c.loop-b.invariant, all) (each_before (printed c.args.ending) c.args.n c.min-end.result c.args.out.now c.min-end.ensures)
