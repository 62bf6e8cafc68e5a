use mathlib.Core.Path.{◌≡◌, refl, ◌∙◌}
use lib.ListN.{length}
use borrow.Author.Rules.{rules}
use Rattle.slots.specs.View.{view_of}
use Rattle.stream.proofs.Loop.{OneCycle, at_start, one_more}
use Rattle.stream.proofs.take_input.Given.{Over}
use Rattle.stream.proofs.take_input.Goals as goal
use Rattle.stream.proofs.take_input.Goals.{After-write_out-sent}

pub loop-more-init : goal.loop-more-init
loop-more-init g c =
    record {
      able = c.requires.0;
      at = at_start _ _ _ c.no_block-block.ensures;
      sends = λ t. refl;
    }

-- what refill and the cycle after it leave
cycled : (g : Over) (c : After-write_out-sent g) → OneCycle (view_of c.args.r) (view_of c.cycle-t.result.rack) c.refill-block.new.room c.loop-more.block c.refill-block.result c.loop-more.code c.cycle-t.result.used c.cycle-t.result.code c.write_out-sent.result
cycled g c =
    let long : length c.refill-block.new.room ≡ 8192 = search rules in
    one_more c.loop-more.invariant.at c.loop-more-test.true c.refill-block.ensures long _ _ c.part_to-there.ensures c.part_from.ensures
    (view_of c.cycle-t.result.rack) c.cycle-t.result.used c.cycle-t.ensures.said c.cycle-t.result.code g.W.Works.stop c.cycle-t.ensures.is
    c.write_out-sent.result

pub overflow_add-block : goal.overflow_add-block
overflow_add-block g c = search (rules, (cycled g (goal.at.overflow_add-block g c).After-write_out-sent).within)

pub loop-more-smaller : goal.loop-more-smaller
loop-more-smaller g c = (cycled g (goal.at.loop-more-smaller g c).After-write_out-sent).less

pub loop-more-preserved : goal.loop-more-preserved
loop-more-preserved g c =
    let z = cycled g (goal.at.loop-more-preserved g c).After-write_out-sent in
    record {
      able = c.cycle-t.ensures.small;
      at = rw (c.goes_on-more.ensures, c.cycle-t.ensures.reads_on) z.at;
      sends = rw (c.goes_on-more.ensures, c.cycle-t.ensures.reads_on) z.sends;
    }
