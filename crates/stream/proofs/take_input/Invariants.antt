-- each cycle continues the cycles before it, has a rack as a cycle requires, and leaves fewer reads to be made or fewer
-- bytes to be worked
use Rattle.std.proofs.Common.{◌≡◌, true}
use Rattle.slots.specs.View.{view_of, Able}
use Rattle.stream.proofs.Loop.{At, weight}
use Rattle.stream.proofs.take_input.Given as goal

abbrev pub invariant-loop-more : goal.invariant-loop-more
invariant-loop-more g l =
    record {
      able : Able l.rack;
      at : At (view_of l.initial.rack) (view_of l.rack) l.room l.block l.code l.more;
      sends : l.more ≡ true → l.sent ≡ true;
    }

abbrev pub decreases-loop-more : goal.decreases-loop-more
decreases-loop-more g l = weight l.block l.code
