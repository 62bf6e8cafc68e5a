-- each cycle leaves less of the input
use Rattle.std.proofs.Common.{length}
use Rattle.dialogue.proofs.take_items.Given as goal

abbrev pub decreases-loop-rest : goal.decreases-loop-rest
decreases-loop-rest l = length l.rest
