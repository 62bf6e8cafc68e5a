-- the measure is the length of the run
use Rattle.figures.proofs.+run_value.Given as goal

abbrev pub decreases-run_value : goal.decreases-run_value
decreases-run_value l = l.n
