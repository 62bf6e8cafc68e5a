-- the measure is the number of digits
use Rattle.prints.proofs.+put_fixed.Given as goal

abbrev pub decreases-put_fixed : goal.decreases-put_fixed
decreases-put_fixed l = l.n
