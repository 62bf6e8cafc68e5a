-- the measure is the number of digits
use Rattle.prints.proofs.+put_shortest.Given as goal

abbrev pub decreases-put_shortest : goal.decreases-put_shortest
decreases-put_shortest l = l.n
