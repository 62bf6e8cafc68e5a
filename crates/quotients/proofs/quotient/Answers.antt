use Rattle.std.proofs.Common.{arith}
use Rattle.quotients.proofs.Division.{one_division}
use Rattle.quotients.proofs.quotient.Goals as goal

pub returns : goal.returns
returns c = one_division.divided c.args.a c.args.b (omega arith) (omega arith) (omega arith)
