use Rattle.std.proofs.Common.{sym, arith}
use Rattle.std.proofs.Math.Nat.{div-eq_of_lt}
use Rattle.figures.proofs.Laws.{pow_pos, pow_le}
use Rattle.figures.proofs.whole_part.Goals as goal

pub nonzero_div-result : goal.nonzero_div-result
nonzero_div-result c = rw c.pow10.ensures (pow_pos _)

-- with 20 or more decimals, a 64-bit number has nothing before the point
pub returns-then-k-gt19 : goal.returns-then-k-gt19
returns-then-k-gt19 c = sym (div-eq_of_lt (omega (arith, pow_le 20 c.args.k (omega arith))))
