use Rattle.std.proofs.Common.{◌-◌, refl, arith}
use Rattle.figures.specs.Digits.{run_value}
use Rattle.figures.proofs.Laws.{run_lt, run_step, pow_le}
use Rattle.figures.proofs.+run_value.Goals as goal

pub overflow_mul-result : goal.overflow_mul-result
overflow_mul-result t c =
    omega (arith, c.run_value.ensures, run_lt c.args.s.now (c.args.n - 1), pow_le (c.args.n - 1) 12 (omega arith))

pub overflow_add-result : goal.overflow_add-result
overflow_add-result t c =
    omega (arith, c.run_value.ensures, run_lt c.args.s.now (c.args.n - 1), pow_le (c.args.n - 1) 12 (omega arith), c.digit.ensures)

pub returns-then-n-eq0 : goal.returns-then-n-eq0
unfolding run_value
returns-then-n-eq0 t c = rw c.if-n-eq0.true refl

pub returns-else-n-eq0 : goal.returns-else-n-eq0
returns-else-n-eq0 t c =
    omega (arith, run_step c.args.s.now c.args.n (omega arith), c.run_value.ensures, c.digit.ensures)
