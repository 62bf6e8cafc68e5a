use Rattle.std.proofs.Common.{ap, ◌∙◌, arith}
use Rattle.figures.specs.Number.{number_in}
use Rattle.hexadecimal.proofs.Laws.{hex_high, hex_low, hex_both, value_lt}
use Rattle.hexadecimal.proofs.read_hex.Goals as goal

pub returns-in_err-hex_value : goal.returns-in_err-hex_value
returns-in_err-hex_value c =
    c.from_residual.ensures ∙ ap number_in (hex_high c.args.s.now (omega arith) c.in_err-hex_value.ensures)

pub returns-in_err-hex_value-2 : goal.returns-in_err-hex_value-2
returns-in_err-hex_value-2 c =
    c.from_residual-in_err-hex_value-2.ensures
    ∙ ap number_in (hex_low c.args.s.now (omega arith) c.in_ok-hex_value.ensures c.in_err-hex_value-2.ensures)

pub overflow_mul-result : goal.overflow_mul-result
overflow_mul-result c = omega (arith, value_lt c.args.s.now 0 c.in_ok-hex_value.ensures)

pub overflow_add-result : goal.overflow_add-result
overflow_add-result c =
    omega (arith, value_lt c.args.s.now 0 c.in_ok-hex_value.ensures, value_lt c.args.s.now 1 c.in_ok-hex_value-2.ensures)

pub returns : goal.returns
returns c = ap number_in (hex_both c.args.s.now (omega arith) c.in_ok-hex_value.ensures c.in_ok-hex_value-2.ensures)
