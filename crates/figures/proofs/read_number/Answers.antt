use Rattle.std.proofs.Common.{true, false, Some, sym, refl, ap, ◌∙◌, arith}
use borrow.Author.Tests.{lt-ltb, le-ltb}
use Rattle.figures.specs.Number.{number_in}
use Rattle.figures.proofs.Laws.{parted, read_long, read_parts}
use Rattle.figures.proofs.read_number.Goals as goal
use Rattle.figures.proofs.read_number.Goals.{else-all_digits-via-then-all_digits+then-all_digits-2+else-w-f-gt0, else-all_digits-via-then-all_digits+else-all_digits-2, else-all_digits-via-else-all_digits}

pub returns-then-s-gt12 : goal.returns-then-s-gt12
returns-then-s-gt12 c = ap number_in (read_long _ _ (omega arith))

pub returns-then-w-f-gt0 : goal.returns-then-w-f-gt0
returns-then-w-f-gt0 c =
    let cut = parted c.first_at-p.ensures.0 c.part_to-w.ensures c.part_after-f.ensures (omega arith) in
    ap Some c.scaled_value.ensures
    ∙ ap number_in (read_parts cut _ true true true (sym c.if-all_digits.ensures) (sym c.if-all_digits-2.ensures) (lt-ltb _ _ c.if-w-f-gt0.true))

pub returns-else-all_digits : goal.returns-else-all_digits
returns-else-all_digits c =
    let cut = parted c.first_at-p.ensures.0 c.part_to-w.ensures c.part_after-f.ensures (omega arith) in
    elim c.else-all_digits.branch [
      | else-all_digits-via-then-all_digits+then-all_digits-2+else-w-f-gt0 w ↦
          ap number_in (read_parts cut _ true true false (sym w.if-all_digits.ensures) (sym w.if-all_digits-2.ensures) (le-ltb _ _ w.if-w-f-gt0.false))
      | else-all_digits-via-then-all_digits+else-all_digits-2 w ↦
          ap number_in (read_parts cut _ true false _ (sym w.if-all_digits.ensures) (sym w.if-all_digits-2.ensures) refl)
      | else-all_digits-via-else-all_digits w ↦ ap number_in (read_parts cut _ false _ _ (sym w.if-all_digits.ensures) refl refl)
    ]
