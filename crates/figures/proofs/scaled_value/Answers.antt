use Rattle.std.proofs.Common.{List, ℕ, ◌+◌, ◌*◌, ◌^◌, ◌<◌, ◌≤◌, length, refl, ◌∙◌, arith}
use Rattle.std.proofs.Math.Nat.{lt_of_lt_of_le, lt_trans}
use lib.Dec.{lit<}
use Rattle.figures.specs.Number.{side_by_side, scaled_value}
use Rattle.figures.proofs.Laws.{side_lt, scale_lt, pow_pos, pow_le}
use Rattle.figures.proofs.scaled_value.Goals as goal

-- all the digits as one number; and the same with k more zeros
all_lt : (w f : List ℕ) → length w + length f ≤ 12 → side_by_side w f < 10 ^ 12
all_lt w f h = lt_of_lt_of_le (side_lt w f) (pow_le (length w + length f) 12 h)

more_lt : (w f : List ℕ) (k : ℕ) → length w + length f ≤ 12 → k ≤ 6 → side_by_side w f * 10 ^ k < 2 ^ 62
more_lt w f k h l =
    lt_trans (lt_of_lt_of_le (scale_lt w f k) (pow_le (length w + length f + k) 18 (omega arith))) (lit< tt)

pub overflow_mul-all : goal.overflow_mul-all
overflow_mul-all c =
    rw (c.run_value.ensures, c.pow10-scale.ensures) (omega (arith, all_lt c.args.w.now c.args.f.now c.requires.0))

pub overflow_add-all : goal.overflow_add-all
overflow_add-all c =
    rw (c.run_value.ensures, c.pow10-scale.ensures, c.run_value-2.ensures)
    (omega (arith, all_lt c.args.w.now c.args.f.now c.requires.0))

pub overflow_mul-all-2 : goal.overflow_mul-all-2
overflow_mul-all-2 c =
    rw (c.run_value.ensures, c.pow10-scale.ensures, c.run_value-2.ensures, c.pow10.ensures)
    (omega (arith, more_lt c.args.w.now c.args.f.now c.args.k c.requires.0 c.requires.1))

pub whole_units-requires : goal.whole_units-requires
whole_units-requires c =
    let n = length c.args.f.now in (
      rw (c.run_value.ensures, c.pow10-scale.ensures, c.run_value-2.ensures, c.pow10.ensures)
          (omega (arith, more_lt c.args.w.now c.args.f.now c.args.k c.requires.0 c.requires.1)),
      rw c.pow10-scale.ensures (pow_pos n),
      omega (arith, c.pow10-scale.ensures, pow_le n 12 (omega arith)),
    )

pub returns : goal.returns
unfolding scaled_value
returns c =
    c.whole_units.ensures
    ∙ rw (c.run_value.ensures, c.pow10-scale.ensures, c.run_value-2.ensures, c.pow10.ensures) refl
