use mathlib.Core.Path.{◌≡◌}
use lib.ListN.{length}
use borrow.Author.Rules.{rules}
use Rattle.resistance.proofs.Answers.{above, nobody, fitted_cell_any}
use Rattle.resistance.proofs.cell_at.Goals as goal

pub returns-then-address-gt30 : goal.returns-then-address-gt30
returns-then-address-gt30 c = above c.args.r c.args.address c.if-address-gt30.true

pub returns-in_default : goal.returns-in_default
returns-in_default c = nobody c.args.r c.args.address c.in_default.ensures

pub returns : goal.returns
returns c =
    let l : length c.args.r.slots ≡ 31 = search rules in
    rw c.cell_of.ensures (fitted_cell_any c.args.r c.args.address c.if-address-gt30.false _ _ l c.in-Some.ensures)
