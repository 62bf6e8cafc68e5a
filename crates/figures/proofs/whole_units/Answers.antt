use Rattle.std.proofs.Common.{rules, refl, ◌<◌, ◌≤◌, ◌*◌, ◌%◌}
use borrow.Author.Tests.{lt-ltb, le-ltb}
use Rattle.figures.specs.Number.{whole_units}
use Rattle.figures.proofs.whole_units.Goals as goal

pub returns-in-Less : goal.returns-in-Less
unfolding whole_units
returns-in-Less c = let l : 2 * (c.args.a % c.args.d) < c.args.d = search rules in rw (lt-ltb _ _ l) refl

pub returns-in-Equal : goal.returns-in-Equal
unfolding whole_units
returns-in-Equal c =
    let l : c.args.d ≤ 2 * (c.args.a % c.args.d) = search rules in
    let m : 2 * (c.args.a % c.args.d) ≤ c.args.d = search rules in
    rw (le-ltb _ _ l, le-ltb _ _ m) refl

pub returns-in-Greater : goal.returns-in-Greater
unfolding whole_units
returns-in-Greater c =
    let l : c.args.d < 2 * (c.args.a % c.args.d) = search rules in
    let m : c.args.d ≤ 2 * (c.args.a % c.args.d) = search rules in
    rw (le-ltb _ _ m, lt-ltb _ _ l) refl
