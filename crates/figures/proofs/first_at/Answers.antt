use Rattle.std.proofs.Common.{rules, tests, arith, ◌≡◌, ◌∙◌}
use lib.Dec.{eqb}
use Rattle.std.proofs.lemmas.Iterator.{YieldsList-from_slice}
use Rattle.std.proofs.lemmas.Iterator.Search.{position_from_yields_List}
use Rattle.figures.specs.Number.{first_at}
use Rattle.figures.proofs.Laws.{first_position, first_le}
use Rattle.figures.proofs.first_at.Goals as goal

pub returns : goal.returns
returns c =
    let found = position_from_yields_List (λ y. eqb y c.args.x) _ _ _ c.position.ensures.ran (YieldsList-from_slice c.args.s.now cc) (λ x b q k. search (rules, tests)) in
    let at : c.unwrap_or.result ≡ first_at c.args.x c.args.s.now = rw found at c.unwrap_or.ensures ∙ first_position _ _ in
    (at, omega (arith, first_le c.args.x c.args.s.now))
