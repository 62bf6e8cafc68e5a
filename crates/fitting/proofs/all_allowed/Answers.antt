use Rattle.std.proofs.Common.{rules, tests, ◌∙◌}
use Rattle.std.proofs.lemmas.Iterator.{YieldsList-from_slice}
use Rattle.std.proofs.lemmas.Iterator.Search.{all_from_yields_List}
use Rattle.fitting.specs.Fitting.{allowed}
use Rattle.fitting.proofs.Laws.{allowed_each}
use Rattle.fitting.proofs.all_allowed.Goals as goal

pub returns : goal.returns
returns c =
    all_from_yields_List allowed _ _ _ c.all.ensures.ran (YieldsList-from_slice c.args.list.now cc) (λ x b q k. search (rules, tests))
    ∙ allowed_each _
