use Rattle.std.proofs.Common.{◌+◌, ◌%◌, ◌∙◌, rules, tests}
use Rattle.std.proofs.lemmas.Iterator.{YieldsList-from_slice}
use Rattle.std.proofs.lemmas.Iterator.Consumers.{fold_from_yields_List}
use Rattle.hexadecimal.proofs.Laws.{sum_by_byte}
use Rattle.hexadecimal.proofs.checksum.Goals as goal

pub returns : goal.returns
returns c =
    fold_from_yields_List _ (λ t b. (t + b) % 256) _ _ c.fold.ensures.ran (YieldsList-from_slice c.args.s.now cc) (λ a x b q k. search (rules, tests))
    ∙ sum_by_byte _
