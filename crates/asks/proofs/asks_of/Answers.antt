use Rattle.std.proofs.Common.{◌∙◌, arith}
use Rattle.asks.specs.Asked.{asks_of}
use Rattle.asks.proofs.Reading.{by_word}
use Rattle.asks.proofs.asks_of.Goals as goal

pub returns : goal.returns
unfolding asks_of
returns c =
    rw (← c.is_empty.ensures, c.if-is_empty.false)
    (c.asks_of_word.ensures
    ∙ by_word _ _ _ _ _ (λ k. omega (arith, c.type_inv.t k)) c.first_at-p.ensures.0 c.part_to.ensures c.word_number-word.ensures c.part_after.ensures)
