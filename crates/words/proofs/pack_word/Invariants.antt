-- the number so far is the one of the characters before the index
use Rattle.std.proofs.Common.{◌≡◌}
use Rattle.words.specs.Words.{packed, upper_all}
use Rattle.words.proofs.pack_word.Given as goal

abbrev pub invariant-loop-b : goal.invariant-loop-b
invariant-loop-b l = l.word ≡ packed (upper_all l.s) l.b-index
