use Rattle.std.proofs.Common.{arith}
use Rattle.words.proofs.Table.{pack_lt}
use Rattle.words.proofs.pack_word.Goals as goal

pub overflow_mul-word : goal.overflow_mul-word
overflow_mul-word c =
    omega (arith, c.loop-b.invariant, pack_lt c.args.s.now (λ k. omega (arith, c.type_inv.s k)) c.loop-b.b-index (omega arith))

pub overflow_add-word : goal.overflow_add-word
overflow_add-word c =
    omega (arith, c.loop-b.invariant, pack_lt c.args.s.now (λ k. omega (arith, c.type_inv.s k)) c.loop-b.b-index (omega arith))
