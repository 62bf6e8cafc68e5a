use Rattle.std.proofs.Common.{◌≡◌, ◌<◌, ◌≤◌, ℕ, get_or}
use Rattle.one_by_one.proofs.unwritten.Given as goal

-- the bytes before i are as they were
abbrev pub invariant-loop-i : goal.invariant-loop-i
invariant-loop-i l = (j : ℕ) → j < l.i → l.fn.from ≤ j → get_or l.reply j 0 ≡ 165
