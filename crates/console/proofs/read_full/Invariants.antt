-- each read but the last brings bytes
use Rattle.std.proofs.Common.{length, ◌≤◌, ◌-◌}
use Rattle.console.proofs.read_full.Given as goal

abbrev pub invariant-loop-count : goal.invariant-loop-count
invariant-loop-count l = l.count ≤ length l.buf

abbrev pub decreases-loop-count : goal.decreases-loop-count
decreases-loop-count l = length l.initial.buf - l.count
