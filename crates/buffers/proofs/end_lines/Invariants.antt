-- before an iteration the bytes before its index are as they are printed
use Rattle.std.proofs.Common.{◌≡◌}
use Rattle.base.specs.Lists.{each_to}
use Rattle.buffers.specs.Printed.{printed}
use Rattle.buffers.proofs.end_lines.Given as goal

abbrev pub invariant-loop-b : goal.invariant-loop-b
invariant-loop-b l = l.b-items ≡ each_to (λ j b. printed l.ending b) l.b-index l.initial.b-items
