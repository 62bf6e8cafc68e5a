-- the order stays as it was, and after i cycles the first i slots have taken it
use Rattle.std.proofs.Common.{◌≡◌}
use Rattle.base.specs.Lists.{each_to}
use Rattle.globals.specs.Globals.{ordered_at}
use Rattle.globals.proofs.order_all.Given as goal

abbrev pub invariant-loop-i : goal.invariant-loop-i
invariant-loop-i l = record {
  same : l.o ≡ l.fn.o;
  taken : l.slots ≡ each_to (ordered_at l.u l.fn.o) l.i l.fn.slots;
}
