-- whether a gauge suits is whether one of the rows from the index on does
use Rattle.std.proofs.Common.{◌≡◌, drop}
use Rattle.leads.specs.Gauges.{table}
use Rattle.leads.specs.Advice.{some_in, some_suits}
use Rattle.leads.proofs.choose.Given as goal

abbrev pub invariant-loop-row : goal.invariant-loop-row
invariant-loop-row l = some_in (drop l.row-index table) l.ma l.mm ≡ some_suits l.ma l.mm
