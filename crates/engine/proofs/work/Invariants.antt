-- after each piece the loop stands where fields in turn do
use Rattle.std.proofs.Common.{◌≡◌, ◌+◌, ◌-◌, length}
use Rattle.base.specs.Choice.{bit}
use Rattle.field.specs.Refusals.{refusal_code}
use Rattle.serial.specs.View.{line_of}
use Rattle.engine.proofs.Stands.{Inv}
use Rattle.engine.proofs.work.Given as goal

abbrev pub invariant-loop-going : goal.invariant-loop-going
invariant-loop-going l =
    record {
      setup : l.rack.setup ≡ l.initial.rack.setup;
      stands : Inv l.rack.setup l.s l.initial.out l.full l.initial.rack.slots
          (line_of l.initial.kept l.initial.count l.initial.spoiled l.initial.selected)
          l.rack.slots (line_of l.kept l.count l.spoiled l.selected) l.used l.next l.left (refusal_code l.refusal) l.going l.out l.found l.registers;
    }

abbrev pub decreases-loop-going : goal.decreases-loop-going
decreases-loop-going l = length l.s - l.used + bit l.going
