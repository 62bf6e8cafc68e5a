-- ONE CYCLE OF A PROGRAM over the bytes read, whatever works the fields in it: the rack, the bytes used, the number of the
-- refusal that ended it, and the bytes handed on to be written. The contracts of read and write say nothing about their
-- bytes; so nothing here says which bytes the reads bring, or that the bytes handed on are written.
use Rattle.std.specs.Prelude.{ℕ, ◌≡◌, Bool, List, map, take}
use Rattle.buffers.specs.Printed.{printed}
use Rattle.console.specs.Mendable.{mendable}
use Rattle.slots.specs.declared.Rack.{Rack}
use Rattle.slots.specs.View.{view_of, Able}
use Rattle.engine.specs.Engine.{ran, fields_on}
use Rattle.cycles.specs.declared.CycleOutcome.{CycleOutcome}

-- the fields of the bytes s are worked in turn, up to a refusal or until what they say stops them
pub record Turned (stop : ℕ → Bool) (r : Rack) (s : List ℕ) (t : CycleOutcome) (b' : List ℕ) : Type 0 where
  pub small : Able t.rack
  pub said : List ℕ
  pub is : ran (view_of t.rack) t.used said t.code ≡ fields_on stop (view_of r) s
  -- what is handed on is what they said, with LF for each CR
  pub handed : take t.length b' ≡ map (printed 10) said
  -- whether to read on: the refused field may be waiting for its remaining bytes
  pub reads_on : t.reads_on ≡ mendable t.code
