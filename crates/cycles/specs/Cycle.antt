-- ONE CYCLE OF THE PROGRAM over the bytes read: the rack, the code, the bytes used, the bytes handed on to be written,
-- and whether to read on. The contracts of read and write say nothing about their bytes; so nothing here says which
-- bytes the reads bring, or that the bytes handed on are written.
use Rattle.std.specs.Prelude.{ℕ, ◌≡◌, List, map, length, take, drop}
use Rattle.buffers.specs.Printed.{printed}
use Rattle.console.specs.Mendable.{mendable}
use Rattle.slots.specs.declared.Rack.{Rack}
use Rattle.slots.specs.View.{view_of, Able}
use Rattle.engine.specs.Engine.{ran, fields_on, full_at}
use Rattle.cycles.specs.declared.CycleOutcome.{CycleOutcome}

-- the fields of the bytes s are worked in turn, up to a refusal or until what they say reaches 7,680 of the buffer's
-- 8,192 bytes
pub record CycleDoes (r : Rack) (s b : List ℕ) (t : CycleOutcome) (b' : List ℕ) : Type 0 where
  pub small : Able t.rack
  pub said : List ℕ
  pub is : ran (view_of t.rack) t.used said t.code ≡ fields_on (full_at 7680) (view_of r) s
  -- what is handed on is what they said, with LF for each CR; the rest of the buffer is unchanged
  pub handed : take t.length b' ≡ map (printed 10) said
  pub behind : drop t.length b' ≡ drop t.length b
  -- whether to read on: the refused field may be waiting for its remaining bytes
  pub reads_on : t.reads_on ≡ mendable t.code
