-- FIELDS CALLED ONE BY ONE: one call with a reply buffer of 512 bytes.
use Rattle.std.specs.Prelude.{ℕ, ◌≤◌, ◌<◌, ◌≡◌, Result, List, length, get_or}
use Rattle.base.specs.Lists.{each_to}
use Rattle.buffers.specs.Printed.{printed}
use Rattle.slots.specs.declared.Rack.{Rack}
use Rattle.field.specs.declared.Refusal.{Refusal}
use Rattle.calls.specs.declared.Called.{Called}
use Rattle.calls.specs.Calls.{Answer, answer_told, CallDoes}
use Rattle.console.specs.Mendable.{mendable}
use Rattle.cycles.specs.declared.CycleOutcome.{CycleOutcome}

-- from this index on, the buffer still has the byte that filled it before the call
abbrev pub Unwritten : List ℕ → ℕ → Type 0
Unwritten b from = (i : ℕ) → i < length b → from ≤ i → get_or b i 0 ≡ 165

-- the answer is that of one call on the rack r, with a reply buffer of 512 bytes; what the call left in the buffer is
-- handed on with LF for each CR of the reply
pub record OneCall (r : Rack) (s : List ℕ) (a : Answer) (b : List ℕ) : Type 0 where
  pub before : List ℕ
  pub after : List ℕ
  pub room : length before ≡ 512
  pub does : CallDoes r s before a after
  pub handed : b ≡ each_to (λ i x. printed 10 x) a.length after

-- an answer as what a cycle leaves, and what a cycle left as an answer
abbrev pub cycle_of : Answer → CycleOutcome
cycle_of a = record { rack = a.rack; used = a.used; length = a.length; code = a.code; reads_on = mendable a.code }

abbrev pub cycle_told : Rack → Result Called Refusal → CycleOutcome
cycle_told r c = cycle_of (answer_told r c)

abbrev pub answer_in : CycleOutcome → Answer
answer_in t = record { code = t.code; rack = t.rack; used = t.used; length = t.length }
