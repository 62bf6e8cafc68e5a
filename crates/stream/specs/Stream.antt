-- THE INPUT AS A STREAM: the bytes waiting to be worked, the cycles that work them, and what the cycles hand on to be
-- written.
use Rattle.std.specs.Prelude.{ℕ, ◌-◌, ◌≤◌, ◌≡◌, Bool, true, false, not, ◌&&◌, ◌||◌, List, [], ◌++◌, map, eqb, ltb, length, take, drop}
use Rattle.base.specs.Choice.{pick}
use Rattle.buffers.specs.Printed.{printed}
use Rattle.wire.specs.Rack as wire
use Rattle.supply.specs.declared.Supply.{Supply}
use Rattle.engine.specs.Engine.{ran, fields_on, all_fields}
use Rattle.stream.specs.declared.Block.{Block}

-- the bytes read but not yet worked
abbrev pub unworked : List ℕ → Block → List ℕ
unworked room b = drop b.from (take b.end room)

-- a read: the kept bytes come first, then the bytes it brought; a read that failed brought nothing
pub record Refilled (kept room : List ℕ) (b n : Block) : Type 0 where
  pub from_is : n.from ≡ 0
  pub within : n.end ≤ length room
  pub first : take (length kept) (take n.end room) ≡ kept
  pub brought_is : n.brought ≡ ltb (length kept) n.end
  pub failed_none : n.failed ≡ true → n.brought ≡ false
  pub reads_is : n.reads ≡ b.reads - 1

-- A program goes on after a cycle if its replies were written, and either a full buffer stopped the cycle or the
-- refusal waits for bytes, the last read brought some and another may be made.
abbrev pub goes_on : Bool → ℕ → Bool → Block → Bool
goes_on sent code waits b = sent && (eqb code 0 || ((waits && b.brought) && ltb 0 b.reads))

-- at its end it prints the number of the refusal if bytes are left, unless a write or a read failed
abbrev pub told : Bool → ℕ → Block → ℕ
told sent code b = pick ((sent && not b.failed) && ltb b.from b.end) code 0

-- Cycles on the rack v: s are the bytes read so far, `kept` those not yet worked, `handed` what was handed on to be
-- written, q the rack now, and n the number of the refusal that ended the last cycle, or 0. A cycle works the fields of
-- the kept bytes and of the bytes c read since, up to a refusal or until it is stopped; it hands on what they said,
-- with the byte `ending` at the end of each line.
pub data Cycles (v : wire.Rack Supply) (ending : ℕ) :
    (s kept handed : List ℕ) (q : wire.Rack Supply) (n : ℕ) → Type 0 where
  none_yet : Cycles v ending [] [] [] v 2
  cycle_on :
      (s kept handed : List ℕ) (q : wire.Rack Supply) (n : ℕ) → Cycles v ending s kept handed q n
      → (c : List ℕ) (stop : ℕ → Bool) (p : wire.Rack Supply) (used : ℕ) (said : List ℕ) (m : ℕ)
      → ran p used said m ≡ fields_on stop q (kept ++ c)
      → Cycles v ending (s ++ c) (drop used (kept ++ c)) (handed ++ map (printed ending) said) p m

-- the true reply stream of an input: what all its fields say, up to one that is refused
abbrev pub reply_stream : wire.Rack Supply → ℕ → List ℕ → List ℕ
reply_stream v ending s = map (printed ending) (all_fields v s).said

-- AT EVERY MOMENT what was handed on is a prefix of the true reply stream of the bytes read, whatever is read later;
-- the rest of that stream is the one of the kept bytes and those to come, on the rack as it is now
abbrev pub HandedFirst : Type 0
HandedFirst =
    (v : wire.Rack Supply) (ending : ℕ) (s kept handed : List ℕ) (q : wire.Rack Supply) (n : ℕ)
    → Cycles v ending s kept handed q n
    → (later : List ℕ) → reply_stream v ending (s ++ later) ≡ handed ++ reply_stream q ending (kept ++ later)

-- and if a refusal ended the last cycle, all of the stream was handed on: nothing is held back
abbrev pub AllHanded : Type 0
AllHanded =
    (v : wire.Rack Supply) (ending : ℕ) (s kept handed : List ℕ) (q : wire.Rack Supply) (n : ℕ)
    → Cycles v ending s kept handed q n
    → (n ≡ 0 → ⊥) → handed ≡ reply_stream v ending s
