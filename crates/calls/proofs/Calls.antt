-- A call, outcome by outcome: what the engine does with one field is what the definition of a call says.
use Prim.Native.Nat.{ℕ, ◌+◌, ◌≤◌, ◌<◌}
use mathlib.Core.Path.{◌≡◌, refl, ap, ◌∙◌}
use mathlib.Core.List.{List}
use native.Mathlib.Omega.{arith}
use lib.ListN.{length}
use borrow.Author.Tests.{lt-ltb, le-ltb}
use Rattle.buffers.proofs.Printed.{map_cr}
use Rattle.wire.specs.Wire.{Parsed, refuse, accept, fitted, parse}
use Rattle.wire.specs.Rack.{done, call_of}
use Rattle.wire.specs.Rack as wire
use Rattle.supply.specs.declared.Supply.{Supply}
use Rattle.field.specs.Fields.{read_field}
use Rattle.field.specs.declared.Refusal.{Refusal}
use Rattle.field.specs.Refusals.{refusal_number, refusal_code}
use Rattle.field.proofs.Refusals.{some_number}
use Rattle.std.specs.Prelude.{Some, None}
use Rattle.plain.specs.Plain.{plain_supply, least_reply}
use Rattle.slots.specs.declared.Rack.{Rack}
use Rattle.slots.specs.View.{view_of, Able}
use Rattle.engine.specs.declared.Worked.{Worked}
use Rattle.engine.specs.Engine.{field_at, Ran, ran, WorkDoes, RefusedFirst}
use Rattle.engine.proofs.Fields.{one_field}
use Rattle.calls.specs.Calls.{Answer, refusal, Accepted, Answered, CallDoes}

module _ (r : Rack) (bytes b : List ℕ) where
  pub short_buffer : (a : Answer) → length b < 512 → a ≡ refusal r 1 → CallDoes r bytes b a b
  unfolding call_of parse
  short_buffer a h e = rw (lt-ltb (length b) 512 h) (e, refl)

  module _ (w : Worked) (b' : List ℕ) where
    -- what the engine did, as an answer
    abbrev answer : Answer
    answer = record { code = refusal_code w.refusal; rack = w.rack; used = w.used; length = w.next }

    -- all of the replies stand in the buffer, at its start
    taken : (q : wire.Rack Supply) (n : ℕ) (t : List ℕ) → call_of plain_supply (view_of r) (field_at bytes) ≡ done q n t → WorkDoes r bytes b 0 13 w b' → Accepted q n t b answer b'
    taken q n t e d =
        let same : ran (view_of w.rack) w.used d.said (refusal_code w.refusal) ≡ ran q n t 0 = d.is ∙ one_field (view_of r) q bytes n t e in
        let says : d.said ≡ t = ap (λ (x : Ran). x.said) same in
        record {
          code_is = ap (λ (x : Ran). x.code) same;
          used_is = ap (λ (x : Ran). x.used) same;
          small = d.small;
          rack_is = ap (λ (x : Ran). x.rack) same;
          length_is = d.next_is ∙ ap length says;
          buffer_is = d.buffer_is ∙ rw (map_cr d.said, says) refl;
        }

    module _ (h : 512 ≤ length b) (f : RefusedFirst r bytes b w b') (g : Able r → 0 + least_reply ≤ length b → WorkDoes r bytes b 0 13 w b') where
      -- an answer that is the engine's, where it refuses and where it does not
      pub long_buffer : (a : Answer) → (w.rack ≡ r → w.used ≡ 0 → w.next ≡ 0 → a ≡ refusal r (refusal_code w.refusal)) → (refusal_code w.refusal ≡ 0 → a ≡ answer) → CallDoes r bytes b a b'
      unfolding call_of parse
      long_buffer a refuses accepts = rw (le-ltb (length b) 512 h) (by_parsed (read_field (fitted r.setup) bytes) refl)
        where
          by_parsed : (p : Parsed) → read_field (fitted r.setup) bytes ≡ p → Answered r b (wire.result_of plain_supply (view_of r) p) a b'
          by_parsed (refuse n) e = let k = f n e in (refuses k.0 k.1 k.2 ∙ ap (refusal r) k.3, k.4)
          by_parsed (accept n is) e = λ small.
              let does = taken _ n _ (ap (wire.result_of plain_supply (view_of r)) e) (g small (omega arith)) in
              rw (accepts does.code_is) does

      pub long_refused : (e : Refusal) → w.refusal ≡ Some e → CallDoes r bytes b (refusal r (refusal_number e)) b'
      long_refused e is = long_buffer _ (λ rack used next. rw is refl) (λ z. absurd (some_number e (rw is at z)))

      pub long_accepted : w.refusal ≡ None → CallDoes r bytes b (record { code = 0; rack = w.rack; used = w.used; length = w.next }) b'
      long_accepted is = long_buffer _ (λ rack used next. rw (is, rack, used, next) refl) (λ z. rw is refl)
