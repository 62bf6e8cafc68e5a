-- One call as a cycle of fields: what it leaves of a buffer, that a short one is refused, and that it is one field in
-- turn.
use Prim.Native.Nat.{ℕ, ◌+◌, ◌-◌, ◌<◌}
use mathlib.Core.Path.{◌≡◌, refl, sym, ap, ◌∙◌}
use mathlib.Core.Bool.{Bool, true, false≢true, not, ◌&&◌}
use mathlib.Core.List.{List, [], ◌++◌}
use native.Mathlib.Omega.{arith}
use lib.ListN.{length, drop, replicate, length-drop, length-append, length-replicate, get_or-replicate}
use lib.Seq.{get_or-drop, get_or-append-add}
use Rattle.std.specs.Prelude.{Ok, Err}
use borrow.Author.Tests.{lt-ltb}
use Rattle.base.specs.Lists.{each_to}
use Rattle.buffers.specs.Printed.{printed}
use Rattle.buffers.proofs.Printed.{each_first}
use Rattle.wire.specs.Wire.{parse}
use Rattle.wire.specs.Rack.{refused, done, call_of}
use Rattle.wire.specs.Rack as wire
use Rattle.supply.specs.declared.Supply.{Supply}
use Rattle.plain.specs.Plain.{plain_supply}
use Rattle.field.specs.declared.Refusal.{Refusal}
use Rattle.field.specs.Refusals.{refusal_number}
use Rattle.slots.specs.declared.Rack.{Rack}
use Rattle.slots.specs.View.{view_of, Able}
use Rattle.calls.specs.declared.Called.{Called}
use Rattle.calls.specs.Calls.{Answer, refusal, answer_told, Answered, call_as, CallDoes}
use Rattle.engine.specs.Engine.{field_at, ran, after_field, fields_from, fields_on, full_at}
use Rattle.engine.proofs.Fields.{one_field}
use Rattle.console.specs.Mendable.{mendable}
use Rattle.cycles.specs.declared.CycleOutcome.{CycleOutcome}
use Rattle.cycles.proofs.Handed.{handed_is}
use Rattle.stream.specs.Turn.{Turned}
use Rattle.one_by_one.specs.Called.{Unwritten, OneCall, answer_in}

-- a buffer before its call
pub fresh_buffer : (n : ℕ) → Unwritten (replicate n 165) 0
fresh_buffer n i h g = get_or-replicate n i 165 0 (omega (arith, h, length-replicate {A = ℕ} n 165))

later : (b : List ℕ) (n : ℕ) → Unwritten b 0 → Unwritten b n
later b n u i h g = u i h (omega arith)

-- after what was written at its start, a buffer is as it was
behind_reply : (t b : List ℕ) → Unwritten b 0 → Unwritten (t ++ drop (length t) b) (length t)
behind_reply t b u i h g =
    let n : length (t ++ drop (length t) b) ≡ length t + (length b - length t) = length-append t (drop (length t) b) ∙ ap (λ (k : ℕ). length t + k) (length-drop (length t) b) in
    let at : i ≡ length t + (i - length t) = omega (arith, g) in
    rw at (get_or-append-add t (drop (length t) b) (i - length t) 0 ∙ get_or-drop (length t) b (i - length t) 0 ∙ rw (← at) (u i (omega (arith, h, n, g)) (omega arith)))

module _ (r : Rack) (s b : List ℕ) (a : Answer) (b' : List ℕ) (d : CallDoes r s b a b') where
  -- a buffer under 512 bytes
  pub short_refused : length b < 512 → (a ≡ refusal r 1) × (b' ≡ b)
  unfolding call_of parse
  short_refused h = rw (lt-ltb (length b) 512 h) at d

  pub rest_unwritten : Able r → Unwritten b 0 → Unwritten b' a.length
  rest_unwritten small u = by_answer (call_of plain_supply (view_of r) (call_as s b)) d
    where
      by_answer : (w : wire.CallResult Supply) → Answered r b w a b' → Unwritten b' a.length
      by_answer (refused n) x = rw x.1 (later b a.length u)
      by_answer (done q n t) x = let k = x small in rw (k.buffer_is, k.length_is) (behind_reply t b u)

-- a call on a short buffer is as it should be
pub never_taken : (r : Rack) (s : List ℕ) (c : Called) (b' : List ℕ) → CallDoes r s (replicate 511 165) (answer_told r (Ok c)) b' → ⊥
never_taken r s c b' d =
    let k = short_refused r s (replicate 511 165) (answer_told r (Ok c)) b' d (omega (arith, length-replicate {A = ℕ} 511 165)) in
    omega (arith, ap (λ (a : Answer). a.code) k.0)

pub short_right : (r : Rack) (s : List ℕ) (e : Refusal) (b' : List ℕ) → CallDoes r s (replicate 511 165) (answer_told r (Err e)) b' → (refusal_number e ≡ 1) × Unwritten b' 0
short_right r s e b' d =
    let k = short_refused r s (replicate 511 165) (answer_told r (Err e)) b' d (omega (arith, length-replicate {A = ℕ} 511 165)) in
    (ap (λ (a : Answer). a.code) k.0, rw k.1 (fresh_buffer 511))

-- the call that follows leaves the rest of its buffer as it was
module _ (r : Rack) (s : List ℕ) (b : List ℕ) (a : Answer) (b' : List ℕ) (long : length b ≡ 512) (d : CallDoes r s b a b') where
  pub called : (b'' : List ℕ) → b'' ≡ each_to (λ i x. printed 10 x) a.length b' → OneCall r s a b''
  called b'' p = record { before = b; after = b'; room = long; does = d; handed = p }

  pub never_wrong : Able r → Unwritten b 0 → (right still : Bool) → right ≡ true → (Unwritten b' a.length → still ≡ true) → not (right && still) ≡ true → ⊥
  never_wrong small fresh right still e u f = false≢true (rw (e, u (rest_unwritten r s b a b' d small fresh)) at f)

-- the filled buffer
pub filled : (b b' : List ℕ) → b' ≡ replicate (length b) 165 → (length b' ≡ length b) × Unwritten b' 0
filled b b' e = rw e (length-replicate {A = ℕ} (length b) 165, fresh_buffer (length b))

-- one call with a buffer of 512 bytes is one field in turn
pub one_cycle : (r : Rack) (s : List ℕ) (t : CycleOutcome) (b : List ℕ) → Able r → OneCall r s (answer_in t) b → t.reads_on ≡ mendable t.code → Turned (full_at 0) r s t b
one_cycle r s t b small o on = by_answer (call_of plain_supply (view_of r) (field_at s)) refl (rw o.room at o.does)
  where
    by_answer : (w : wire.CallResult Supply) → call_of plain_supply (view_of r) (field_at s) ≡ w → Answered r o.before w (answer_in t) o.after → Turned (full_at 0) r s t b
    by_answer (refused n) e x =
        let k : (t.rack ≡ r) × (t.used ≡ 0) × (t.length ≡ 0) × (t.code ≡ n) = (ap (λ (a : Answer). a.rack) x.0, ap (λ (a : Answer). a.used) x.0, ap (λ (a : Answer). a.length) x.0, ap (λ (a : Answer). a.code) x.0) in
        record {
          small = rw k.0 small;
          said = [];
          is = rw (k.0, k.1, k.3) (sym (ap (after_field (fields_from (length s) (full_at 0) s) (full_at 0) (view_of r) 0 []) e));
          handed = rw k.2 refl;
          reads_on = on;
        }
    by_answer (done q n u) e x =
        let k = x small in
        record {
          small = k.small;
          said = u;
          is = rw (k.rack_is, k.used_is, k.code_is) (sym (one_field (view_of r) q s n u e));
          handed =
              (handed_is (printed 10) u o.before b t.length k.length_is
              (o.handed ∙ rw (k.buffer_is, k.length_is) (each_first (printed 10) u (drop (length u) o.before)))).0;
          reads_on = on;
        }
