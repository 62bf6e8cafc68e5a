-- Demand 3 is about runs, and there are runs: every list that fits has one for every list of calls.
use Prim.Native.Nat.{ℕ, ◌≤◌}
use mathlib.Core.Path.{◌≡◌, refl, sym, ap, subst, ◌∙◌}
use mathlib.Core.List.{List, [], ◌∷◌, ◌++◌}
use mathlib.Core.Bool.{true, true≢false}
use native.Mathlib.Omega.{arith}
use lib.ListN.{length, drop, replicate, length-replicate}
use lib.Seq.{take_all}
use Rattle.wire.specs.Wire.{Call, LawfulWire}
use Rattle.wire.specs.Rack.{call_of, after, fresh_rack}
use Rattle.wire.specs.Rack as wire
use Rattle.wire.specs.declared.Setup.{Setup}
use Rattle.wire.proofs.Calls.{run_setup}
use Rattle.wire.proofs.Lawful.{fresh_lawful, run_lawful}
use Rattle.supply.specs.declared.Supply.{Supply}
use Rattle.plain.specs.Plain.{plain_supply}
use Rattle.slots.specs.declared.Rack.{Rack}
use Rattle.slots.specs.View.{view_of}
use Rattle.calls.specs.Calls.{Answer}
use Rattle.calls.specs.Calls.{refusal, Answered, call_as}
use Rattle.fitting.specs.Fitting.{good_list}
use Rattle.isolation.specs.Demand3.{Through, Leads, Run, setup_of}

-- a record with this view; its line holds only the kept characters, where the code's array has 64 bytes
abbrev pub packed : wire.Rack Supply → Rack
packed v =
    record {
      slots = v.slots;
      line = record { kept = v.wire.kept; count = length v.wire.kept; spoiled = v.wire.spoiled; selected = v.wire.sel };
      setup = v.setup;
    }

pub view_is : (v : wire.Rack Supply) → view_of (packed v) ≡ v
view_is v = let e = take_all (length v.wire.kept) v.wire.kept (omega arith) in rw e refl

-- an answer that a call on the rack m may return, and the buffer that it leaves
abbrev pub answer_as : Rack → wire.CallResult Supply → Answer
answer_as m (wire.refused n) = refusal m n
answer_as m (wire.done q used t) = record { code = 0; rack = packed q; used = used; length = length t }

abbrev left_as : List ℕ → wire.CallResult Supply → List ℕ
left_as b (wire.refused n) = b
left_as b (wire.done q used t) = t ++ drop (length t) b

answered : (m : Rack) (b : List ℕ) (w : wire.CallResult Supply) → length (after plain_supply (view_of m) w).wire.kept ≤ 64 → Answered m b w (answer_as m w) (left_as b w)
answered m b (wire.refused n) h = (refl, refl)
answered m b (wire.done q used t) h = λ small. record { code_is = refl; used_is = refl; small = h; rack_is = view_is q; length_is = refl; buffer_is = refl }

view_after : (m : Rack) (w : wire.CallResult Supply) → view_of (answer_as m w).rack ≡ after plain_supply (view_of m) w
view_after m (wire.refused n) = refl
view_after m (wire.done q used t) = view_is q

-- one call, on any rack
pub through : (m : Rack) (c : Call) (Rest : Rack → Type 0) → length (after plain_supply (view_of m) (call_of plain_supply (view_of m) c)).wire.kept ≤ 64 → Rest (answer_as m (call_of plain_supply (view_of m) c)).rack → Through m c Rest
through m c Rest short rest =
    let b : List ℕ = replicate c.room 0 in
    let w : wire.CallResult Supply = call_of plain_supply (view_of m) c in
    let same : call_as c.bytes b ≡ c = ap (λ (n : ℕ). record { bytes = c.bytes; room = n }) (length-replicate c.room 0) in
    record {
      buffer = b;
      room_is = length-replicate c.room 0;
      answer = answer_as m w;
      left = left_as b w;
      does = subst (λ (x : Call). Answered m b (call_of plain_supply (view_of m) x) (answer_as m w) (left_as b w)) (sym same) (answered m b w short);
      rest = rest;
    }

abbrev Lawful : wire.Rack Supply → Type 0
Lawful v = LawfulWire v.setup v.wire

some_leads : (calls : List Call) (m : Rack) → Lawful (view_of m) → (q : Rack) × Leads m calls q
some_leads [] m h = (m, refl)
some_leads (c ∷ cs) m h =
    let w : wire.CallResult Supply = call_of plain_supply (view_of m) c in
    let kept : LawfulWire m.setup (after plain_supply (view_of m) w).wire = run_lawful plain_supply (view_of m) (c ∷ []) h in
    let setup : (after plain_supply (view_of m) w).setup ≡ m.setup = run_setup plain_supply (view_of m) (c ∷ []) in
    let next : Lawful (view_of (answer_as m w).rack) = subst Lawful (sym (view_after m w)) (subst (λ (u : Setup). LawfulWire u (after plain_supply (view_of m) w).wire) (sym setup) kept) in
    let rest = some_leads cs (answer_as m w).rack next in (rest.0, through m c (λ p. Leads p cs rest.0) kept.short rest.1)

-- EVERY LIST OF CALLS HAS A RUN, on the rack of every list that fits
pub some_run : (l : List ℕ) (calls : List Call) → good_list l ≡ true → (r : Rack) × Run (setup_of l) calls r
some_run l calls good =
    let v : wire.Rack Supply = fresh_rack plain_supply (setup_of l) in
    let q = some_leads calls (packed v) (subst Lawful (sym (view_is v)) (fresh_lawful (setup_of l))) in (
      q.0,
      record {
        list = l;
        setup_is = refl;
        good = good;
        fitting = record { code = 0; rack = packed v };
        fits = record { refuses = λ f. absurd (true≢false (sym good ∙ f)); makes = λ g. (refl, record { small = omega arith; fresh_is = view_is v }) };
        leads = q.1;
      },
    )
