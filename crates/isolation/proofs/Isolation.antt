-- Demand 3 for the code: each call's equation, chained from the fitting list on, makes the rack the one of the
-- definitions.
use Prim.Native.Nat.{ℕ}
use mathlib.Core.Path.{◌≡◌, sym, ap, subst, ◌∙◌}
use mathlib.Core.List.{List, [], ◌∷◌}
use mathlib.Core.Bool.{true}
use Rattle.wire.specs.Wire.{Call, model_at, fitted}
use Rattle.wire.specs.Share.{share_of}
use Rattle.wire.specs.Rack.{call_of, after, run_from, run, slot, plain}
use Rattle.wire.specs.Rack as wire
use Rattle.wire.specs.declared.Setup.{Setup}
use Rattle.supply.specs.declared.Supply.{Supply}
use Rattle.guarantees.specs.Coherent.{Coherent}
use Rattle.plain.specs.Plain.{plain_supply, grammar}
use Rattle.plain.proofs.Isolation.{isolated}
use Rattle.plain.proofs.Unaddressed.{addresses_unread}
use Rattle.plain.proofs.Reached.{shares_coherent}
use Rattle.plain.proofs.Remembered.{remembers}
use Rattle.slots.specs.declared.Rack.{Rack}
use Rattle.calls.specs.Calls.{Answer}
use Rattle.slots.specs.View.{view_of, Able}
use Rattle.calls.specs.Calls.{Answered, call_as}
use Rattle.isolation.specs.Demand3.{Leads, Run, supply_at, Isolated}

-- the line is short, and the view is this rack
pub record Seen (r : Rack) (v : wire.Rack Supply) : Type 0 where
  pub small : Able r
  pub is : view_of r ≡ v

answered_seen : (r : Rack) (b : List ℕ) (w : wire.CallResult Supply) (a : Answer) (b' : List ℕ) → Able r → Answered r b w a b' → Seen a.rack (after plain_supply (view_of r) w)
answered_seen r b (wire.refused n) a b' h d =
    let e : a.rack ≡ r = ap (λ (x : Answer). x.rack) d.0 in
    record { small = subst Able (sym e) h; is = ap view_of e }
answered_seen r b (wire.done q used t) a b' h d = record { small = (d h).small; is = (d h).rack_is }

leads_seen : (calls : List Call) (r q : Rack) (v : wire.Rack Supply) → Seen r v → Leads r calls q → Seen q (run_from plain_supply v calls)
leads_seen [] r q v s e = subst (λ (x : Rack). Seen x v) (sym e) s
leads_seen (c ∷ cs) r q v s t =
    let call : Call = call_as c.bytes t.buffer in
    let same : call ≡ c = ap (λ (n : ℕ). record { bytes = c.bytes; room = n }) t.room_is in
    let one = answered_seen r t.buffer (call_of plain_supply (view_of r) call) t.answer t.left s.small t.does in
    leads_seen cs t.answer.rack q (after plain_supply v (call_of plain_supply v c))
    (subst (λ (x : Call). Seen t.answer.rack (after plain_supply v (call_of plain_supply v x))) same
    (subst (λ (y : wire.Rack Supply). Seen t.answer.rack (after plain_supply y (call_of plain_supply y call))) s.is one))
    t.rest

pub run_seen : (u : Setup) (calls : List Call) (r : Rack) → Run u calls r → Seen r (run plain_supply u calls)
run_seen u calls r g =
    let m = (g.fits.makes g.good).1 in
    subst (λ (x : Setup). Seen r (run plain_supply x calls)) (sym g.setup_is) (leads_seen calls g.fitting.rack r _ (record { small = m.small; is = m.fresh_is }) g.leads)

slot_is : (u : Setup) (calls : List Call) (r : Rack) (a : ℕ) → Run u calls r → slot plain_supply (run plain_supply u calls) a ≡ supply_at r a
slot_is u calls r a g = ap (λ (x : wire.Rack Supply). slot plain_supply x a) (sym (run_seen u calls r g).is)

ends_as : (u : Setup) (calls : List Call) (r : Rack) (a : ℕ) → fitted u a ≡ true → Run u calls r
    → supply_at r a ≡ plain plain_supply (model_at u a) (share_of grammar u calls a)
ends_as u calls r a f g = sym (slot_is u calls r a g) ∙ (isolated u calls a f).ends

-- DEMAND 3, for every setup and every list of calls
pub isolated_code : (u : Setup) (calls : List Call) → Isolated u calls
isolated_code u calls a f =
    let d = isolated u calls a f in
    record {
      ends = λ r g. ends_as u calls r a f g;
      alike = λ r g u₂ calls₂ r₂ b g₂ m e. sym (slot_is u calls r a g) ∙ d.alike u₂ calls₂ b m e ∙ slot_is u₂ calls₂ r₂ b g₂;
      alike_unaddressed = λ r g u₂ calls₂ r₂ b g₂ m e.
          ends_as u calls r a f g
          ∙ addresses_unread (model_at u a) (share_of grammar u calls a) (share_of grammar u₂ calls₂ b) e
          ∙ ap (λ (n : ℕ). plain plain_supply n (share_of grammar u₂ calls₂ b)) m
          ∙ sym (ends_as u₂ calls₂ r₂ b (rw m at f) g₂);
      margins = λ past rest r e g. let w = rw (slot_is u past r a g) at (d.invariant past rest e) in (w.uvl_margin, w.ovp_margin);
      limits = λ past rest r e g. rw (slot_is u past r a g) at (d.invariant past rest e);
      coherent = λ past rest r e g.
          subst Coherent (sym (ends_as u past r a f g)) (shares_coherent.coherent (model_at u a) u past a);
      remembers = λ past rest r e g.
          let w = remembers (model_at u a) (share_of grammar u past a) in
          rw (ends_as u past r a f g) (w.seen, w.since);
      seen_on = λ past rest r e g. rw (ends_as u past r a f g) (remembers (model_at u a) (share_of grammar u past a)).on;
      folds = λ past e rest is clear set. (remembers (model_at u a) past).folds e clear set;
      folds_when = λ past p rest is n. (remembers (model_at u a) past).folds_when p n;
      calls_off = λ k past rest r e g t. rw (slot_is u past r a g) at (d.calls_off k past rest e t);
      entries_off = d.entries_off;
      freed = d.freed;
    }
