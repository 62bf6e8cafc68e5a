use mathlib.Core.Path.{◌≡◌, refl, sym, ap, ◌∙◌}
use mathlib.Core.Logic.{inl, inr}
use lib.Dec.{lit<}
use lib.ListN.{length}
use borrow.Author.Rules.{rules}
use Rattle.supply.specs.State.{fresh}
use Rattle.field.specs.Refusals.{refusal_number}
use Rattle.field.proofs.Refusals.{some_number}
use Rattle.serial.specs.View.{line_of}
use Rattle.slots.specs.declared.Rack.{Rack}
use Rattle.addressed.specs.Pieces.{slots_after}
use Rattle.addressed.specs.Addressed.{event_as}
use Rattle.addressed.proofs.Addressed.{not_serial, sample_known}
use Rattle.pieces.specs.Lines.{for_all, after_piece}
use Rattle.messages.proofs.Kept.{unset}
use Rattle.engine.proofs.Rung.{Judged, SaidBy}
use Rattle.engine.proofs.Stands.{inv_start, left_in, used_in_lem, used_less, inv_serial, inv_one, inv_refused, sample_less, inv_sample, inv_few, printed_said}
use Rattle.engine.proofs.work.Goals as goal
use Rattle.engine.proofs.work.Goals.{then-leaves, else-leaves, in-Some-order, in-None, then-found, else-found}

pub loop-going-init : goal.loop-going-init
loop-going-init c =
    record {
      setup = refl;
      stands = inv_start _ _ _ _ _ _ _ _ (search rules) (search rules) (rw c.none_found-found.ensures (lit< tt)) refl;
    }

pub loop-going-smaller-in-Some : goal.loop-going-smaller-in-Some
loop-going-smaller-in-Some c =
    let l = c.loop-going in
    let known = sample_known l.rack.setup c.part_from-rest.result.now l.left _ c.in-Some.ensures.model in
    sample_less l.invariant.stands c.part_from-rest.ensures c.loop-going-test.true known.0 (fresh 255) known.1 known.3 c.in-Some.ensures.inside _

pub loop-going-preserved-in-Some : goal.loop-going-preserved-in-Some
loop-going-preserved-in-Some c =
    let l = c.loop-going in
    let known = sample_known l.rack.setup c.part_from-rest.result.now l.left _ c.in-Some.ensures.model in
    rw (c.take_sample-supply.ensures, c.byte_at-k.ensures, known.2)
    (record {
      setup = l.invariant.setup;
      stands = inv_sample l.invariant.stands c.part_from-rest.ensures c.loop-going-test.true known.0 _ known.1 known.3 c.in-Some.ensures.inside
          (rw (c.take_sample-supply.ensures, c.byte_at-k.ensures, known.2) at c.ring-next.ensures);
    })

pub loop-going-preserved-in-Ok : goal.loop-going-preserved-in-Ok
loop-going-preserved-in-Ok c =
    let l = c.loop-going in
    let from = c.part_from-rest.ensures in
    let slot = c.slot_or_first-k.ensures in
    let t = c.take_serial-piece in
    let r = c.in-Ok.p in
    let d = c.in-Ok.ensures.1 (sym c.is_serial.ensures ∙ c.if-is_serial.true) (left_in l.invariant.stands from) in
    let k = c.slot_or_first-k.result in
    let was = c.found_by-found in
    let all : c.is_some.result ≡ for_all r.order = search rules in
    let goes = rw all at c.leaves.ensures in
    let j = c.if-leaves in
    let q = c.match-p in
    let o = c.if-found in
    let p = after_piece t.new.kept r in
    let setup : q.rack.setup ≡ l.rack.setup =
    elim q.branch [ in-Some-order w ↦ ap (λ (y : Rack). y.setup) w.rack-is | in-None w ↦ ap (λ (y : Rack). y.setup) w.rack-is ] in
    let slots : q.rack.slots ≡ slots_after l.rack.setup p l.rack.slots k =
    elim q.branch [
      | in-Some-order w ↦ ap (λ (y : Rack). y.slots) w.rack-is ∙ rw w.in-Some-order.is w.order_all-rack.ensures
      | in-None w ↦ ap (λ (y : Rack). y.slots) w.rack-is ∙ rw w.in-None.is refl
    ] in
    let size : length j.registers ≡ length l.registers =
    elim j.branch [
      | then-leaves w ↦ ap length w.registers-is ∙ w.keep_registers.ensures.0
      | else-leaves w ↦ ap length w.registers-is
    ] in
    let judged : Judged l.rack.slots was.result k p.all l.registers j.found j.registers =
    elim j.branch [
      | then-leaves w ↦ inl (sym goes ∙ w.if-leaves.true, λ n. rw w.registers-is (w.keep_registers.ensures.1 n), w.found-is)
      | else-leaves w ↦ inr (sym goes ∙ w.if-leaves.false, w.registers-is, w.found-is)
    ] in
    let said : SaidBy q.rack.slots unset p.left j.found j.registers t.new.buf p.next o.next o.out =
    elim o.branch [
      | then-found w ↦ inl (w.if-found.true, rw (w.next-is, w.out-is) w.ring_all-next.ensures)
      | else-found w ↦ inr (w.if-found.false, rw (w.next-is, w.out-is) w.ring_one-next.ensures)
    ] in
    record {
      setup = setup ∙ l.invariant.setup;
      stands = rw (setup, l.invariant.stands.quiet c.loop-going-test.true)
          (inv_serial l.invariant.stands from c.loop-going-test.true k unset slot.0 p d slot.1 q.rack.slots slots
          (c.in-Ok.ensures.0 ∙ l.invariant.stands.kept_chars) (search rules) was.result j.found j.registers
          (was.ensures.1 slot.0 l.invariant.stands.low) was.ensures.0 size judged said);
    }

pub loop-going-preserved-then-rest-lt3 : goal.loop-going-preserved-then-rest-lt3
loop-going-preserved-then-rest-lt3 c =
    let l = c.loop-going in
    let new = (not_serial c.part_from-rest.result.now l.left (sym c.is_serial.ensures ∙ c.if-is_serial.false)).0 in
    record {
      setup = l.invariant.setup;
      stands = inv_few l.invariant.stands c.part_from-rest.ensures c.loop-going-test.true new c.if-rest-lt3.true;
    }

pub overflow_add-used-in-Ok-take_event : goal.overflow_add-used-in-Ok-take_event
overflow_add-used-in-Ok-take_event c =
    let l = c.loop-going in
    let line = line_of l.kept l.count l.spoiled l.selected in
    let d = c.in-Ok-take_event.ensures l.left (sym c.is_serial.ensures ∙ c.if-is_serial.false) line l.out l.next in
    search (rules, used_in_lem l.invariant.stands c.part_from-rest.ensures c.loop-going-test.true _ _ c.slot_or_first-k-else-rest-lt3.ensures.0 _ d)

pub loop-going-smaller-in-Ok-take_event : goal.loop-going-smaller-in-Ok-take_event
loop-going-smaller-in-Ok-take_event c =
    let l = c.loop-going in
    let line = line_of l.kept l.count l.spoiled l.selected in
    let d = c.in-Ok-take_event.ensures l.left (sym c.is_serial.ensures ∙ c.if-is_serial.false) line l.out l.next in
    used_less l.invariant.stands c.part_from-rest.ensures c.loop-going-test.true _ _ c.slot_or_first-k-else-rest-lt3.ensures.0 _ d _

pub loop-going-preserved-in-Ok-take_event : goal.loop-going-preserved-in-Ok-take_event
loop-going-preserved-in-Ok-take_event c =
    let l = c.loop-going in
    let slot = c.slot_or_first-k-else-rest-lt3.ensures in
    let serial = sym c.is_serial.ensures ∙ c.if-is_serial.false in
    let line = line_of l.kept l.count l.spoiled l.selected in
    let d = c.in-Ok-take_event.ensures l.left serial line l.out l.next in
    let new = (not_serial c.part_from-rest.result.now l.left serial).0 in
    record {
      setup = l.invariant.setup;
      stands = rw (new, l.invariant.stands.quiet c.loop-going-test.true)
          (inv_one l.invariant.stands c.part_from-rest.ensures c.loop-going-test.true _ _ slot.0 _ d new refl
          (rw c.byte_at.ensures at slot.1) refl l.invariant.stands.kept_chars c.ring-next-in-Ok-take_event.ensures);
    }

pub loop-going-preserved : goal.loop-going-preserved
loop-going-preserved c =
    let l = c.loop-going in
    let slot = c.slot_or_first-k-else-rest-lt3.ensures in
    let line = line_of l.kept l.count l.spoiled l.selected in
    let e = c.in-Err-take_event.e in
    let d = c.in-Err-take_event.ensures l.left (sym c.is_serial.ensures ∙ c.if-is_serial.false) line l.out l.next in
    let i = l.invariant.stands in
    record {
      setup = l.invariant.setup;
      stands = inv_refused i c.part_from-rest.ensures c.loop-going-test.true _ _ slot.0 line (refusal_number e) (some_number e) d
          (rw c.byte_at.ensures at slot.1) i.kept_chars i.same i.low i.registers;
    }

pub returns-clause-works : goal.returns-clause-works
returns-clause-works c =
    let i = c.loop-going.invariant in
    λ h long.
    let f = i.stands.stands h long in
    record {
      small = f.small;
      said = f.said;
      is = rw (← i.setup) (f.ended c.loop-going-test.false);
      next_is = f.whole;
      buffer_is = c.end_lines.ensures ∙ printed_said _ _ f.said _ _ f.put f.whole;
    }
