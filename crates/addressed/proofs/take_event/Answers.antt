use Rattle.std.proofs.Common.{rules, ◌≡◌, ℕ, true, false, refl, sym, ap, ◌∙◌, get_or, Err}
use Rattle.wire.specs.Wire.{fitted}
use Rattle.supply.proofs.ErrorCodes.{unwrapped}
use Rattle.field.specs.Fields.{tag_of, payload_of, values_fit, act_of}
use Rattle.field.proofs.Laws.{header_good}
use Rattle.field.proofs.Refusals.{some_number, passed_on}
use Rattle.serial.proofs.Models.{model_there, none_there}
use Rattle.addressed.proofs.Addressed.{not_serial, bad_header, no_supply, bad_value, event_done}
use Rattle.addressed.proofs.take_event.Goals as goal

pub returns-in_err-header : goal.returns-in_err-header
returns-in_err-header c =
    let z = c.args in
    let bad = c.in_err-header.field-0.0 in
    let is : c.from_residual.result ≡ Err bad.refusal = passed_on _ bad c.from_residual.ensures.1 in
    λ left q l buf at.
    rw ((not_serial z.b.now left q).0, is) (bad_header z.u l z.s z.b.now buf at _ _ c.in_err-header.ensures.code (some_number bad.refusal))

pub payload-p-requires : goal.payload-p-requires
payload-p-requires c = rw c.in_ok-header.ensures.header.1 (header_good _ (sym c.in_ok-header.ensures.code)).0

pub returns-in_default : goal.returns-in_default
returns-in_default c =
    let z = c.args in
    let h = c.in_ok-header.ensures in
    let is : c.payload-p.result.now ≡ payload_of z.b.now = c.payload-p.ensures ∙ rw h.header.1 refl in
    let f : fitted z.u (get_or (payload_of z.b.now) 0 0) ≡ false = rw (← is) (rw (← c.byte_at-a.ensures) (none_there z.u _ c.in_default.ensures)) in
    λ left q l buf at. let k = not_serial z.b.now left q in rw k.0 (no_supply z.u l z.s z.b.now buf at (sym h.code) k.1 f)

pub returns-then-not-values_fit : goal.returns-then-not-values_fit
returns-then-not-values_fit c =
    let z = c.args in
    let h = c.in_ok-header.ensures in
    let is : c.payload-p.result.now ≡ payload_of z.b.now = c.payload-p.ensures ∙ rw h.header.1 refl in
    let f : fitted z.u (get_or (payload_of z.b.now) 0 0) ≡ true = rw (← is) (rw (← c.byte_at-a.ensures) (model_there z.u _ _ c.in-Some.ensures).0) in
    let v : values_fit (tag_of z.b.now) (payload_of z.b.now) ≡ false = rw (← h.header.0, ← is) (sym c.values_fit.ensures ∙ c.if-not-values_fit.true) in
    λ left q l buf at. let k = not_serial z.b.now left q in rw k.0 (bad_value z.u l z.s z.b.now buf at (sym h.code) k.1 f v)

pub returns : goal.returns
returns c =
    let z = c.args in
    let h = c.in_ok-header.ensures in
    let is : c.payload-p.result.now ≡ payload_of z.b.now = c.payload-p.ensures ∙ rw h.header.1 refl in
    let there = model_there z.u _ _ c.in-Some.ensures in
    let f : fitted z.u (get_or (payload_of z.b.now) 0 0) ≡ true = rw (← is) (rw (← c.byte_at-a.ensures) there.0) in
    let v : values_fit (tag_of z.b.now) (payload_of z.b.now) ≡ true = rw (← h.header.0, ← is) (sym c.values_fit.ensures ∙ c.if-not-values_fit.false) in
    let act : c.act_of.result ≡ act_of (tag_of z.b.now) (payload_of z.b.now) = c.act_of.ensures ∙ ap (λ (t : ℕ). act_of t c.payload-p.result.now) h.header.0 ∙ ap (act_of (tag_of z.b.now)) is in
    λ left q l buf at.
    let k = not_serial z.b.now left q in
    rw (k.0, c.unwrap_or.ensures ∙ unwrapped _ c.perform-done.result ∙ c.perform-done.ensures.1, there.1, act, c.byte_at-a.ensures, is, h.header.1) (event_done z.u l z.s z.b.now buf at (sym h.code) k.1 f v)
