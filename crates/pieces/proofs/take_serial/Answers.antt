use Rattle.std.proofs.Common.{rules, ◌≡◌, refl, sym, ◌∙◌, arith, Err}
use borrow.Author.Tests.{eqb-true}
use Rattle.field.specs.Fields.{tag_of, payload_of}
use Rattle.field.proofs.Laws.{header_good}
use Rattle.field.proofs.Refusals.{some_number, passed_on}
use Rattle.serial.specs.View.{line_of}
use Rattle.addressed.proofs.Addressed.{bad_header}
use Rattle.pieces.proofs.Lines.{begun, first_line}
use Rattle.pieces.proofs.take_serial.Goals as goal

pub returns-then-left-gt0 : goal.returns-then-left-gt0
returns-then-left-gt0 c =
    let z = c.args in
    let l = line_of z.kept.now z.count z.spoiled z.selected in
    (c.take_line.ensures.0, λ q h. begun z.u l z.s z.b.now z.buf.now z.at _ z.left _ c.if-left-gt0.true h (rw c.part_to-part.ensures at c.take_line.ensures.1))

pub returns-in_err-header : goal.returns-in_err-header
returns-in_err-header c =
    let z = c.args in
    let l = line_of z.kept.now z.count z.spoiled z.selected in
    let new : z.left ≡ 0 = omega (arith, c.if-left-gt0.false) in
    let bad = c.in_err-header.field-0.0 in
    let is : c.from_residual.result ≡ Err bad.refusal = passed_on _ bad c.from_residual.ensures.1 in
    rw is (refl, λ q h. rw new (bad_header z.u l z.s z.b.now z.buf.now z.at _ _ c.in_err-header.ensures.code (some_number bad.refusal)))

pub payload-part-requires : goal.payload-part-requires
payload-part-requires c = rw c.in_ok-header.ensures.header.1 (header_good _ (sym c.in_ok-header.ensures.code)).0

pub returns : goal.returns
returns c =
    let z = c.args in
    let l = line_of z.kept.now z.count z.spoiled z.selected in
    let h = c.in_ok-header.ensures in
    let new : z.left ≡ 0 = omega (arith, c.if-left-gt0.false) in
    let is : c.payload-part.result.now ≡ payload_of z.b.now = c.payload-part.ensures ∙ rw h.header.1 refl in
    (c.take_line-2.ensures.0, λ q w. rw new (first_line z.u l z.s z.b.now z.buf.now z.at _ _ (sym h.code) (eqb-true (tag_of z.b.now) 1 (rw new at q)) (rw is at c.take_line-2.ensures.1)))
