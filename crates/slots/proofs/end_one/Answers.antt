use Rattle.std.proofs.Common.{refl, ap}
use Rattle.asks.specs.Told.{asks_told}
use Rattle.command.specs.Told.{heard_told}
use Rattle.serial.specs.View.{line_of}
use Rattle.slots.proofs.LineEnds.{by_class_lem, all_ends, ends_unheard, one_ends, in_error_ends}
use Rattle.slots.proofs.end_one.Goals as goal

pub returns-in-Select : goal.returns-in-Select
returns-in-Select c =
    let z = c.args in
    let l = line_of z.kept.now z.count z.spoiled z.selected in
    by_class_lem z.u l z.s z.buf.now z.at (heard_told c.hear-asks.result) c.hear-asks.ensures _ _ c.select_slot.ensures.0
    (rw c.in-Select.is (c.select_slot.ensures.1 l))

pub returns-in-BadSelect : goal.returns-in-BadSelect
returns-in-BadSelect c =
    let z = c.args in
    let l = line_of z.kept.now z.count z.spoiled z.selected in
    by_class_lem z.u l z.s z.buf.now z.at (heard_told c.hear-asks.result) c.hear-asks.ensures _ _ c.say_code.ensures.0
    (rw c.in-BadSelect.is (c.say_code.ensures.1 l refl))

pub returns-in-Everyone : goal.returns-in-Everyone
returns-in-Everyone c =
    let z = c.args in
    let l = line_of z.kept.now z.count z.spoiled z.selected in
    all_ends z.u l z.s z.buf.now z.at (heard_told c.hear-asks.result) c.hear-asks.ensures _ (ap asks_told c.in-Everyone.is)

pub returns-in-Nobody : goal.returns-in-Nobody
returns-in-Nobody c =
    let z = c.args in
    let l = line_of z.kept.now z.count z.spoiled z.selected in
    rw c.one_ended.ensures
    (by_class_lem z.u l z.s z.buf.now z.at (heard_told c.hear-asks.result) c.hear-asks.ensures _ _ refl
    (rw c.in-Nobody.is (ends_unheard z.u l z.s z.buf.now z.at _ refl)))

pub returns-in-One : goal.returns-in-One
returns-in-One c =
    let z = c.args in
    let l = line_of z.kept.now z.count z.spoiled z.selected in
    one_ends z.u l z.s z.buf.now z.at (heard_told c.hear-asks.result) c.hear-asks.ensures _ _ _ (ap asks_told c.in-One.is) c.tell_one.ensures.0
    (c.tell_one.ensures.1 l refl)

pub returns-in-Error : goal.returns-in-Error
returns-in-Error c =
    let z = c.args in
    let l = line_of z.kept.now z.count z.spoiled z.selected in
    in_error_ends z.u l z.s z.buf.now z.at (heard_told c.hear-asks.result) c.hear-asks.ensures _ _ _ (ap asks_told c.in-Error.is) c.say_code-in-Error.ensures.0
    (c.say_code-in-Error.ensures.1 l refl)
