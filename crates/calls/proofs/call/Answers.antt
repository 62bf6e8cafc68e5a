use mathlib.Core.Path.{refl}
use Rattle.calls.proofs.Calls.{short_buffer, long_refused, long_accepted}
use Rattle.calls.proofs.call.Goals as goal

pub returns-then-reply-lt512 : goal.returns-then-reply-lt512
returns-then-reply-lt512 c = short_buffer c.args.r c.args.bytes.now c.args.reply.now _ c.if-reply-lt512.true refl

pub returns-in-Some : goal.returns-in-Some
returns-in-Some c =
    let w = c.work-worked in
    long_refused c.args.r c.args.bytes.now c.args.reply.now w.result _ c.if-reply-lt512.false w.ensures.refuses w.ensures.works c.in-Some.refusal c.in-Some.is

pub returns-in-None : goal.returns-in-None
returns-in-None c =
    let w = c.work-worked in
    long_accepted c.args.r c.args.bytes.now c.args.reply.now w.result _ c.if-reply-lt512.false w.ensures.refuses w.ensures.works c.in-None.is
