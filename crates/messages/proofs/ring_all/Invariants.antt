-- the messages of the first i slots are placed
use Rattle.std.proofs.Common.{◌≤◌}
use Rattle.base.specs.Put.{Put}
use Rattle.messages.specs.Messages.{messages_by}
use Rattle.messages.proofs.ring_all.Given as goal

abbrev pub invariant-loop-i : goal.invariant-loop-i
invariant-loop-i l =
    record { inside : l.i ≤ 31; placed : Put l.initial.buf l.at (messages_by l.i l.kept l.slots) l.next l.buf }
