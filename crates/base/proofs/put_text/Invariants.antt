-- before the byte at an index, the bytes before that index are placed
use Rattle.std.proofs.Common.{take}
use Rattle.base.specs.Put.{Put}
use Rattle.base.proofs.put_text.Given as goal

abbrev pub invariant-loop-b : goal.invariant-loop-b
invariant-loop-b l = Put l.initial.buf l.at (take l.b-index l.s) l.p l.buf
