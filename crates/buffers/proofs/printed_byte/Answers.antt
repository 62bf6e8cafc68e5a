use Rattle.std.proofs.Common.{refl}
use borrow.Author.Tests.{ne_eqb, eq-eqb}
use Rattle.buffers.specs.Printed.{printed}
use Rattle.buffers.proofs.printed_byte.Goals as goal

pub returns-then-b-eq-CR : goal.returns-then-b-eq-CR
unfolding printed
returns-then-b-eq-CR c = rw (eq-eqb _ 13 c.if-b-eq-CR.true) refl

pub returns-else-b-eq-CR : goal.returns-else-b-eq-CR
unfolding printed
returns-else-b-eq-CR c = rw (ne_eqb _ 13 c.if-b-eq-CR.false) refl
