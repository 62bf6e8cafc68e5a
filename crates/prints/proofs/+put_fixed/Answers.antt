use Rattle.prints.proofs.Print.{put_fixed_none, put_fixed_more}
use Rattle.prints.proofs.+put_fixed.Goals as goal

pub returns-then-n-eq0 : goal.returns-then-n-eq0
returns-then-n-eq0 t c = put_fixed_none c.args.n c.args.v c.if-n-eq0.true

pub returns-else-n-eq0 : goal.returns-else-n-eq0
returns-else-n-eq0 t c = put_fixed_more c.args.n c.args.v c.if-n-eq0.false c.put_fixed-p.ensures c.put_byte.ensures
