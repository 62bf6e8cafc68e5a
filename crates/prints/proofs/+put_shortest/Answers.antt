use Rattle.std.proofs.Common.{arith}
use Rattle.prints.proofs.Print.{put_shortest_none, put_shortest_small, put_shortest_more}
use Rattle.prints.proofs.+put_shortest.Goals as goal

pub returns-then-n-eq0 : goal.returns-then-n-eq0
returns-then-n-eq0 t c = put_shortest_none c.args.n c.args.v c.if-n-eq0.true

pub returns-then-v-lt10 : goal.returns-then-v-lt10
returns-then-v-lt10 t c = put_shortest_small c.args.n c.args.v c.if-n-eq0.false (omega arith) c.put_byte.ensures

pub returns-else-v-lt10 : goal.returns-else-v-lt10
returns-else-v-lt10 t c =
    put_shortest_more c.args.n c.args.v c.if-n-eq0.false (omega arith) c.put_shortest-p.ensures c.put_byte-else-v-lt10.ensures
