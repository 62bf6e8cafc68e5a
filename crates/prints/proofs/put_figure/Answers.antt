use Rattle.prints.proofs.Print.{put_figure_whole, put_figure_point}
use Rattle.prints.proofs.put_figure.Goals as goal

pub returns-then-k-eq0 : goal.returns-then-k-eq0
returns-then-k-eq0 c =
    put_figure_whole c.args.k c.args.v c.whole_part.result c.whole_part.ensures c.if-k-eq0.true c.put_shortest-p.ensures

pub returns-else-k-eq0 : goal.returns-else-k-eq0
returns-else-k-eq0 c =
    put_figure_point c.args.k c.args.v c.whole_part.result c.whole_part.ensures c.if-k-eq0.false c.put_shortest-p.ensures c.put_byte-q.ensures c.put_fixed.ensures
