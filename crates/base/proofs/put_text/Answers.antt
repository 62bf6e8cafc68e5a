use borrow.Author.Rules.{rules}
use Rattle.base.proofs.Put.{put_more}
use Rattle.base.proofs.put_text.Goals as goal

pub loop-b-preserved : goal.loop-b-preserved
loop-b-preserved c = put_more _ _ _ c.loop-b.b-index _ _ _ _ c.loop-b.invariant (search rules) c.put_byte-p.ensures
