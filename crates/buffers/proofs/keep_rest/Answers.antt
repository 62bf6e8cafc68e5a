use Rattle.buffers.proofs.Kept.{copied}
use Rattle.buffers.proofs.keep_rest.Goals as goal

pub returns : goal.returns
returns c = copied c.args.room.now c.args.used c.args.n _ _ c.min-end.ensures c.min-start.ensures c.copy_within.ensures.after
