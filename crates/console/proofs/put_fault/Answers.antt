use Rattle.base.proofs.Put.{put_then}
use Rattle.console.proofs.put_fault.Goals as goal

-- four texts placed one after another
pub returns : goal.returns
returns c = put_then (put_then (put_then c.put_text-a.ensures c.put_text-b.ensures) c.put_figure-c.ensures) c.put_byte.ensures
