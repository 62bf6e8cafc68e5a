use Rattle.base.proofs.Put.{put_then}
use Rattle.texts.proofs.put_labelled.Goals as goal

pub returns : goal.returns
returns c = put_then c.put_text-p.ensures c.put_figure.ensures
