use Rattle.texts.proofs.Writing.{put_reply}
use Rattle.texts.proofs.put_answer_reply.Goals as goal

pub returns : goal.returns
returns c = put_reply _ _ c.put_answer-p.ensures c.put_end.ensures
