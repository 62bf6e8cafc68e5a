use Rattle.reply.specs.Obeying.{said_of}
use Rattle.reply.proofs.ask.Goals as goal

pub returns-clause-says : goal.returns-clause-says
unfolding said_of
returns-clause-says c = rw c.answer_to.ensures at c.put_answer_reply-next.ensures
