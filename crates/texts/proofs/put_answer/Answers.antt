use Rattle.texts.specs.Texts.{answer_text}
use Rattle.texts.proofs.put_answer.Goals as goal

pub returns-in-Figure : goal.returns-in-Figure
unfolding answer_text
returns-in-Figure c = rw c.in-Figure.is c.put_figure.ensures

pub returns-in-Says : goal.returns-in-Says
unfolding answer_text
returns-in-Says c = rw (c.in-Says.is, ← c.spelling.ensures) c.put_text.ensures

pub returns-in-Hex : goal.returns-in-Hex
unfolding answer_text
returns-in-Hex c = rw c.in-Hex.is c.put_hex.ensures

pub returns-in-Tells : goal.returns-in-Tells
unfolding answer_text
returns-in-Tells c = rw c.in-Tells.is c.put_status.ensures
