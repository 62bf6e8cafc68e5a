use Rattle.texts.proofs.Writing.{put_ok, put_three}
use Rattle.texts.proofs.put_code.Goals as goal

pub returns-then-code-eq0 : goal.returns-then-code-eq0
returns-then-code-eq0 c = put_ok _ c.if-code-eq0.true c.put_text.ensures

pub returns-else-code-eq0 : goal.returns-else-code-eq0
returns-else-code-eq0 c =
    put_three _ c.if-code-eq0.false _ _ c.hex_digit.ensures c.hex_digit-else-code-eq0.ensures c.put_byte-p.ensures c.put_byte-q.ensures c.put_byte.ensures
