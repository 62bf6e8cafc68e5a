use Rattle.texts.proofs.Writing.{put_bare_end, put_checksummed_end}
use Rattle.texts.proofs.put_end.Goals as goal

pub returns-then-checksummed : goal.returns-then-checksummed
returns-then-checksummed c =
    put_checksummed_end _ _ c.if-checksummed.true _ c.checksum-x.ensures c.put_byte-p.ensures c.put_hex-q.ensures c.put_byte.ensures

pub returns-else-checksummed : goal.returns-else-checksummed
returns-else-checksummed c = put_bare_end _ _ c.if-checksummed.false c.put_byte-else-checksummed.ensures
