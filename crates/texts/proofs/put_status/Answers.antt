use Rattle.texts.proofs.Writing.{put_parts}
use Rattle.texts.proofs.put_status.Goals as goal

pub returns : goal.returns
returns c =
    put_parts c.args.t
    c.put_labelled-after_mv.ensures
    c.put_labelled-after_pv.ensures
    c.put_labelled-after_mc.ensures
    c.put_labelled-after_pc.ensures
    c.put_register-after_sr.ensures
    c.put_register-after_fr.ensures
    c.put_byte.ensures
