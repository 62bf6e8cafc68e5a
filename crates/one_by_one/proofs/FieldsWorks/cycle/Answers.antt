use Rattle.one_by_one.proofs.Cycles.{one_cycle}
use Rattle.one_by_one.proofs.FieldsWorks.cycle.Goals as goal

pub returns : goal.returns
returns c = one_cycle c.args.r.now c.args.s.now c.take_field.result _ c.requires.0 c.take_field.ensures.call c.take_field.ensures.reads_on
