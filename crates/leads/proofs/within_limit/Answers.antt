use Rattle.std.proofs.Common.{refl}
use Rattle.leads.specs.Gauges.{within_limit}
use Rattle.leads.proofs.within_limit.Goals as goal

pub returns : goal.returns
unfolding within_limit
returns c = refl
