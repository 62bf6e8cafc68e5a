use Rattle.std.proofs.Common.{rules, ◌≡◌, ℕ, ◌<◌, get_or}
use Rattle.supply.specs.State.{fresh}
use Rattle.fitting.proofs.Laws.{made}
use Rattle.fitting.proofs.fresh_rack.Goals as goal

pub returns : goal.returns
returns c =
    let each : (i : ℕ) → i < 31 → get_or c.map.result i (fresh 255) ≡ fresh (get_or c.args.models i 255) =
    λ i h. let k = c.map.ensures.items.at i 255 (fresh 255) h in search rules in
    made c.args.models c.map.result c.fresh_line.result (search rules) c.map.ensures.items.long each c.fresh_line.ensures.0 c.fresh_line.ensures.1
