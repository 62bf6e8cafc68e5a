use Rattle.std.proofs.Common.{rules, tests, ◌≡◌, ◌∙◌, refl, Bor, Option, Some, None}
use Rattle.std.proofs.lemmas.Iterator.{YieldsList-from_slice}
use Rattle.std.proofs.lemmas.Iterator.Search.{find_from_yields_List}
use lib.Dec.{eqb}
use Rattle.std.specs.Option.{option_map}
use Rattle.leads.specs.declared.Row.{Row}
use Rattle.leads.specs.Gauges.{table, listing_of}
use Rattle.leads.proofs.Rows.{found}
use Rattle.leads.proofs.look_up.Goals as goal

-- what is read of the row that a reference names
read : (o : Option (Bor Row)) {p : Option Row} → option_map (λ (x : Bor Row). x.now) o ≡ p
    → option_map (λ (x : Bor Row). x.now.resistance) o ≡ option_map (λ (x : Row). x.resistance) p
read None e = rw (← e) refl
read (Some x) e = rw (← e) refl

pub returns : goal.returns
unfolding table listing_of
returns c =
    let first = find_from_yields_List (λ (x : Row). eqb x.gauge c.args.gauge) _ _ _ c.find.ensures.ran (YieldsList-from_slice table c.iter.ensures.rest) (λ x b q k. search (rules, tests)) in
    let its : c.map.result ≡ option_map (λ (x : Bor Row). x.now.resistance) c.find.result = search rules in
    its ∙ read c.find.result first ∙ found c.args.gauge table
