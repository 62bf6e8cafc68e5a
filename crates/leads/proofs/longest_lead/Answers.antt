use Rattle.std.proofs.Common.{true, false, sym, ap, ◌≡◌, ◌∙◌, arith, rules, Some, None, Ok, Err}
use Rattle.std.specs.Prelude.{Float}
use Rattle.leads.specs.declared.LeadRefusal.TheVariants.{NotListed}
use Rattle.leads.specs.Gauges.{listing_of}
use Rattle.leads.specs.Longest.{lead_metres}
use Rattle.leads.proofs.Answers.{not_listed, listed_longest, product_pos, product_le}
use Rattle.leads.proofs.longest_lead.Goals as goal

pub returns-in_err-resistance : goal.returns-in_err-resistance
returns-in_err-resistance c =
    let none : listing_of c.args.gauge ≡ None = search rules in
    let told : c.from_residual.result ≡ Err NotListed = search rules in
    told ∙ not_listed _ _ none

pub overflow_mul-ma : goal.overflow_mul-ma
overflow_mul-ma c =
    let listed : listing_of c.args.gauge ≡ Some c.in_ok-resistance.resistance = search rules in
    omega (arith, product_le c.args.gauge c.args.ma _ listed (sym c.in_range.ensures ∙ c.if-in_range.true))

pub quotient-requires : goal.quotient-requires
quotient-requires c =
    let listed : listing_of c.args.gauge ≡ Some c.in_ok-resistance.resistance = search rules in
    let within = sym c.in_range.ensures ∙ c.if-in_range.true in
    (omega arith, (product_pos _ _ _ listed within, omega (arith, product_le c.args.gauge c.args.ma _ listed within)))

pub returns-then-in_range : goal.returns-then-in_range
unfolding lead_metres
returns-then-in_range c =
    let listed : listing_of c.args.gauge ≡ Some c.in_ok-resistance.resistance = search rules in
    ap (λ (x : Float). Ok x) c.quotient.ensures
    ∙ listed_longest c.args.gauge c.args.ma _ listed true (sym c.in_range.ensures ∙ c.if-in_range.true)

pub returns-else-in_range : goal.returns-else-in_range
returns-else-in_range c =
    let listed : listing_of c.args.gauge ≡ Some c.in_ok-resistance.resistance = search rules in
    listed_longest c.args.gauge c.args.ma _ listed false (sym c.in_range.ensures ∙ c.if-in_range.false)
