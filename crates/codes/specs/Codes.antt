-- The error code of an order: the first check that fails decides.
use Rattle.std.specs.Prelude.{ℕ, ◌*◌, Bool, true, false, ◌||◌, ltb}
use Rattle.base.specs.Choice.{pick}
use Rattle.models.specs.declared.Limits.{Limits}
use Rattle.models.specs.Models.{limits_of}
use Rattle.supply.specs.declared.Supply.{Supply}
use Rattle.supply.specs.declared.Target.{Target}
use Rattle.supply.specs.declared.Target.TheVariants.{Pv, Pc, Ovp, Uvl}
use Rattle.supply.specs.declared.Order.{Order}
use Rattle.supply.specs.declared.Order.TheVariants.{Set, Ovm, Out, Fld, Ast, Rmt, Fena, Sena, Cls, Rst}
use Rattle.supply.specs.State.{c05, e01, e02, e04, e06, e07}
use Rattle.supply.specs.Flt.{lines_clear}

-- whether n is more than 105 % of a rating
abbrev pub above105 : ℕ → ℕ → Bool
above105 rating n = ltb (21 * rating) (20 * n)

-- the error code of a figure for a setting, under any five limits: the first check that fails decides
unfoldable pub set_code : Limits → Supply → Target → ℕ → ℕ
set_code l s Pv n =
    pick (above105 l.volts n) c05
    (pick (ltb (20 * s.ovp) (21 * n)) e01
    (pick (ltb (19 * n) (20 * s.uvl)) e02 0))
set_code l s Pc n = pick (above105 l.amps n) c05 0
set_code l s Ovp n =
    pick (ltb n l.ovp_least || ltb l.ovp_most n) c05
    (pick (ltb (20 * n) (21 * s.pv)) e04 0)
set_code l s Uvl n =
    pick (ltb l.uvl_most n) c05
    (pick (ltb (19 * s.pv) (20 * n)) e06 0)

-- OUT 1 draws E07 unless LINES is 0; OUT 0 has no check
abbrev pub out_code : Bool → Bool → ℕ
out_code true clear = pick clear 0 e07
out_code false clear = 0

-- the error code of an order to a supply of model m; 0 if the order is accepted
unfoldable pub order_code : ℕ → Supply → Order → ℕ
order_code m s (Set t n) = set_code (limits_of m) s t n
order_code m s Ovm = 0
order_code m s (Out b) = out_code b (lines_clear s)
order_code m s (Fld b) = 0
order_code m s (Ast b) = 0
order_code m s (Rmt k) = 0
order_code m s (Fena b) = 0
order_code m s (Sena b) = 0
order_code m s Cls = 0
order_code m s Rst = 0
