-- The acts: whether a supply refuses one, and the supply that an act leaves, in three stages.
use Rattle.std.specs.Prelude.{ℕ, Bool, true, false, eqb}
use Rattle.base.specs.Choice.{pick}
use Rattle.supply.specs.declared.Supply.{Supply}
use Rattle.supply.specs.declared.Order.{Order}
use Rattle.supply.specs.declared.Order.TheVariants.{Set, Ovm, Out, Fld, Ast, Rmt, Fena, Sena, Cls, Rst}
use Rattle.supply.specs.declared.Query.{Query}
use Rattle.supply.specs.declared.Query.TheVariants as query
use Rattle.supply.specs.declared.Act.{Act}
use Rattle.supply.specs.declared.Act.TheVariants.{Lines, Sample, Press, Turn, Obey, Ask, Nothing}
use Rattle.supply.specs.With.{with_feve, with_seve}
use Rattle.supply.specs.Memory.{cv_forgotten}
use Rattle.supply.specs.Registers.{settled}
use Rattle.samples.specs.Samples.{sampled}
use Rattle.events.specs.Events.{lines_changed, pressed, turned}
use Rattle.codes.specs.Codes.{order_code}
use Rattle.orders.specs.Orders.{ordered}

-- 0, or the error code of the refusal; only an order can be refused
unfoldable pub code_of : ℕ → Supply → Act → ℕ
code_of m s (Lines b) = 0
code_of m s (Sample v a) = 0
code_of m s (Press k) = 0
code_of m s (Turn t raw) = 0
code_of m s (Obey o) = order_code m s o
code_of m s (Ask q) = 0
code_of m s Nothing = 0

-- what a query itself changes: FEVE? clears FEVE, and SEVE? clears SEVE
unfoldable pub after_query : Query → Supply → Supply
after_query query.Feve s = with_feve 0 s
after_query query.Seve s = with_seve 0 s
after_query query.Pv s = s
after_query query.Pc s = s
after_query query.Ovp s = s
after_query query.Uvl s = s
after_query query.Mv s = s
after_query query.Mc s = s
after_query query.Out s = s
after_query query.Fld s = s
after_query query.Ast s = s
after_query query.Rmt s = s
after_query query.Mode s = s
after_query query.Flt s = s
after_query query.Fena s = s
after_query query.Stt s = s
after_query query.Stat s = s
after_query query.Sena s = s

-- CLS and RST end with both registers 0
unfoldable pub clearing_order : Order → Bool
clearing_order Cls = true
clearing_order Rst = true
clearing_order (Set t n) = false
clearing_order Ovm = false
clearing_order (Out b) = false
clearing_order (Fld b) = false
clearing_order (Ast b) = false
clearing_order (Rmt k) = false
clearing_order (Fena b) = false
clearing_order (Sena b) = false

-- FEVE and SEVE are set to 0 if the test is true
abbrev pub cleared : Bool → Supply → Supply
cleared t s = pick t (with_seve 0 (with_feve 0 s)) s

-- first stage: what the act itself does, before the registers gain any bit
unfoldable pub acted : ℕ → Supply → Act → Supply
acted m s (Lines b) = lines_changed s b
acted m s (Sample v a) = sampled m s v a
acted m s (Press k) = pressed s k
acted m s (Turn t raw) = turned m s t raw
acted m s (Obey o) = ordered m s o
acted m s (Ask q) = after_query q s
acted m s Nothing = s

-- third stage, after `settled`: CLS and RST close with both registers 0, and whichever act it is, a supply whose output
-- is off then forgets that a sample was judged CV
unfoldable pub clearing_act : Act → Bool
clearing_act (Obey o) = clearing_order o
clearing_act (Lines b) = false
clearing_act (Sample v a) = false
clearing_act (Press k) = false
clearing_act (Turn t raw) = false
clearing_act (Ask q) = false
clearing_act Nothing = false

abbrev pub closed : Act → Supply → Supply
closed a s = cv_forgotten (cleared (clearing_act a) s)

-- AN EVENT, as the paper calls it, and what it leaves: an act that is not refused, in its three stages.
-- A refused act is no event and changes nothing.
unfoldable pub performed : ℕ → Supply → Act → Supply
performed m s a = pick (eqb (code_of m s a) 0) (closed a (settled m s (acted m s a))) s
