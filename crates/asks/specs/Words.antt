-- The command words, by their characters, with what each takes and what it asks.
use Rattle.std.specs.Prelude.{ℕ, List, [], ◌∷◌, eqb}
use Rattle.base.specs.Choice.{pick}
use Rattle.base.specs.Text.{codes}
use Rattle.words.specs.Words.{Row, find_word}
use Rattle.supply.specs.declared.Target.{Target}
use Rattle.supply.specs.declared.Target.TheVariants as target
use Rattle.supply.specs.declared.Order.{Order}
use Rattle.supply.specs.declared.Order.TheVariants.{Set, Ovm, Out, Fld, Ast, Rmt, Fena, Sena, Cls, Rst}
use Rattle.supply.specs.declared.Query.{Query}
use Rattle.supply.specs.declared.Query.TheVariants as query
use Rattle.supply.specs.declared.Act.TheVariants.{Obey, Ask}
use Rattle.parameters.specs.Parameters.{Parameter}
use Rattle.asks.specs.Asks.{Asks}
use Rattle.asks.specs.Asks.{Select, BadSelect, Everyone, Nobody, One, Error}
use Rattle.parameters.specs.Parameters.{Kind, bare, number, switch, hex, address, unknown, c01, parameter_of}

-- an order by its word, before its parameter is read
pub data OrderWord : Type 0 where
  set : Target → OrderWord
  ovm : OrderWord
  out : OrderWord
  fld : OrderWord
  ast : OrderWord
  rmt : OrderWord
  fena : OrderWord
  sena : OrderWord
  cls : OrderWord
  rst : OrderWord

-- volts have four decimals, amperes three
abbrev pub decimals_of : Target → ℕ
decimals_of target.Pv = 4
decimals_of target.Pc = 3
decimals_of target.Ovp = 4
decimals_of target.Uvl = 4

-- the parameter that an order's word takes
abbrev pub kind_of_order : OrderWord → Kind
kind_of_order (set t) = number (decimals_of t)
kind_of_order ovm = bare
kind_of_order out = switch 1
kind_of_order fld = switch 1
kind_of_order ast = switch 1
kind_of_order rmt = switch 2
kind_of_order fena = hex
kind_of_order sena = hex
kind_of_order cls = bare
kind_of_order rst = bare

-- the order with a good value, which a word without a parameter ignores
abbrev pub order_with : OrderWord → ℕ → Order
order_with (set t) v = Set t v
order_with ovm v = Ovm
order_with out v = Out (eqb v 1)
order_with fld v = Fld (eqb v 1)
order_with ast v = Ast (eqb v 1)
order_with rmt v = Rmt v
order_with fena v = Fena v
order_with sena v = Sena v
order_with cls v = Cls
order_with rst v = Rst

-- a command word: an order or a query to the selected supply, an order to every fitted supply, ADR, or none of these
pub data Command : Type 0 where
  to_one : OrderWord → Command
  of_one : Query → Command
  to_all : OrderWord → Command
  selecting : Command
  unknown_word : Command

-- the parameter that a word takes; what the line asks with a good value; and what the line is with an error code
abbrev pub kind_of : Command → Kind
kind_of (to_one o) = kind_of_order o
kind_of (of_one q) = bare
kind_of (to_all o) = kind_of_order o
kind_of selecting = address
kind_of unknown_word = unknown

abbrev pub asks_with : Command → ℕ → Asks
asks_with (to_one o) v = One (Obey (order_with o v))
asks_with (of_one q) v = One (Ask q)
asks_with (to_all o) v = Everyone (order_with o v)
asks_with selecting v = Select v
asks_with unknown_word v = Error c01

abbrev pub fails_with : Command → ℕ → Asks
fails_with (to_one o) c = Error c
fails_with (of_one q) c = Error c
fails_with (to_all o) c = Nobody
fails_with selecting c = BadSelect c
fails_with unknown_word c = Error c

-- the words, in capitals
abbrev pub commands : List (Row Command)
commands =
    (codes "PV", to_one (set target.Pv)) ∷
    (codes "PC", to_one (set target.Pc)) ∷
    (codes "OVP", to_one (set target.Ovp)) ∷
    (codes "OVM", to_one ovm) ∷
    (codes "UVL", to_one (set target.Uvl)) ∷
    (codes "OUT", to_one out) ∷
    (codes "FLD", to_one fld) ∷
    (codes "AST", to_one ast) ∷
    (codes "RMT", to_one rmt) ∷
    (codes "FENA", to_one fena) ∷
    (codes "SENA", to_one sena) ∷
    (codes "CLS", to_one cls) ∷
    (codes "RST", to_one rst) ∷
    (codes "PV?", of_one query.Pv) ∷
    (codes "PC?", of_one query.Pc) ∷
    (codes "OVP?", of_one query.Ovp) ∷
    (codes "UVL?", of_one query.Uvl) ∷
    (codes "MV?", of_one query.Mv) ∷
    (codes "MC?", of_one query.Mc) ∷
    (codes "OUT?", of_one query.Out) ∷
    (codes "FLD?", of_one query.Fld) ∷
    (codes "AST?", of_one query.Ast) ∷
    (codes "RMT?", of_one query.Rmt) ∷
    (codes "MODE?", of_one query.Mode) ∷
    (codes "FLT?", of_one query.Flt) ∷
    (codes "FENA?", of_one query.Fena) ∷
    (codes "FEVE?", of_one query.Feve) ∷
    (codes "STT?", of_one query.Stt) ∷
    (codes "STAT?", of_one query.Stat) ∷
    (codes "SENA?", of_one query.Sena) ∷
    (codes "SEVE?", of_one query.Seve) ∷
    (codes "ADR", selecting) ∷
    (codes "GPV", to_all (set target.Pv)) ∷
    (codes "GPC", to_all (set target.Pc)) ∷
    (codes "GOUT", to_all out) ∷
    (codes "GRST", to_all rst) ∷
    []

-- the command for a word in capitals
abbrev pub command_of : List ℕ → Command
command_of w = find_word unknown_word commands w

-- what a command asks, given its parameter as read, and given the parameter's text
abbrev pub asked_with : Command → Parameter → Asks
asked_with k p = pick (eqb p.code 0) (asks_with k p.value) (fails_with k p.code)

unfoldable pub asked_by : Command → List ℕ → Asks
asked_by k x = asked_with k (parameter_of (kind_of k) x)
