-- EVERY SUPPLY REACHED BY CALLS IS COHERENT: refusal 7 checks the values of its fields, and lines are checked as they
-- are read.
use Rattle.std.specs.Prelude.{ℕ, ◌≡◌, Bool, true, List}
use Rattle.wire.specs.Wire.{Entry, field, line, Call}
use Rattle.wire.specs.declared.Setup.{Setup}
use Rattle.wire.specs.Entries.{SharesHold}
use Rattle.wire.specs.Share.{share_of}
use Rattle.wire.specs.Rack.{plain}
use Rattle.supply.specs.declared.Act.TheVariants.{Obey}
use Rattle.guarantees.specs.Coherent.{Coherent, Checked}
use Rattle.asks.specs.Asks.{Asks}
use Rattle.asks.specs.Asks.{Select, BadSelect, Everyone, Nobody, One, Error}
use Rattle.command.specs.Lines.{heard_of}
use Rattle.field.specs.Fields.{values_fit, act_of}
use Rattle.plain.specs.Plain.{grammar, plain_supply}

-- what a line asks a supply to do, if anything, is checked
abbrev pub CheckedAsks : Asks → Type 0
CheckedAsks (One a) = Checked a
CheckedAsks (Everyone o) = Checked (Obey o)
CheckedAsks (Select n) = Unit
CheckedAsks (BadSelect c) = Unit
CheckedAsks Nobody = Unit
CheckedAsks (Error c) = Unit

-- a field whose values passed refusal 7; a line has no such values
abbrev pub Passed : Entry → Type 0
Passed (field t p) = values_fit t p ≡ true
Passed (line kept spoiled) = Unit

pub record SharesCoherent : Type 0 where
  -- whatever a line contains, what it asks is checked: RMT takes 0, 1 or 2
  pub lines_checked : (kept : List ℕ) (spoiled : Bool) → CheckedAsks (heard_of kept spoiled).asks
  -- and so is what a field asks if it passed refusal 7
  pub fields_checked : (t : ℕ) (p : List ℕ) → values_fit t p ≡ true → Checked (act_of t p)
  -- every field of a share passed it
  pub entries_passed : SharesHold grammar Passed
  -- so a fresh plain supply of any model ends coherent on any address's share of any list of calls
  pub coherent : (m : ℕ) (u : Setup) (calls : List Call) (a : ℕ)
      → Coherent (plain plain_supply m (share_of grammar u calls a))
