-- What holds for every entry of a share: a property of all lines and of all fields that the grammar accepts.
use Rattle.std.specs.Prelude.{Bool, List, ℕ}
use Rattle.wire.specs.Machine.{Every}
use Rattle.wire.specs.Wire.{Entry, line, Item, byte, event, Call, Grammar}
use Rattle.wire.specs.Share.{items, share_of}
use Rattle.wire.specs.declared.Setup.{Setup}

-- P holds for an item of the stream: it says something about fields of other tags and nothing about serial bytes
abbrev pub in_item : (Entry → Type 0) → Item → Type 0
in_item P (byte b) = Unit
in_item P (event a e) = P e

-- P holds for every line, and for every field of another tag that a call brings, whichever addresses are fitted
pub record Holds (γ : Grammar) (P : Entry → Type 0) : Type 0 where
  pub lines : (kept : List ℕ) (spoiled : Bool) → P (line kept spoiled)
  pub fields : (fits : ℕ → Bool) (bytes : List ℕ) → Every (in_item P) (items (γ.read fits bytes))

-- then P holds for every entry of every share, whatever the calls
abbrev pub SharesHold : Grammar → (Entry → Type 0) → Type 0
SharesHold γ P = (u : Setup) (calls : List Call) (a : ℕ) → Every P (share_of γ u calls a)
