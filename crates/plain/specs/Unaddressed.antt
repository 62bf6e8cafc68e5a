-- ENTRIES WITHOUT THEIR ADDRESS: what a supply does with a field does not depend on the slot to which it came.
use Rattle.std.specs.Prelude.{ℕ, ◌≡◌, List, map, drop}
use Rattle.wire.specs.Wire.{Entry, field, line}
use Rattle.wire.specs.Rack.{plain}
use Rattle.supply.specs.declared.Supply.{Supply}
use Rattle.guarantees.specs.Releases.{Trip}
use Rattle.plain.specs.Plain.{step_of, reply_to, releases_of, plain_supply}

-- the entry without its address, which is the first byte of a field's payload; a line has none and stays as it is
abbrev pub unaddressed : Entry → Entry
unaddressed (field t p) = field t (drop 1 p)
unaddressed (line kept spoiled) = line kept spoiled

-- a supply treats both entries alike: what it does, what it replies, and whether a trip is released
pub record SameToSupply (e f : Entry) : Type 0 where
  pub step : (m : ℕ) (s : Supply) → step_of m s e ≡ step_of m s f
  pub reply : (m : ℕ) (s : Supply) → reply_to m s e ≡ reply_to m s f
  pub releases : (m : ℕ) (k : Trip) (s : Supply) → releases_of m k s e ≡ releases_of m k s f

-- no supply reads the address, whatever bytes a field has
abbrev pub AddressUnread : Type 0
AddressUnread = (e f : Entry) → unaddressed e ≡ unaddressed f → SameToSupply e f

-- so lists of entries that are equal apart from their addresses leave a supply in the same state
abbrev pub AddressesUnread : Type 0
AddressesUnread =
    (m : ℕ) (es fs : List Entry)
    → map unaddressed es ≡ map unaddressed fs
    → plain plain_supply m es ≡ plain plain_supply m fs
