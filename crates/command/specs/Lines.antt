-- A line's kept characters: its checksum, and what the line asks at its CR.
use Rattle.std.specs.Prelude.{ℕ, ◌-◌, List, Bool, true, false, ◌&&◌, leb, eqb, length, get_or, take, drop}
use Rattle.base.specs.Choice.{pick}
use Rattle.hexadecimal.specs.Hex.{read_hex, checksum}
use Rattle.asks.specs.Asks.{Asks}
use Rattle.asks.specs.Asks.{Error}
use Rattle.parameters.specs.Parameters.{c01, c04}
use Rattle.asks.specs.Asked.{asks_of}

-- a line has a checksum if its third character from the end is $ (36)
abbrev pub has_checksum : List ℕ → Bool
has_checksum t = leb 3 (length t) && eqb (get_or t (length t - 3) 0) 36

-- the characters before the $
abbrev pub before_checksum : List ℕ → List ℕ
before_checksum t = take (length t - 3) t

-- the last two characters are hexadecimal digits in either case and give the checksum of all bytes before the $
unfoldable pub right_checksum : List ℕ → Bool
right_checksum t =
    (read_hex (drop (length t - 2) t)).good
    && eqb (read_hex (drop (length t - 2) t)).value (checksum (before_checksum t))

-- what a line asks, and whether it had a right checksum
pub record Heard : Type 0 where
  pub asks : Asks
  pub checksummed : Bool

abbrev pub heard_as : Asks → Bool → Heard
heard_as a t = record { asks = a; checksummed = t }

-- a line at its CR: a spoiled line is C01, and a wrong checksum is C04; a right checksum is taken off, once, and the
-- reply will carry one
unfoldable pub heard_of : List ℕ → Bool → Heard
heard_of t spoiled =
    pick spoiled (heard_as (Error c01) false)
    (pick (has_checksum t)
    (pick (right_checksum t) (heard_as (asks_of (before_checksum t)) true) (heard_as (Error c04) false))
    (heard_as (asks_of t) false))
