-- SERIAL BYTES AS A PIECE: up to the end of a line or of their field.
use Rattle.std.specs.Prelude.{ℕ, ◌+◌, ◌<◌, ◌≡◌, Bool, true, false, Option, Some, None, Result, Ok, Err, List, map, length, take}
use Rattle.wire.specs.declared.Setup.{Setup}
use Rattle.wire.specs.Wire.{byte}
use Rattle.supply.specs.declared.Supply.{Supply}
use Rattle.supply.specs.declared.Order.{Order}
use Rattle.supply.specs.declared.Order.TheVariants.{Cls}
use Rattle.field.specs.declared.Refusal.{Refusal}
use Rattle.field.specs.Refusals.{refusal_number}
use Rattle.serial.specs.declared.Line.{Line}
use Rattle.serial.specs.View.{line_of}
use Rattle.addressed.specs.Pieces.{After, Does, refused_as}
use Rattle.pieces.specs.declared.Piece.{Piece}

-- whether an order goes to all, and which one; where none does, Cls is only a placeholder
abbrev pub for_all : Option Order → Bool
for_all None = false
for_all (Some o) = true

abbrev pub order_told : Option Order → Order
order_told None = Cls
order_told (Some o) = o

abbrev pub after_piece : List ℕ → Piece → After
after_piece kept p =
    record {
      line = line_of kept p.count p.spoiled p.selected;
      supply = p.supply;
      next = p.next;
      used = p.used;
      left = p.left;
      code = 0;
      all = for_all p.order;
      order = order_told p.order;
    }

-- a piece as the code answers it, where l is the line with the array that it left, and x the supply that it was given
abbrev pub piece_told : Line → Supply → ℕ → Result Piece Refusal → After
piece_told l x at (Ok p) = after_piece l.kept p
piece_told l x at (Err e) = refused_as l x at (refusal_number e)

-- serial bytes after `head` bytes, up to the end of a line, or all of them if no line ends
pub record LineDoes (u : Setup) (l : Line) (x : Supply) (p : List ℕ) (head : ℕ)
    (r : After) (b : List ℕ) (at : ℕ) (b' : List ℕ) : Type 0 where
  pub taken : ℕ
  pub used_is : r.used ≡ head + taken
  pub left_is : taken + r.left ≡ length p
  pub some : 0 < length p → 0 < taken
  pub code_is : r.code ≡ 0
  pub does : Does u l x l.selected (map byte (take taken p)) taken r b at b'
