-- A PIECE OF A FIELD: which bytes it reads, and what it leaves and says. It works on the line and one supply, in any
-- rack that has this supply in the slot that the piece reaches.
use Rattle.std.specs.Prelude.{ℕ, ◌+◌, ◌≤◌, ◌<◌, ◌≡◌, ◌⊎◌, Bool, true, false, ◌||◌, List, ◌++◌, map, ltb, eqb, length, get_or, set, take, drop}
use Rattle.base.specs.Choice.{pick}
use Rattle.base.specs.Lists.{each_to}
use Rattle.wire.specs.declared.Setup.{Setup}
use Rattle.wire.specs.Wire.{Item, byte, Parsed, refuse, accept, fitted, scan}
use Rattle.supply.specs.declared.Supply.{Supply}
use Rattle.supply.specs.declared.Order.{Order}
use Rattle.supply.specs.declared.Order.TheVariants.{Cls}
use Rattle.supply.specs.State.{fresh}
use Rattle.field.specs.Fields.{tag_of, read_field}
use Rattle.globals.specs.Globals.{ordered_at}
use Rattle.serial.specs.declared.Line.{Line}
use Rattle.serial.specs.View.{wire_of, Short}
use Rattle.plain.specs.Plain.{grammar}
use Rattle.slots.specs.declared.Rack.{Rack}
use Rattle.slots.specs.View.{rack_is, Moves, Fair}

-- the items of a field, n of them serial bytes, turn rack r into rack q, write their replies to the buffer, and leave
-- room as `Fair` says
pub record Leaves (r : Rack) (is : List Item) (n : ℕ) (q : Rack) (b : List ℕ) (at next : ℕ) (b' : List ℕ) : Type 0 where
  pub moves : Moves r (scan grammar r.setup (wire_of r.line) is) q b at next b'
  pub fair : Fair r (scan grammar r.setup (wire_of r.line) is) n

-- what a piece leaves, with its line as in the definitions
pub record After : Type 0 where
  pub line : Line
  pub supply : Supply
  pub next : ℕ
  pub used : ℕ
  pub left : ℕ
  pub code : ℕ
  pub all : Bool
  pub order : Order

-- the slots after a piece: the supply that it leaves is put back into slot k, or its order is given to all
abbrev pub slots_after : Setup → After → List Supply → ℕ → List Supply
slots_after u p ss k = pick p.all (each_to (ordered_at u p.order) 31 ss) (set ss k p.supply)

-- what a piece does in any rack whose slot k is the supply x, where k is the slot of address a if there is a supply
abbrev pub Does : Setup → Line → Supply → ℕ → List Item → ℕ → After → List ℕ → ℕ → List ℕ → Type 0
Does u l x a is n p b at b' =
    (ss : List Supply) (k : ℕ) → x ≡ get_or ss k (fresh 255) → (fitted u a ≡ true → k ≡ a)
    → length ss ≤ 31 → length l.kept ≡ 64 → Short l
    → Leaves (rack_is ss l u) is n (rack_is (slots_after u p ss k) p.line u) b at p.next b'

-- a refusal: its number, and everything as it was
abbrev pub refused_as : Line → Supply → ℕ → ℕ → After
refused_as l x at n = record { line = l; supply = x; next = at; used = 0; left = 0; code = n; all = false; order = Cls }

-- whether the next piece consists of serial bytes
abbrev pub is_serial : List ℕ → ℕ → Bool
is_serial s left = ltb 0 left || eqb (tag_of s) 1

-- what the bytes bring next: the `left` serial bytes of a field already begun, or a new field; and how many serial
-- bytes that can be
abbrev pub items_at : Setup → List ℕ → ℕ → Parsed
items_at u s left = pick (ltb 0 left) (accept left (map byte (take left s))) (read_field (fitted u) s)

abbrev pub most : ℕ → ℕ
most left = pick (ltb 0 left) left 16

pub record PieceRefused (u : Setup) (l : Line) (x : Supply) (s : List ℕ) (left : ℕ)
    (r : After) (b : List ℕ) (at : ℕ) (b' : List ℕ) : Type 0 where
  pub reads : items_at u s left ≡ refuse r.code
  pub some : r.code ≡ 0 → ⊥
  pub is : r ≡ refused_as l x at r.code
  pub buffer_is : b' ≡ b

-- the piece takes the first items of what the bytes bring, and leaves the rest
pub record PieceTaken (u : Setup) (l : Line) (x : Supply) (a : ℕ) (s : List ℕ) (left : ℕ)
    (r : After) (b : List ℕ) (at : ℕ) (b' : List ℕ) : Type 0 where
  pub items : List Item
  pub taken : ℕ
  pub reads : items_at u s left ≡ accept (r.used + r.left) (items ++ map byte (take r.left (drop r.used s)))
  pub within : r.used + r.left ≤ length s
  pub begun : 0 < left → r.used + r.left ≡ left
  pub some : 0 < r.used
  pub code_is : r.code ≡ 0
  pub short : taken + r.left ≤ most left
  pub does : Does u l x a items taken r b at b'

-- what a piece does, where x is the supply at address a
abbrev pub PieceDoes : Setup → Line → Supply → ℕ → List ℕ → ℕ → After → List ℕ → ℕ → List ℕ → Type 0
PieceDoes u l x a s left r b at b' = PieceRefused u l x s left r b at b' ⊎ PieceTaken u l x a s left r b at b'
