-- The rack of the code, seen through the definitions, and what one step of a call leaves and says.
use Rattle.std.specs.Prelude.{ℕ, ◌+◌, ◌*◌, ◌≤◌, min, ◌≡◌, List, Bool, true, false, Some, None, length, get_or, set, take}
use Rattle.base.specs.Choice.{bit}
use Rattle.base.specs.Lists.{each_to}
use Rattle.base.specs.Put.{Put}
use Rattle.wire.specs.declared.Setup.{Setup}
use Rattle.wire.specs.Wire.{Wire, Sent, Class, fitted, by_class, other}
use Rattle.wire.specs.Rack.{replies, moved}
use Rattle.wire.specs.Rack as wire
use Rattle.supply.specs.declared.Supply.{Supply}
use Rattle.supply.specs.declared.Order.{Order}
use Rattle.supply.specs.declared.Act.{Act}
use Rattle.supply.specs.State.{fresh}
use Rattle.asks.specs.Asks.{One}
use Rattle.command.specs.Lines.{heard_as, heard_of}
use Rattle.globals.specs.Globals.{ordered_at}
use Rattle.protocol.specs.SentBack.{rate, longest}
use Rattle.serial.specs.declared.Line.{Line}
use Rattle.serial.specs.View.{wire_of, Short}
use Rattle.plain.specs.Plain.{plain_supply, class_of}
use Rattle.slots.specs.declared.Rack.{Rack}
use Rattle.slots.specs.declared.Ended.{Ended}

-- setup and slots as they are, and the line with only its kept characters
abbrev pub view_of : Rack → wire.Rack Supply
view_of r = record { setup = r.setup; slots = r.slots; wire = wire_of r.line }

-- what the code needs of a rack; it holds for every rack reached by a fitting list and calls
abbrev pub Able : Rack → Type 0
Able r = Short r.line

abbrev pub rack_is : List Supply → Line → Setup → Rack
rack_is ss l u = record { slots = ss; line = l; setup = u }

-- the deliveries of s turn rack r and buffer b into rack q and buffer b'; the replies stand in b' from index `at` up to
-- `next`
pub record Moves (r : Rack) (s : Sent) (q : Rack) (b : List ℕ) (at next : ℕ) (b' : List ℕ) : Type 0 where
  pub small : Able q
  pub view : view_of q ≡ moved plain_supply (view_of r) s
  pub said : Put b at (replies plain_supply r.setup r.slots s.sent) next b'

-- the line after its CR, with this slot selected: nothing is kept, and it is not spoiled
abbrev pub cleared_to : Line → ℕ → Line
cleared_to l selected = record { kept = l.kept; count = 0; spoiled = false; selected = selected }

-- What a line of this class leaves and says, given the line l and the supply s of the selected slot. It holds for any
-- rack whose slot k is s, where k is the selected slot if that has a supply; in that rack the resulting supply replaces
-- s.
abbrev pub EndsByClass : Setup → Line → Supply → Class → Ended → List ℕ → ℕ → List ℕ → Type 0
EndsByClass u l s c e b at b' =
    (ss : List Supply) (k : ℕ) → s ≡ get_or ss k (fresh 255) → (fitted u l.selected ≡ true → k ≡ l.selected)
    → Moves (rack_is ss l u) (by_class u (wire_of l) c) (rack_is (set ss k e.supply) (cleared_to l e.selected) u)
    b at e.next b'

-- what a line for one supply leaves and says, if the line asks for the act a
abbrev pub Asked : Setup → Line → Supply → Act → Bool → Ended → List ℕ → ℕ → List ℕ → Type 0
Asked u l s a checksummed e b at b' =
    heard_of (take l.count l.kept) l.spoiled ≡ heard_as (One a) checksummed
    → EndsByClass u l s other e b at b'

-- what a line for all leaves and says, in any rack: every fitted supply takes the order
abbrev pub EndsAll : Setup → Line → Class → Order → Ended → List ℕ → ℕ → List ℕ → Type 0
EndsAll u l c o e b at b' =
    (ss : List Supply) → length ss ≤ 31
    → Moves (rack_is ss l u) (by_class u (wire_of l) c)
    (rack_is (each_to (ordered_at u o) 31 ss) (cleared_to l e.selected) u) b at e.next b'

-- a line at its CR: what its class leaves and says, whether it is for one supply or for all
abbrev pub EndsLine : Setup → Line → Supply → Ended → List ℕ → ℕ → List ℕ → Type 0
EndsLine u l s e b at b' =
    (e.order ≡ None → EndsByClass u l s (class_of (take l.count l.kept) l.spoiled) e b at b')
    × ((o : Order) → e.order ≡ Some o → EndsAll u l (class_of (take l.count l.kept) l.spoiled) o e b at b')

-- what the line of the rack hands out at its CR
abbrev pub ended_by : Rack → Sent
ended_by r = by_class r.setup (wire_of r.line) (class_of (take r.line.count r.line.kept) r.line.spoiled)

-- how much a line may still draw for the characters that it has kept: at most the longest reply
abbrev pub due : Wire → ℕ
due w = min longest (rate * length w.kept + bit w.spoiled)

-- Room for replies: what k serial bytes draw, plus what the line may still draw after them, is at most what the line
-- could draw before them plus the rate for each byte.
pub record Fair (r : Rack) (s : Sent) (k : ℕ) : Type 0 where
  pub fair :
      length (replies plain_supply r.setup r.slots s.sent) + due s.wire
      ≤ due (wire_of r.line) + rate * k
