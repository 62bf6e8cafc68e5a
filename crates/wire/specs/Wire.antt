-- The shared line and the fields: what a call hands to which supply, from its bytes, the line and the setup alone.
use Rattle.std.specs.Prelude.{◌≡◌, ◌⊎◌, Bool, true, false, not, List, [], ◌∷◌, ◌++◌, ℕ, ◌-◌, ◌≤◌, ltb, eqb, length, get_or, take}
use Rattle.base.specs.Choice.{pick}
use Rattle.wire.specs.Machine.{given}
use Rattle.wire.specs.declared.Setup.{Setup}

-- the model at an address; 255 if the slot is empty or there is no such slot
abbrev pub model_at : Setup → ℕ → ℕ
model_at u a = get_or u.models a 255

-- whether there is a supply at the address
abbrev pub fitted : Setup → ℕ → Bool
fitted u a = not (eqb (model_at u a) 255)

-- an entry: a field of tags 2 to 5, or a line as it stood at its CR, with its spoiled flag
pub data Entry : Type 0 where
  field : ℕ → List ℕ → Entry
  line : List ℕ → Bool → Entry

-- what the line hands out: an entry for one slot, an entry for every fitted slot, or a reply of the line's own
pub data Delivery : Type 0 where
  one : ℕ → Entry → Delivery
  all : Entry → Delivery
  say : List ℕ → Delivery

-- what a line is, judged by its characters: a well-formed ADR, with the reply that it draws from a fitted slot; a line
-- that no supply takes (an ADR in error, with its reply, or an ill-formed global, which draws none); a well-formed
-- global; any other line
pub data Class : Type 0 where
  select : ℕ → List ℕ → Class
  faulty : List ℕ → Class
  global : Class
  other : Class

-- a call: the lent bytes, and the length of the reply buffer
pub record Call : Type 0 where
  pub bytes : List ℕ
  pub room : ℕ

-- an item of the stream: a serial byte, or an accepted field of another tag with its address
pub data Item : Type 0 where
  byte : ℕ → Item
  event : ℕ → Entry → Item

-- the outcome of reading a call: the number of a refusal, or how many bytes are used and what they add to the stream
pub data Parsed : Type 0 where
  refuse : ℕ → Parsed
  accept : ℕ → List Item → Parsed

-- what is left open here: the class of a line, given its kept characters and whether it is spoiled; the shortest reply
-- buffer; and how the bytes of a call are read, given which addresses are fitted (refusals 2 to 7 in their order)
pub record Grammar : Type 0 where
  pub class_of : List ℕ → Bool → Class
  pub least : ℕ
  pub read : (ℕ → Bool) → List ℕ → Parsed

-- the address that stands for nobody
abbrev pub nobody : ℕ
nobody = 31

-- the line between two bytes: the characters kept, whether it is spoiled, and which slot is selected
pub record Wire : Type 0 where
  pub kept : List ℕ
  pub spoiled : Bool
  pub sel : ℕ

-- the line of a fresh rack
abbrev pub fresh_wire : Wire
fresh_wire = record { kept = []; spoiled = false; sel = nobody }

-- the line after some bytes, and what it has handed out
pub record Sent : Type 0 where
  pub wire : Wire
  pub sent : List Delivery

-- nothing is handed out
abbrev pub quiet : Wire → Sent
quiet w = record { wire = w; sent = [] }

-- a line has ended: no characters are kept, this address is selected, and these deliveries are handed out
abbrev pub line_ended : ℕ → List Delivery → Sent
line_ended sel ds = record { wire = record { kept = []; spoiled = false; sel = sel }; sent = ds }

-- one after the other
abbrev pub followed : Sent → Sent → Sent
followed s t = record { wire = t.wire; sent = s.sent ++ t.sent }

-- a line at its CR: ADR selects a fitted slot, which replies; if the slot is empty, nobody is selected and there is no
-- reply. A line that no supply takes draws its reply if a slot is selected. A global goes to every fitted slot. Any
-- other line goes to the selected slot, or is lost if there is none.
abbrev pub by_class : Setup → Wire → Class → Sent
by_class u w (select a t) = line_ended (pick (fitted u a) a nobody) (given (fitted u a) (say t))
by_class u w (faulty t) = line_ended w.sel (given (fitted u w.sel) (say t))
by_class u w global = line_ended w.sel (all (line w.kept w.spoiled) ∷ [])
by_class u w other = line_ended w.sel (given (fitted u w.sel) (one w.sel (line w.kept w.spoiled)))

-- a serial byte other than CR: LF (10) does nothing, a backspace (8) removes the last kept character, and once 64
-- characters are kept a further byte is lost and spoils the line
unfoldable pub char_on : Wire → ℕ → Wire
char_on w b =
    pick (eqb b 10) w
    (pick (eqb b 8) (record { kept = take (length w.kept - 1) w.kept; spoiled = w.spoiled; sel = w.sel })
    (pick (ltb (length w.kept) 64) (record { kept = w.kept ++ b ∷ []; spoiled = w.spoiled; sel = w.sel })
    (record { kept = w.kept; spoiled = true; sel = w.sel })))

module _ (γ : Grammar) (u : Setup) where
  -- a serial byte: CR (13) ends the line
  unfoldable pub byte_on : Wire → ℕ → Sent
  byte_on w b = pick (eqb b 13) (by_class u w (γ.class_of w.kept w.spoiled)) (quiet (char_on w b))

  -- an item of the stream; a field of another tag leaves the line as it is
  abbrev pub item_on : Wire → Item → Sent
  item_on w (byte b) = byte_on w b
  item_on w (event a e) = record { wire = w; sent = one a e ∷ [] }

  -- the items of a stream, each on the line that the one before it left
  abbrev pub scan : Wire → List Item → Sent
  scan w [] = quiet w
  scan w (i ∷ is) = followed (item_on w i) (scan (item_on w i).wire is)

  -- a call is judged by its reply buffer first, then by its bytes
  unfoldable pub parse : Call → Parsed
  parse c = pick (ltb c.room γ.least) (refuse 1) (γ.read (fitted u) c.bytes)

-- what holds for the line of every rack reached by calls: at most 64 characters are kept, and nobody or a fitted slot
-- is selected
pub record LawfulWire (u : Setup) (w : Wire) : Type 0 where
  pub short : length w.kept ≤ 64
  pub chosen : (w.sel ≡ nobody) ⊎ (fitted u w.sel ≡ true)
