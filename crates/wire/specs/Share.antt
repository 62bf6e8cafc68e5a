-- An address's share of a list of calls, from the calls and the setup alone: a second reading of the paper, in passes
-- over the single stream of all accepted fields. How bytes become lines and which slot is selected is defined anew
-- here, without the definitions of the rack in Wire.antt. Which calls are accepted and what class a line has come from
-- the grammar, as they do for the rack.
use Rattle.std.specs.Prelude.{Bool, true, false, ℕ, ◌-◌, eqb, ltb, length, take}
use mathlib.Core.List.{List, [], ◌∷◌, ◌++◌, foldl}
use Rattle.base.specs.Choice.{pick}
use Rattle.wire.specs.Machine.{given, flat, keep}
use Rattle.wire.specs.Wire.{Entry, line, Delivery, one, all, say, Class, select, faulty, global, other, Item, byte, event, Parsed, refuse, accept, Grammar, fitted, Call, nobody, parse}
use Rattle.wire.specs.declared.Setup.{Setup}

-- what an accepted call adds to the stream; a refused call adds nothing
abbrev pub items : Parsed → List Item
items (refuse n) = []
items (accept used is) = is

-- the single stream of a list of calls: the serial bytes of accepted fields, with the other accepted fields in their
-- places among them
abbrev pub stream : Grammar → Setup → List Call → List Item
stream γ u calls = flat (λ c. items (parse γ u c)) calls

-- a line as typed
pub record TypedLine : Type 0 where
  pub kept : List ℕ
  pub spoiled : Bool

-- one more byte of a line, other than its CR: LF does nothing, a backspace removes the last kept character, and once 64
-- characters are kept a further byte is lost and spoils the line
abbrev pub typing : TypedLine → ℕ → TypedLine
typing t b =
    pick (eqb b 10) t
    (pick (eqb b 8) (record { kept = take (length t.kept - 1) t.kept; spoiled = t.spoiled })
    (pick (ltb (length t.kept) 64) (record { kept = t.kept ++ b ∷ []; spoiled = t.spoiled })
    (record { kept = t.kept; spoiled = true })))

-- the line that the bytes before its CR make
unfoldable pub typed : List ℕ → TypedLine
typed bytes = foldl typing (record { kept = []; spoiled = false }) bytes

-- one arrival in the stream: a line at its CR, or a field of another tag with its address
pub data Arrival : Type 0 where
  ended : TypedLine → Arrival
  came : ℕ → Entry → Arrival

-- FIRST PASS: the stream is divided into lines and other fields; `bytes` are those since the last CR
abbrev pub arrivals : List ℕ → List Item → List Arrival
arrivals bytes [] = []
arrivals bytes (event a e ∷ is) = came a e ∷ arrivals bytes is
arrivals bytes (byte b ∷ is) = pick (eqb b 13) (ended (typed bytes) ∷ arrivals [] is) (arrivals (bytes ++ b ∷ []) is)

module _ (u : Setup) where
  -- which slot is selected after a line: ADR selects the slot that it names, or nobody if that slot is empty; no other
  -- line changes the selection
  abbrev pub selected : ℕ → Class → ℕ
  selected sel (select a t) = pick (fitted u a) a nobody
  selected sel (faulty t) = sel
  selected sel global = sel
  selected sel other = sel

  -- who takes a line: nobody takes an ADR, even one in error, or an ill-formed global; every fitted slot takes a
  -- well-formed global; the selected slot, if there is one, takes any other line
  abbrev pub handed : ℕ → Entry → Class → List Delivery
  handed sel e (select a t) = []
  handed sel e (faulty t) = []
  handed sel e global = all e ∷ []
  handed sel e other = given (fitted u sel) (one sel e)

module _ (γ : Grammar) (u : Setup) where
  -- SECOND PASS: which slot is selected at each CR, and who takes the line
  abbrev pub routes : ℕ → List Arrival → List Delivery
  routes sel [] = []
  routes sel (came a e ∷ ps) = one a e ∷ routes sel ps
  routes sel (ended t ∷ ps) =
      let c = γ.class_of t.kept t.spoiled in
      handed u sel (line t.kept t.spoiled) c ++ routes (selected u sel c) ps

  -- what a list of calls brings to the supplies, in order; in a fresh rack nobody is selected
  unfoldable pub brought : List Call → List Delivery
  brought calls = routes nobody (arrivals [] (stream γ u calls))

-- what one address takes of that: its own entries, and whatever goes to every fitted slot
abbrev pub for_slot : Setup → ℕ → Delivery → List Entry
for_slot u a (one b e) = given (eqb a b) e
for_slot u a (all e) = given (fitted u a) e
for_slot u a (say t) = []

-- THIRD PASS: the share of an address
abbrev pub share_of : Grammar → Setup → List Call → ℕ → List Entry
share_of γ u calls a = flat (for_slot u a) (brought γ u calls)

-- the joint share of a group: the deliveries that touch it; a line for all supplies is a single delivery
abbrev pub joint_share : Grammar → Setup → List Call → (Delivery → Bool) → List Delivery
joint_share γ u calls touches = keep touches (brought γ u calls)
