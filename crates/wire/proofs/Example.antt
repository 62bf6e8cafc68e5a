-- The definitions computed on one list of calls, with a toy supply and a toy grammar: shares, final states, replies, a
-- trip.
use mathlib.Core.Path.{◌≡◌, refl, sym}
use mathlib.Core.Bool.{Bool, true, false, not, ◌&&◌, ◌||◌}
use mathlib.Core.List.{List, [], ◌∷◌, ◌++◌, map, append-nil}
use Prim.Native.Nat.{ℕ, ◌-◌, ◌+◌, ◌≤◌}
use native.Mathlib.Omega.{arith}
use lib.Dec.{eqb, ltb}
use lib.ListN.{length, get_or, take, drop, replicate}
use Rattle.base.specs.Choice.{pick, bit}
use Rattle.base.proofs.Choice.{bit_small}
use Rattle.base.specs.Text.{codes}
use Rattle.wire.specs.Wire.{Entry, field, line, Class, select, faulty, global, other, byte, event, Parsed, refuse, accept, Grammar, Call, model_at, parse, char_on, byte_on}
use Rattle.wire.specs.Share.{typed, brought, share_of}
use Rattle.wire.specs.Rack.{Plain, CallResult, refused, done, call_of, run, slot}
use Rattle.wire.specs.Laws.{Trips, Laws}
use Rattle.wire.specs.Demand3.{TrippedBy}
use Rattle.wire.specs.declared.Setup.{Setup}
use Rattle.wire.proofs.Demand3.{demand3}

-- THE TOY: one trip, which stands for both; how many fields it has taken; how many entries in all, counted up from the
-- model number
record Toy : Type 0 where
  trip : Bool
  fields : ℕ
  entries : ℕ

is_field : Entry → Bool
is_field (field t p) = true
is_field (line k s) = false

-- "X.." trips, and so does a field whose second byte is 1; "R.." releases; a spoiled line does neither
trips : Entry → Bool
trips (field t p) = eqb (get_or p 1 0) 1
trips (line k s) = not s && eqb (get_or k 0 0) 88

frees : Entry → Bool
frees (field t p) = false
frees (line k s) = not s && eqb (get_or k 0 0) 82

-- "A" and a digit selects, any other "A.." is in error; "G.." is global, "G" alone is ill-formed; any other line, and
-- every spoiled one, is `other`
class : List ℕ → Bool → Class
class k s =
    pick s other
    (pick (eqb (get_or k 0 0) 65) (pick (eqb (length k) 2) (select (get_or k 1 0 - 48) (codes "OK\r")) (faulty (codes "C02\r")))
    (pick (eqb (get_or k 0 0) 71) (pick (eqb (length k) 1) (faulty []) global) other))

-- tag 1 and serial bytes; or tag 4, an address and a byte
reading : (ℕ → Bool) → List ℕ → Parsed
reading fits bs =
    pick (ltb (length bs) 2) (refuse 2)
    (pick (eqb (get_or bs 0 0) 1) (accept (length bs) (map byte (drop 1 bs)))
    (pick (not (eqb (get_or bs 0 0) 4)) (refuse 3)
    (pick (not (fits (get_or bs 1 0))) (refuse 6) (accept 3 (event (get_or bs 1 0) (field 4 (take 2 (drop 1 bs))) ∷ [])))))

grammar : Grammar
grammar = record { class_of = class; least = 8; read = reading }

abbrev toy : Plain
toy =
    record {
      State = Toy;
      step = λ m s e. record { trip = not (frees e) && (s.trip || trips e); fields = s.fields + bit (is_field e); entries = s.entries + 1 };
      reply = λ m s e. pick s.trip (codes "off\r") (codes "on\r");
      fresh = λ m. record { trip = false; fields = 0; entries = m };
      grammar = grammar;
      rings = λ s t. not s.trip && t.trip;
    }

-- a model 3 in slot 0, a model 5 in slot 2, all others empty
setup : Setup
setup = record { models = 3 ∷ 255 ∷ 5 ∷ replicate 28 255 }

serial : List ℕ → Call
serial bs = record { bytes = 1 ∷ bs; room = 8 }

list : List Call
list =
    -- ADR over two fields, and between them a call that is refused for its buffer
    serial (codes "A") ∷ record { bytes = 1 ∷ codes "9"; room = 7 } ∷ serial (codes "2\rX")
    -- bad bytes; then a backspace, an LF and the CR of "X"
    ∷ record { bytes = []; room = 9 } ∷ record { bytes = 7 ∷ 0 ∷ []; room = 9 } ∷ serial (codes "Y\u{8}\n\r")
    -- a field of another tag within a line, and one to the empty slot
    ∷ serial (codes "G") ∷ record { bytes = 4 ∷ 0 ∷ 1 ∷ []; room = 8 } ∷ record { bytes = 4 ∷ 1 ∷ 1 ∷ []; room = 8 }
    -- a global, and an ill-formed one
    ∷ serial (codes "1\rG\r")
    -- a line of 65 characters
    ∷ serial (codes "R" ++ replicate 60 46) ∷ serial (replicate 4 46 ++ codes "\r")
    -- an ADR in error; an empty slot selected, and a line with nobody selected
    ∷ serial (codes "A\rA1\rR\r")
    ∷ serial (codes "A0\rR\r")
    ∷ []

share_0 : share_of grammar setup list 0 ≡ field 4 (0 ∷ 1 ∷ []) ∷ line (codes "G1") false ∷ line (codes "R") false ∷ []
unfolding brought typed parse setup list serial grammar class reading
share_0 = refl

share_1 : share_of grammar setup list 1 ≡ []
unfolding brought typed parse setup list serial grammar class reading
share_1 = refl

share_2 : share_of grammar setup list 2 ≡ line (codes "X") false ∷ line (codes "G1") false ∷ line (codes "R" ++ replicate 63 46) true ∷ []
unfolding brought typed parse setup list serial grammar class reading
share_2 = refl

slot_0 : slot toy (run toy setup list) 0 ≡ record { trip = false; fields = 1; entries = 6 }
unfolding call_of parse byte_on char_on setup list serial grammar class reading is_field trips frees
slot_0 = refl

slot_2 : slot toy (run toy setup list) 2 ≡ record { trip = true; fields = 0; entries = 8 }
unfolding call_of parse byte_on char_on setup list serial grammar class reading is_field trips frees
slot_2 = refl

-- each call of the list: 0, or the number of its refusal
number : Parsed → ℕ
number (refuse n) = n
number (accept used is) = 0

numbers : map (λ c. number (parse grammar setup c)) list ≡ 0 ∷ 1 ∷ 0 ∷ 2 ∷ 3 ∷ 0 ∷ 0 ∷ 0 ∷ 6 ∷ 0 ∷ 0 ∷ 0 ∷ 0 ∷ 0 ∷ []
unfolding number parse setup list serial grammar reading
numbers = refl

-- what one more call returns: the bytes used, and the ADR's reply before that of the supply, which is tripped
told : CallResult Toy → List ℕ
told (refused n) = []
told (done r used t) = used ∷ t

answer : told (call_of toy (run toy setup list) (serial (codes "A2\rX\r"))) ≡ 6 ∷ codes "OK\roff\r"
unfolding told call_of parse byte_on char_on setup list serial grammar class reading is_field trips frees
answer = refl

-- and what a field draws that trips the supply: its message comes after both replies
message : told (call_of toy (run toy setup []) (serial (codes "A2\rX\r"))) ≡ 6 ∷ codes "OK\ron\r!02\r"
unfolding told call_of parse byte_on char_on setup serial grammar class reading is_field trips frees
message = refl

-- and one that trips the supplies at 12 and then at 2: the lower address sends first, each in two digits
abbrev wide : Setup
wide = record { models = 3 ∷ 255 ∷ 5 ∷ replicate 9 255 ++ 4 ∷ replicate 18 255 }

two_messages : told (call_of toy (run toy wide []) (serial (codes "A<\rX\rA2\rX\r"))) ≡ 11 ∷ codes "OK\ron\rOK\ron\r!02\r!12\r"
unfolding told call_of parse byte_on char_on serial grammar class reading is_field trips frees
two_messages = refl

-- what counts is the supply before and after the whole field: one that trips and is released within it sends nothing
no_message : told (call_of toy (run toy setup []) (serial (codes "A2\rX\rR\r"))) ≡ 8 ∷ codes "OK\ron\roff\r"
unfolding told call_of parse byte_on char_on setup serial grammar class reading is_field trips frees
no_message = refl

data Kind : Type 0 where
  over : Kind

-- THE THEOREM, applied to the toy: its trips, the invariant of its states, its laws
abbrev trip : Trips toy
trip = record { Trip = Kind; is_set = λ k s. s.trip; is_on = λ s. not s.trip; releases = λ m k s e. frees e }

within : ℕ → Toy → Type 0
within m s = s.fields ≤ s.entries

laws : (m : ℕ) → Laws toy trip within m
unfolding within
laws m =
    record {
      starts = omega arith;
      keeps = λ s e h. omega (arith, bit_small (is_field e));
      shut = λ k s h. rw h;
      held = λ k s e h q. rw (q, h);
      frees = λ k s e q. rw q;
    }

-- slot 2 is tripped by its first entry; the global and the spoiled line after it are not releases
tripped_2 : TrippedBy toy trip 5 over (share_of grammar setup list 2)
unfolding trips frees
tripped_2 =
    record {
      before = [];
      entry = line (codes "X") false;
      mid = line (codes "G1") false ∷ line (codes "R" ++ replicate 63 46) true ∷ [];
      splits = share_2;
      trips = refl;
      unreleased = refl;
    }

off_2 : trip.is_on (slot toy (run toy setup list) 2) ≡ false
unfolding setup
off_2 = (demand3 toy trip within setup (λ a f. laws (model_at setup a)) list 2 refl).calls_off over list [] (sym (append-nil list)) tripped_2
