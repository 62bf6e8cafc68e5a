-- A LIST OF CALLS AND ITS WHOLE OUTCOME: a cell of model 0 in slot 6 trips, and its neighbour, a model 3 in slot 9,
-- goes on.
use Rattle.std.specs.Prelude.{ℕ, ◌/◌, ◌%◌, ◌≡◌, List, [], ◌∷◌, ◌++◌, true, false, length, replicate}
use Prim.Native.String.{String}
use Rattle.base.specs.Text.{codes}
use Rattle.wire.specs.Wire.{Entry, field, line, Call}
use Rattle.wire.specs.Share.{share_of}
use Rattle.wire.specs.Rack.{CallResult, refused, done, call_of, after, fresh_rack}
use Rattle.wire.specs.Rack as wire
use Rattle.supply.specs.declared.Supply.{Supply}
use Rattle.supply.specs.Flt.{on_of}
use Rattle.plain.specs.Plain.{plain_supply, grammar}
use Rattle.slots.specs.declared.Rack.{Rack}
use Rattle.isolation.specs.Demand3.{Run, setup_of, supply_at}

unfoldable pub fitting_list : List ℕ
fitting_list = replicate 6 255 ++ 0 ∷ 255 ∷ 255 ∷ 3 ∷ replicate 21 255

-- fields of tags 1, 2, 4 and 5, with a reply buffer of 512 bytes
abbrev pub serial : String → Call
serial t = record { bytes = 1 ∷ 0 ∷ length (codes t) ∷ codes t; room = 512 }

abbrev pub key : ℕ → ℕ → Call
key a k = record { bytes = 2 ∷ 0 ∷ 2 ∷ a ∷ k ∷ []; room = 512 }

abbrev pub lines : ℕ → ℕ → Call
lines a b = record { bytes = 4 ∷ 0 ∷ 2 ∷ a ∷ b ∷ []; room = 512 }

abbrev pub sample : ℕ → ℕ → ℕ → Call
sample a v i = record { bytes = 5 ∷ 0 ∷ 5 ∷ a ∷ v / 256 ∷ v % 256 ∷ i / 256 ∷ i % 256 ∷ []; room = 512 }

-- Up to the trip: ADR comes in two fields, and between them a call that is refused for its buffer. FENA enables AC,
-- both trips and WANT off, SENA enables CV, CC and local mode; unlike PV, both survive RST. Later comes a call of two
-- bytes.
unfoldable pub tripping : List Call
tripping =
    serial "ADR" ∷ record { bytes = (serial " 9\r").bytes; room = 511 } ∷ serial " 6\rFENA 5A\r" ∷
    serial "SENA F3\r" ∷ serial "PV 4\rRST\rPV?\r" ∷ serial "PV 5\rOVP 5.5\r" ∷ serial "OUT 1\rFENA?\r" ∷
    sample 6 45833 0 ∷ record { bytes = 1 ∷ 0 ∷ []; room = 512 } ∷
    sample 6 45834 0 ∷ []

-- Tripped and not released: OUT 0; LINES with a bit that does not exist, SO rising, an OUT 1 that SO forbids, SO
-- falling with auto start off; the OUTPUT key in remote mode. Then a sample for an empty slot, and the neighbour's
-- lines: among them a global and an ADR in error, which go to nobody; a global that the neighbour accepts and slot 6
-- refuses; and one with a wrong checksum, which goes to the neighbour alone.
unfoldable pub tripped : List Call
tripped =
    serial "OUT 0\rFLT?\r" ∷ lines 6 1 ∷ lines 6 32 ∷ serial "OUT 1\rFLT?\r" ∷ lines 6 0 ∷ key 6 0 ∷
    sample 7 45834 0 ∷
    serial "ADR 9\rPV 10\r" ∷ serial "GPV x\rADR 31\r" ∷ serial "OUT 1\rGPV 5.3\r" ∷ sample 9 20000 0 ∷
    serial "GPV 6$00\rPV?\r" ∷ []

-- the release; a query with its checksum; FEVE, read once; the keys LOCAL and FOLD; and SEVE
unfoldable pub released : List Call
released =
    serial "ADR 6\rOUT 1\r" ∷ serial "FLT?$25\rPV?\r" ∷ serial "FEVE?\rFEVE?\r" ∷
    key 6 2 ∷ key 6 1 ∷ serial "FLD?\rRMT?\r" ∷ serial "SEVE?\rSENA?\r" ∷ []

unfoldable pub calls : List Call
calls = tripping ++ tripped ++ released

-- the same chemist in a rack of one supply, with the lines split into fields differently
unfoldable pub list_alone : List ℕ
list_alone = replicate 6 255 ++ 0 ∷ replicate 24 255

unfoldable pub alone : List Call
alone =
    serial "ADR 6\rFENA 5A\r" ∷ serial "SENA F3\r" ∷
    serial "PV 4\rRST\rPV?\rPV" ∷ serial " 5\rOVP 5.5\rOUT " ∷ serial "1\rFENA?\r" ∷
    sample 6 45833 0 ∷ sample 6 45834 0 ∷
    serial "OUT 0\rFLT?\r" ∷ lines 6 32 ∷ serial "OUT 1\rFLT?\r" ∷ lines 6 0 ∷ key 6 0 ∷ serial "GPV 5.3\r" ∷
    serial "OUT 1\rFLT?$25\r" ∷ serial "PV?\rFEVE?\rFEVE?\r" ∷ key 6 2 ∷ key 6 1 ∷ serial "FLD?\rRMT?\rSEV" ∷
    serial "E?\rSENA?\r" ∷ []

-- the outcome of a call: the number of its refusal; or the bytes used and the reply
pub data Came : Type 0 where
  no : ℕ → Came
  yes : ℕ → List ℕ → Came

abbrev pub came_of : CallResult Supply → Came
came_of (refused n) = no n
came_of (done r used t) = yes used t

abbrev pub answers : wire.Rack Supply → List Call → List Came
answers r [] = []
answers r (c ∷ cs) = came_of (call_of plain_supply r c) ∷ answers (after plain_supply r (call_of plain_supply r c)) cs

unfoldable pub worked_answers : List Came
worked_answers =
    yes 6 [] ∷ no 1 ∷ yes 14 (codes "OK\rOK\r") ∷
    yes 11 (codes "OK\r") ∷ yes 16 (codes "OK\rOK\r0.0000\r") ∷ yes 16 (codes "OK\rOK\r") ∷
    yes 15 (codes "OK\r5A\r!06\r") ∷
    yes 8 [] ∷ no 2 ∷
    yes 8 (codes "!06\r") ∷
    yes 14 (codes "OK\r50\r") ∷ no 7 ∷ yes 5 [] ∷ yes 14 (codes "E07\r70\r") ∷ yes 5 [] ∷ yes 5 [] ∷ no 6 ∷
    yes 15 (codes "OK\rOK\r") ∷ yes 16 (codes "C05\r") ∷ yes 17 (codes "OK\r") ∷ yes 8 [] ∷
    yes 16 (codes "C04\r5.3000\r") ∷
    yes 15 (codes "OK\rOK\r") ∷ yes 15 (codes "00$60\r5.0000\r") ∷ yes 15 (codes "50\r00\r") ∷
    yes 5 [] ∷ yes 5 [] ∷ yes 13 (codes "ON\rLOC\r") ∷ yes 15 (codes "82\r83\r") ∷ []

abbrev pub line_entry : String → Entry
line_entry t = line (codes t) false

-- the share of slot 6 up to the trip, from there to the release, and from there on
unfoldable pub share_tripping : List Entry
share_tripping =
    line_entry "FENA 5A" ∷ line_entry "SENA F3" ∷ line_entry "PV 4" ∷ line_entry "RST" ∷ line_entry "PV?" ∷
    line_entry "PV 5" ∷ line_entry "OVP 5.5" ∷ line_entry "OUT 1" ∷ line_entry "FENA?" ∷
    field 5 (6 ∷ 179 ∷ 9 ∷ 0 ∷ 0 ∷ []) ∷ field 5 (6 ∷ 179 ∷ 10 ∷ 0 ∷ 0 ∷ []) ∷ []

unfoldable pub share_tripped : List Entry
share_tripped =
    line_entry "OUT 0" ∷ line_entry "FLT?" ∷ field 4 (6 ∷ 32 ∷ []) ∷ line_entry "OUT 1" ∷ line_entry "FLT?" ∷
    field 4 (6 ∷ 0 ∷ []) ∷
    field 2 (6 ∷ 0 ∷ []) ∷ line_entry "GPV 5.3" ∷ []

unfoldable pub share_released : List Entry
share_released =
    line_entry "OUT 1" ∷ line_entry "FLT?$25" ∷ line_entry "PV?" ∷ line_entry "FEVE?" ∷ line_entry "FEVE?" ∷
    field 2 (6 ∷ 2 ∷ []) ∷ field 2 (6 ∷ 1 ∷ []) ∷ line_entry "FLD?" ∷ line_entry "RMT?" ∷
    line_entry "SEVE?" ∷ line_entry "SENA?" ∷ []

-- and the neighbour's share up to the release: neither the ill-formed global nor the ADR in error is in it, although
-- the neighbour was selected
unfoldable pub share_neighbour : List Entry
share_neighbour =
    line_entry "PV 10" ∷ line_entry "OUT 1" ∷ line_entry "GPV 5.3" ∷ field 5 (9 ∷ 78 ∷ 32 ∷ 0 ∷ 0 ∷ []) ∷
    line_entry "GPV 6$00" ∷ line_entry "PV?" ∷ []

-- slot 6 at the end: the setting that the global did not change, the output ordered on, no trip, foldback armed and the
-- panel in control; the enabled faults and status bits, no events after they were read, and the last counts
unfoldable pub end_state : Supply
end_state =
    record {
      pv = 50000;
      pc = 0;
      ovp = 55000;
      uvl = 0;
      want = true;
      armed = true;
      ast = false;
      mode = 0;
      lines = 0;
      fold_trip = false;
      ovp_trip = false;
      fena = 0x5A;
      feve = 0;
      sena = 0x83;
      seve = 0;
      cv_seen = false;
      volt_count = 45834;
      amp_count = 0;
    }

-- THE WHOLE OUTCOME
pub record WorkedOut : Type 0 where
  -- what each call returns: slot 6 sends its message when its output comes on in CC, and again when it trips
  pub answers_are : answers (fresh_rack plain_supply (setup_of fitting_list)) calls ≡ worked_answers
  -- the share of slot 6, with trip and release in their places; and the neighbour's, up to the release
  pub share_is : share_of grammar (setup_of fitting_list) calls 6 ≡ share_tripping ++ share_tripped ++ share_released
  pub share_beside : share_of grammar (setup_of fitting_list) (tripping ++ tripped) 9 ≡ share_neighbour
  -- there is such a run; every such run leaves the supply of slot 6 in this state, with its output on
  pub there_is_one : (r : Rack) × Run (setup_of fitting_list) calls r
  pub ends_as : (r : Rack) → Run (setup_of fitting_list) calls r → supply_at r 6 ≡ end_state
  pub ends_on : on_of end_state ≡ true
  -- up to the release slot 6 is off, whatever comes meanwhile, and the neighbour is on, with the PV that the global
  -- gave it
  pub stays_off : (r : Rack) → Run (setup_of fitting_list) (tripping ++ tripped) r → on_of (supply_at r 6) ≡ false
  pub neighbour_runs :
      (r : Rack) → Run (setup_of fitting_list) (tripping ++ tripped) r
      → (on_of (supply_at r 9) ≡ true) × ((supply_at r 9).pv ≡ 53000)
  -- the chemist alone, in another rack, ends in the same state
  pub repeated :
      (r r₂ : Rack) → Run (setup_of fitting_list) calls r → Run (setup_of list_alone) alone r₂
      → supply_at r 6 ≡ supply_at r₂ 6
