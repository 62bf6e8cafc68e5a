-- THE SAME LIST AT ANOTHER ADDRESS: a cell run with knob, keys and samples, in slot 6 of one rack and in slot 9 of
-- another.
use Rattle.std.specs.Prelude.{ℕ, ◌/◌, ◌%◌, ◌≡◌, List, [], ◌∷◌, ◌++◌, true, false, replicate}
use Rattle.wire.specs.Wire.{Call}
use Rattle.wire.specs.Share.{share_of}
use Rattle.supply.specs.declared.Supply.{Supply}
use Rattle.plain.specs.Plain.{grammar}
use Rattle.slots.specs.declared.Rack.{Rack}
use Rattle.isolation.specs.Demand3.{Run, setup_of, supply_at}
use Rattle.example.specs.Worked.{fitting_list, serial, sample, key}

-- a field of tag 3 with a step below 65,536
abbrev pub knob : ℕ → ℕ → ℕ → Call
knob a t d = record { bytes = 3 ∷ 0 ∷ 6 ∷ a ∷ t ∷ 0 ∷ 0 ∷ d / 256 ∷ d % 256 ∷ []; room = 512 }

-- slot 6: PV turned to 5 V and PC to 10 A, foldback armed, the output on. The cell draws 10 A while it charges, then less,
-- then 10 A again, which trips; turned on again, it charges again. Meanwhile the neighbour is in use too.
unfoldable pub here : List Call
here =
    knob 6 0 50000 ∷ key 9 0 ∷ knob 6 1 10000 ∷ key 6 1 ∷ serial "ADR 9\rPV 3\r" ∷ key 6 0 ∷
    sample 6 20000 5000 ∷ sample 6 40000 4999 ∷ sample 6 40000 5000 ∷ key 6 0 ∷ sample 6 20000 5000 ∷
    serial "ADR 6\rFLT?\r" ∷ []

-- slot 9 of a rack with no other supply
unfoldable pub list_there : List ℕ
list_there = replicate 9 255 ++ 0 ∷ replicate 21 255

unfoldable pub there : List Call
there =
    serial "ADR 9\r" ∷ knob 9 0 50000 ∷ knob 9 1 10000 ∷ key 9 1 ∷
    key 9 0 ∷ sample 9 20000 5000 ∷ sample 9 40000 4999 ∷ sample 9 40000 5000 ∷ key 9 0 ∷ sample 9 20000 5000 ∷
    serial "FLT?\r" ∷ []

-- both end with the output on, no trip and the CV memory clear, in local mode. Without the trip the last key would have
-- turned the output off, and a trip at the first sample, or at the last, would show.
unfoldable pub charging_again : Supply
charging_again =
    record {
      pv = 50000;
      pc = 10000;
      ovp = 75000;
      uvl = 0;
      want = true;
      armed = true;
      ast = false;
      mode = 0;
      lines = 0;
      fold_trip = false;
      ovp_trip = false;
      fena = 0;
      feve = 0;
      sena = 0;
      seve = 0;
      cv_seen = false;
      volt_count = 20000;
      amp_count = 5000;
    }

pub record MovedRun : Type 0 where
  -- the shares differ as lists of entries, since each field contains its own address
  pub shares_differ : share_of grammar (setup_of fitting_list) here 6 ≡ share_of grammar (setup_of list_there) there 9 → ⊥
  -- there are such runs; they end alike, in this state
  pub runs_here : (r : Rack) × Run (setup_of fitting_list) here r
  pub runs_there : (r : Rack) × Run (setup_of list_there) there r
  pub repeated : (r r₂ : Rack) → Run (setup_of fitting_list) here r → Run (setup_of list_there) there r₂
      → supply_at r 6 ≡ supply_at r₂ 9
  pub ends_as : (r : Rack) → Run (setup_of fitting_list) here r → supply_at r 6 ≡ charging_again
