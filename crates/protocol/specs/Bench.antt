-- The ten bench figures: sequences of lines, samples and knob steps on a fresh supply, and the replies they draw.
use Rattle.std.specs.Prelude.{ℕ, ◌≡◌, List, [], ◌∷◌, ◌++◌, map, false}
use Prim.Native.String.{String}
use Rattle.base.specs.Text.{codes}
use Rattle.supply.specs.declared.Supply.{Supply}
use Rattle.supply.specs.declared.Target.{Target}
use Rattle.supply.specs.declared.Target.TheVariants.{Pv, Pc}
use Rattle.supply.specs.declared.Act.TheVariants.{Sample, Turn}
use Rattle.supply.specs.State.{fresh}
use Rattle.acts.specs.Acts.{performed}
use Rattle.command.specs.Lines.{heard_of}
use Rattle.protocol.specs.Sent.{obeyed, replied_to}

pub data Input : Type 0 where
  line : String → Input
  counts : ℕ → ℕ → Input
  step : Target → ℕ → Input

-- the replies to the lines among the inputs, each with its CR
abbrev pub replies_on : ℕ → Supply → List Input → List (List ℕ)
replies_on m s [] = []
replies_on m s (line t ∷ is) =
    replied_to m s (heard_of (codes t) false).asks (heard_of (codes t) false).checksummed
    ∷ replies_on m (obeyed m s (heard_of (codes t) false).asks) is
replies_on m s (counts v a ∷ is) = replies_on m (performed m s (Sample v a)) is
replies_on m s (step t raw ∷ is) = replies_on m (performed m s (Turn t raw)) is

pub record BenchFigure : Type 0 where
  pub model : ℕ
  pub inputs : List Input
  pub replies : List String

abbrev pub drawn : BenchFigure → List (List ℕ)
drawn f = replies_on f.model (fresh f.model) f.inputs

abbrev pub expected : BenchFigure → List (List ℕ)
expected f = map (λ (t : String). codes t ++ (13 ∷ [])) f.replies

abbrev pub bench_figure : ℕ → List Input → List String → BenchFigure
bench_figure m is rs = record { model = m; inputs = is; replies = rs }

unfoldable pub bench_figures : List BenchFigure
bench_figures =
    bench_figure 0 (line "PV 6.3" ∷ line "PV 6.3001" ∷ []) ("OK" ∷ "C05" ∷ []) ∷
    bench_figure 6 (line "PV 62.8571" ∷ line "PV 62.8572" ∷ []) ("OK" ∷ "E01" ∷ []) ∷
    bench_figure 3
    (line "PV 10" ∷ line "UVL 9.5001" ∷ line "UVL 9.5" ∷ line "PV 9.9999" ∷ [])
    ("OK" ∷ "E06" ∷ "OK" ∷ "E02" ∷ []) ∷
    bench_figure 3 (line "PV 10" ∷ line "OVP 10.4999" ∷ line "OVP 10.5" ∷ []) ("OK" ∷ "E04" ∷ "OK" ∷ []) ∷
    bench_figure 2
    (line "PV 12.5" ∷ line "UVL 11.9" ∷ line "PV 13" ∷ line "UVL 11.9" ∷ line "UVL 11.9001" ∷ [])
    ("OK" ∷ "E06" ∷ "OK" ∷ "OK" ∷ "C05" ∷ []) ∷
    bench_figure 11 (counts 65535 0 ∷ line "MV?" ∷ []) ("786.4200" ∷ []) ∷
    bench_figure 0 (counts 65535 0 ∷ line "MV?" ∷ []) ("7.8642" ∷ []) ∷
    bench_figure 0 (line "PV 5.00009" ∷ line "PV?" ∷ []) ("OK" ∷ "5.0001" ∷ []) ∷
    bench_figure 0 (line "PV?$E5" ∷ []) ("0.0000$1E" ∷ []) ∷
    bench_figure 6 (step Pv 6000000 ∷ line "PV?" ∷ []) ("62.8571" ∷ []) ∷
    bench_figure 0
    (line "PV 5" ∷ line "PC 10" ∷ line "OVP 5.5" ∷ line "OUT 1" ∷
    counts 45833 0 ∷ line "FLT?" ∷
    counts 45834 0 ∷ line "FLT?" ∷
    line "OUT 0" ∷ line "FLT?" ∷ line "OUT 1" ∷ line "FLT?" ∷ [])
    ("OK" ∷ "OK" ∷ "OK" ∷ "OK" ∷ "00" ∷ "10" ∷ "OK" ∷ "50" ∷ "OK" ∷ "00" ∷ []) ∷
    []

-- THE TEN BENCH FIGURES, byte for byte
abbrev pub BenchFigures : Type 0
BenchFigures = map drawn bench_figures ≡ map expected bench_figures

-- and those that the request to round entries gives with the new seventh: a tie at the limit, and a number beyond it
unfoldable pub rounded_figures : List BenchFigure
rounded_figures =
    bench_figure 0 (line "PV 6.30005" ∷ line "PV?" ∷ []) ("OK" ∷ "6.3000" ∷ []) ∷
    bench_figure 0 (line "PV 6.30015" ∷ []) ("C05" ∷ []) ∷
    []

abbrev pub RoundedFigures : Type 0
RoundedFigures = map drawn rounded_figures ≡ map expected rounded_figures

-- a cell that starts in current limit, as it charges: no trip; its current falls below PC, which is remembered; it rises
-- to PC again: FOLD trips; turned on again, the cell may charge again
unfoldable pub charging_cell : BenchFigure
charging_cell =
    bench_figure 0
    (step Pc 10000 ∷ line "PV 5" ∷ line "FLD 1" ∷ line "OUT 1" ∷
    counts 20000 5000 ∷ line "MODE?" ∷ line "FLT?" ∷
    counts 40000 4999 ∷ line "MODE?" ∷ line "FLT?" ∷
    counts 40000 5000 ∷ line "MODE?" ∷ line "FLT?" ∷
    line "OUT 1" ∷ counts 20000 5000 ∷ line "MODE?" ∷ line "FLT?" ∷ [])
    ("OK" ∷ "OK" ∷ "OK" ∷ "CC" ∷ "00" ∷ "CV" ∷ "00" ∷ "OFF" ∷ "08" ∷ "OK" ∷ "CC" ∷ "00" ∷ [])

abbrev pub ChargingCell : Type 0
ChargingCell = drawn charging_cell ≡ expected charging_cell
