-- The three queries print the readings, and whether the output is on, from which a cell is worked out.
use Prim.Native.Nat.{ℕ, ◌≤◌}
use mathlib.Core.Path.{◌≡◌, refl, sym}
use mathlib.Core.List.{[], ◌∷◌, ◌++◌}
use mathlib.Core.Bool.{Bool, true, false}
use native.Mathlib.Omega.{arith}
use lib.Dec.{lit<}
use Rattle.base.specs.Choice.{pick}
use Rattle.base.specs.Text.{codes}
use Rattle.figures.specs.Number.{first_at}
use Rattle.prints.proofs.RoundTrip.{read_short}
use Rattle.models.specs.Models.{volt_reading, amp_reading}
use Rattle.models.proofs.Rules.{volts_small, amps_small}
use Rattle.supply.specs.Flt.{on_of}
use Rattle.words.specs.Words.{find_word}
use Rattle.parameters.specs.Parameters.{parameter_of}
use Rattle.asks.specs.Words.{asked_by}
use Rattle.asks.specs.Asked.{asks_of}
use Rattle.command.specs.Lines.{heard_of}
use Rattle.answers.specs.Answers.{switch_of, answer_of}
use Rattle.texts.specs.Texts.{word_text, answer_text, ending}
use Rattle.reply.specs.Obeying.{said_of}
use Rattle.protocol.specs.Sent.{replied_to}
use Rattle.plain.specs.Plain.{reply_to}
use Rattle.wire.specs.Wire.{model_at}
use Rattle.slots.specs.declared.Rack.{Rack}
use Rattle.isolation.specs.Demand3.{supply_at}
use Rattle.resistance.specs.Cells.{cell_of}
use Rattle.resistance.proofs.Answers.{fitted_cell}
use Rattle.plotted.specs.Printed.{CountsFit, AsPrinted}

switch_printed : (on : Bool) → (word_text (switch_of on) ++ 13 ∷ []) ≡ pick on (codes "ON\r") (codes "OFF\r")
unfolding word_text
switch_printed true = refl
switch_printed false = refl

pub as_printed : (r : Rack) (a : ℕ) → a ≤ 30 → (model_at r.setup a ≡ 255 → ⊥) → CountsFit (supply_at r a)
    → AsPrinted r a (volt_reading (model_at r.setup a) (supply_at r a).volt_count)
    (amp_reading (model_at r.setup a) (supply_at r a).amp_count) (on_of (supply_at r a))
unfolding reply_to heard_of asks_of asked_by parameter_of find_word first_at replied_to said_of ending answer_of answer_text cell_of
as_printed r a h n fit =
    let m = model_at r.setup a in
    let s = supply_at r a in
    let ticks = volt_reading m s.volt_count in
    let ma = amp_reading m s.amp_count in
    record {
      mv = refl;
      mc = refl;
      out = switch_printed (on_of s);
      ticks_read = read_short 4 ticks (lit< tt) (omega (arith, volts_small m s.volt_count fit.0));
      ma_read = read_short 3 ma (lit< tt) (omega (arith, amps_small m s.amp_count fit.1));
      divided = sym (fitted_cell r a h n);
    }
