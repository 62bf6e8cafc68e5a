-- A FIELD THAT NAMES ITS ADDRESS, as a piece.
use Rattle.std.specs.Prelude.{ℕ, ◌≡◌, false, List, Result, Ok, Err, eqb, get_or}
use Rattle.base.specs.Choice.{pick}
use Rattle.wire.specs.declared.Setup.{Setup}
use Rattle.wire.specs.Wire.{model_at}
use Rattle.supply.specs.declared.Supply.{Supply}
use Rattle.supply.specs.declared.Order.TheVariants.{Cls}
use Rattle.supply.specs.declared.Act.TheVariants.{Sample}
use Rattle.acts.specs.Acts.{performed}
use Rattle.field.specs.Fields.{pair_at, is_sample}
use Rattle.field.specs.declared.Refusal.{Refusal}
use Rattle.field.specs.Refusals.{refusal_number}
use Rattle.serial.specs.declared.Line.{Line}
use Rattle.addressed.specs.declared.Evented.{Evented}
use Rattle.addressed.specs.Pieces.{After, refused_as, is_serial, PieceDoes}

-- the model of the supply that a sample names; 255 if the next piece is not a sample, or if there is no supply at that
-- address
abbrev pub sample_model : Setup → List ℕ → ℕ → ℕ
sample_model u s left = pick (eqb left 0) (pick (is_sample s) (model_at u (get_or s 3 0)) 255) 255

-- a sample is a piece that leaves the line and the buffer as they are
abbrev pub sample_as : Setup → Line → Supply → ℕ → List ℕ → After
sample_as u l x at s =
    record {
      line = l;
      supply = performed (model_at u (get_or s 3 0)) x (Sample (pair_at s 4) (pair_at s 6));
      next = at;
      used = 8;
      left = 0;
      code = 0;
      all = false;
      order = Cls;
    }

-- and so is every other field that is not serial; a refused one leaves the supply x too
abbrev pub event_as : Line → Supply → ℕ → Result Evented Refusal → After
event_as l x at (Ok e) =
    record { line = l; supply = e.supply; next = at; used = e.used; left = 0; code = 0; all = false; order = Cls }
event_as l x at (Err e) = refused_as l x at (refusal_number e)

abbrev pub EventDoes : Setup → Supply → List ℕ → Result Evented Refusal → Type 0
EventDoes u x s e =
    (left : ℕ) → is_serial s left ≡ false → (l : Line) (b : List ℕ) (at : ℕ)
    → PieceDoes u l x (get_or s 3 0) s left (event_as l x at e) b at b
