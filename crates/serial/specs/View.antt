-- The code's line, seen through the definitions of the shared line.
use Rattle.std.specs.Prelude.{ℕ, ◌≤◌, ◌≡◌, List, Bool, eqb, length, take, Option, Some, None}
use Rattle.base.specs.Choice.{pick}
use Rattle.wire.specs.declared.Setup.{Setup}
use Rattle.wire.specs.Wire.{Wire, char_on, model_at}
use Rattle.serial.specs.declared.Line.{Line}
use Rattle.serial.specs.declared.Counted.{Counted}

-- the line built from its parts: the array of its characters, how many of them are kept, whether it is spoiled, and the
-- selected slot
abbrev pub line_of : List ℕ → ℕ → Bool → ℕ → Line
line_of kept count spoiled selected = record { kept = kept; count = count; spoiled = spoiled; selected = selected }

-- the kept characters are the first `count` of the array; the rest of the array is ignored
abbrev pub wire_of : Line → Wire
wire_of l = record { kept = take l.count l.kept; spoiled = l.spoiled; sel = l.selected }

-- a line with at most 64 characters, as in every rack reached by a fitting list and calls
abbrev pub Short : Line → Type 0
Short l = l.count ≤ 64

-- the line after a serial byte other than CR: it is the one of the definition, and still has at most 64 characters
pub record CharTaken (l : Line) (b : ℕ) (r : Line) : Type 0 where
  pub small : Short r
  pub is : wire_of r ≡ char_on (wire_of l) b

-- such a byte in the code, which keeps the characters in an array of 64, whichever slot is selected
pub record CharDoes (kept : List ℕ) (count : ℕ) (spoiled : Bool) (b : ℕ) (kept' : List ℕ) (r : Counted) : Type 0 where
  pub same : length kept' ≡ length kept
  pub typed :
      length kept ≡ 64 → (selected : ℕ) → Short (line_of kept count spoiled selected)
      → CharTaken (line_of kept count spoiled selected) b (line_of kept' r.count r.spoiled selected)

-- a model as the setup numbers it, where 255 is an empty slot; and the model of the supply at an address, if there is one
abbrev pub model_in : ℕ → Option ℕ
model_in m = pick (eqb m 255) None (Some m)

abbrev pub fitted_model : Setup → ℕ → Option ℕ
fitted_model u a = model_in (model_at u a)
