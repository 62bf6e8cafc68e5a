-- THE CHARACTERS OF A LINE up to its CR, and the LF after it.
use Rattle.std.specs.Prelude.{ℕ, ◌+◌, ◌*◌, ◌≤◌, ◌<◌, ◌≡◌, ◌⊎◌, Bool, List, map, length, get_or, take}
use Rattle.wire.specs.declared.Setup.{Setup}
use Rattle.wire.specs.Wire.{Grammar, byte, quiet, scan}
use Rattle.protocol.specs.SentBack.{rate}
use Rattle.serial.specs.declared.Line.{Line}
use Rattle.serial.specs.View.{line_of, wire_of, Short}
use Rattle.slots.specs.View.{due}
use Rattle.chars.specs.declared.Advance.{Advance}

-- n characters and no CR: no line ends, the same slot stays selected, and what the line may draw grows by at most the
-- rate for each character
pub record Typing (l : Line) (p : List ℕ) (n : ℕ) (r : Line) : Type 0 where
  pub small : Short r
  pub selects : r.selected ≡ l.selected
  pub scans : (γ : Grammar) (u : Setup) → scan γ u (wire_of l) (map byte (take n p)) ≡ quiet (wire_of r)
  pub grows : due (wire_of r) ≤ due (wire_of l) + rate * n

-- all bytes before the first CR
pub record CharsTaken (l : Line) (p : List ℕ) (n : ℕ) (r : Line) : Type 0 where
  pub within : n ≤ length p
  pub stops : n < length p → get_or p n 0 ≡ 13
  pub typed : length l.kept ≡ 64 → Short l → Typing l p n r

-- the same in the code, whichever slot is selected
pub record CharsDo (kept : List ℕ) (count : ℕ) (spoiled : Bool) (p kept' : List ℕ) (r : Advance) : Type 0 where
  pub same : length kept' ≡ length kept
  pub chars :
      (selected : ℕ)
      → CharsTaken (line_of kept count spoiled selected) p r.next (line_of kept' r.count r.spoiled selected)

-- skips an LF at index i, and nothing else
abbrev pub FeedDoes : List ℕ → ℕ → ℕ → Type 0
FeedDoes p i r = ((r ≡ i) × (i < length p → get_or p i 0 ≡ 10 → ⊥)) ⊎ ((r ≡ i + 1) × (i < length p) × (get_or p i 0 ≡ 10))
