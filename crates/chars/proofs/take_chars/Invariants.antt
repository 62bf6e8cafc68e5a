-- after i cycles the first i bytes are characters, and taken
use Rattle.std.proofs.Common.{◌≡◌, ℕ, length}
use Rattle.serial.specs.View.{line_of, Short}
use Rattle.chars.specs.Chars.{Typing}
use Rattle.chars.proofs.take_chars.Given as goal

abbrev pub invariant-loop-i : goal.invariant-loop-i
invariant-loop-i l =
    record {
      same : length l.kept ≡ length l.initial.kept;
      typed : length l.initial.kept ≡ 64 → (a : ℕ) → Short (line_of l.initial.kept l.initial.count l.initial.spoiled a)
          → Typing (line_of l.initial.kept l.initial.count l.initial.spoiled a) l.p l.i (line_of l.kept l.count l.spoiled a);
    }
