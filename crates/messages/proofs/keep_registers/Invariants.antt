-- the registers of the first i slots are kept
use Rattle.std.proofs.Common.{◌≡◌, ◌≤◌, length}
use Rattle.messages.proofs.Kept.{KeptTo}
use Rattle.messages.proofs.keep_registers.Given as goal

abbrev pub invariant-loop-i : goal.invariant-loop-i
invariant-loop-i l =
    record {
      inside : l.i ≤ 31;
      size : length l.kept ≡ length l.initial.kept;
      so_far : length l.initial.kept ≡ 62 → KeptTo l.i l.kept l.slots;
    }
