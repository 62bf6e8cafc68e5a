-- What a read leaves after the kept bytes, and the number at the end.
use Prim.Native.Nat.{ℕ, ◌-◌, ◌≤◌}
use mathlib.Core.Path.{◌≡◌, refl, ap, ◌∙◌}
use mathlib.Core.Bool.{Bool, true, false, not, ◌&&◌}
use mathlib.Core.List.{List}
use native.Mathlib.Omega.{arith}
use lib.Dec.{ltb}
use lib.ListN.{length, take}
use lib.Seq.{take-take}
use borrow.Author.Tests.{le-ltb}
use Rattle.buffers.specs.Kept.{Kept}
use Rattle.buffers.proofs.Kept.{kept_part}
use Rattle.stream.specs.declared.Block.{Block}
use Rattle.stream.specs.Stream.{unworked, Refilled, told}

pub read_behind : (room mid after : List ℕ) (b : Block) (k end : ℕ) (failed : Bool) → Kept room b.from b.end k mid → take k after ≡ take k mid → k ≤ end → end ≤ length after → (failed ≡ true → end ≡ k)
    → Refilled (unworked room b) after b (record { from = 0; end = end; brought = ltb k end; failed = failed; reads = b.reads - 1 })
read_behind room mid after b k end failed m e low high none =
    record {
      from_is = refl;
      within = high;
      first = rw (← m.count) (take-take k end after low ∙ e ∙ (kept_part m).0);
      brought_is = ap (λ (n : ℕ). ltb n end) m.count;
      failed_none = λ f. le-ltb k end (omega (arith, none f));
      reads_is = refl;
    }

-- the number at the end, by the test that the code makes
pub told_code : (sent : Bool) (code : ℕ) (b : Block) → ((sent && not b.failed) && ltb b.from b.end) ≡ true → code ≡ told sent code b
told_code sent code b e = rw e refl

pub told_none : (sent : Bool) (code : ℕ) (b : Block) → ((sent && not b.failed) && ltb b.from b.end) ≡ false → 0 ≡ told sent code b
told_none sent code b e = rw e refl
