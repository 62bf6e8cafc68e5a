-- The unused rest of the input, as the code copies it to the start of the buffer.
use Prim.Native.Nat.{ℕ, ◌+◌, ◌-◌, ◌≤◌, min}
use mathlib.Core.Path.{◌≡◌, refl, sym, ap, ◌∙◌}
use mathlib.Core.Bool.{Bool, true, false}
use mathlib.Core.List.{List}
use native.Mathlib.Omega.{arith}
use lib.Dec.{leb}
use lib.ListN.{length, take, drop, length-take, length-drop, length-append, drop_of_length-le}
use lib.Seq.{take_all, take-append_seam}
use borrow.Author.Tests.{leb-true, leb-false}
use Rattle.std.specs.List.{copy_within}
use Rattle.std.proofs.lemmas.List.{drop-take}
use Rattle.buffers.specs.Kept.{Kept}

-- of the first n bytes, as many as there are
take_there : (n : ℕ) (b : List ℕ) → take n b ≡ take (min n (length b)) b
take_there n b = by_test (leb n (length b)) refl
  where
    by_test : (t : Bool) → leb n (length b) ≡ t → take n b ≡ take (min n (length b)) b
    by_test true e = let l = leb-true n (length b) e in let m : min n (length b) ≡ n = omega arith in rw m refl
    by_test false e =
        let l = leb-false n (length b) e in
        let m : min n (length b) ≡ length b = omega arith in
        rw (m, take_all n b (omega arith), take_all (length b) b (omega arith)) refl

-- WHAT IS COPIED: the bytes from start to end, where the code keeps both inside the buffer
module _ (b : List ℕ) (used n end start : ℕ) (end_is : end ≡ min n (length b)) (start_is : start ≡ min used end) where
  part : take (end - start) (drop start b) ≡ drop used (take n b)
  part = rw (take_there n b, ← end_is) (by_test (leb used end) refl)
    where
      by_test : (t : Bool) → leb used end ≡ t → take (end - start) (drop start b) ≡ drop used (take end b)
      by_test true e =
          let l = leb-true used end e in
          let s : start ≡ used = omega arith in
          let k : used + (end - used) ≡ end = omega arith in
          rw s (sym (rw k at (drop-take used (end - used) b)))
      by_test false e =
          let l = leb-false used end e in
          let z : end - start ≡ 0 = omega arith in
          rw z (sym (drop_of_length-le (take end b) (omega (arith, length-take end b))))

  pub copied : {after : List ℕ} → after ≡ copy_within b start end 0 → Kept b used n (end - start) after
  copied e =
      let z : 0 + (end - start) ≡ end - start = omega arith in
      record {
        count = omega (arith, length-drop used (take n b), length-take n b);
        is = e ∙ rw (part, z) refl;
      }

-- the bytes that were moved, and that the buffer holds that many
pub kept_part : {before after : List ℕ} {used n k : ℕ} → Kept before used n k after → (take k after ≡ drop used (take n before)) × (k ≤ length after)
kept_part {before = before} {after = after} {used = used} {n = n} {k = k} d =
    let p : List ℕ = drop used (take n before) in
    (rw d.is (rw d.count (take-append_seam p (drop (length p) before))), omega (arith, d.count, ap length d.is ∙ length-append p (drop k before)))
