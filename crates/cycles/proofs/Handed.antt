-- What stands at the start of the buffer after a cycle, and what follows it.
use Prim.Native.Nat.{ℕ}
use mathlib.Core.Path.{◌≡◌}
use mathlib.Core.List.{List, ◌++◌, map}
use lib.ListN.{length, take, drop, length-map}
use lib.Seq.{take-append_seam, drop-append_seam}

pub handed_is : (f : ℕ → ℕ) (said b b' : List ℕ) (next : ℕ) → next ≡ length said → b' ≡ map f said ++ drop (length said) b → (take next b' ≡ map f said) × (drop next b' ≡ drop next b)
handed_is f said b b' next n e =
    let seam : length (map f said) ≡ length said = length-map said f in
    (rw (n, e, ← seam) (take-append_seam (map f said) (drop (length (map f said)) b)), rw (n, e, ← seam) (drop-append_seam (map f said) (drop (length (map f said)) b)))
