-- The unused rest of the input, moved to the start of the buffer: of the first n bytes, the k from index used on.
-- Everything after the first k bytes is unchanged.
use Rattle.std.specs.Prelude.{ℕ, ◌≡◌, List, ◌++◌, length, take, drop}

pub record Kept (before : List ℕ) (used n k : ℕ) (after : List ℕ) : Type 0 where
  pub count : k ≡ length (drop used (take n before))
  pub is : after ≡ drop used (take n before) ++ drop k before
