-- Figures as they are printed: with decimals and without needless leading zeros.
use Rattle.std.specs.Prelude.{ℕ, zero, suc, ◌+◌, ◌/◌, ◌%◌, ◌^◌, List, [], ◌∷◌, ◌++◌, ltb}
use Rattle.base.specs.Choice.{pick}

-- the last n decimal digits of v
unfoldable pub fixed : ℕ → ℕ → List ℕ
fixed zero v = []
fixed (suc n) v = fixed n (v / 10) ++ ((48 + v % 10) ∷ [])

-- v in decimal without needless leading zeros, if n digits are enough for it
unfoldable pub shortest : ℕ → ℕ → List ℕ
shortest zero v = []
shortest (suc n) v = pick (ltb v 10) ((48 + v) ∷ []) (shortest n (v / 10) ++ ((48 + v % 10) ∷ []))

-- the point and the k decimals of v, where v counts units of the k-th decimal; nothing if k is 0
unfoldable pub decimals : ℕ → ℕ → List ℕ
decimals zero v = []
decimals (suc k) v = 46 ∷ fixed (suc k) v

-- v as a figure, where v counts units of the k-th decimal; 20 digits are enough for any 64-bit number
unfoldable pub figure : ℕ → ℕ → List ℕ
figure k v = shortest 20 (v / 10 ^ k) ++ decimals k v
