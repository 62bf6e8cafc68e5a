-- HOW THE INPUT IS SPLIT INTO READS MAKES NO DIFFERENCE: replies, rack and refusal are those of the whole input.
use Rattle.std.specs.Prelude.{ℕ, ◌+◌, ◌≡◌, ◌⊎◌, List, [], ◌++◌, drop}
use Rattle.wire.specs.Rack as wire
use Rattle.supply.specs.declared.Supply.{Supply}
use Rattle.engine.specs.Engine.{ran, all_fields}

-- a refusal that further bytes may mend, as there were too few for a header or for the payload; and a refusal that they
-- cannot mend
abbrev pub Waits : ℕ → Type 0
Waits n = (n ≡ 2) ⊎ (n ≡ 5)

abbrev pub Final : ℕ → Type 0
Final n = (n ≡ 2 → ⊥) × (n ≡ 5 → ⊥)

-- k reads have brought the bytes s, and the last of them brought b. Each read's bytes are appended to the kept bytes
-- and worked as fields in turn, up to one that is refused with n; what is left is kept. Another read follows only if
-- that refusal waits for more bytes.
pub data Reads (v : wire.Rack Supply) :
    (k : ℕ) (s b : List ℕ) (q : wire.Rack Supply) (kept said : List ℕ) (n : ℕ) → Type 0 where
  nothing : Reads v 0 [] [] v [] [] 2
  read :
      (k : ℕ) (s b : List ℕ) (q : wire.Rack Supply) (kept said : List ℕ) (n : ℕ) → Reads v k s b q kept said n → Waits n
      → (c : List ℕ) (p : wire.Rack Supply) (used : ℕ) (t : List ℕ) (m : ℕ) → ran p used t m ≡ all_fields q (kept ++ c)
      → Reads v (k + 1) (s ++ c) c p (drop used (kept ++ c)) (said ++ t) m

-- an input read up to a final refusal, or to its end
pub record Ends (v : wire.Rack Supply) (input : List ℕ) (q : wire.Rack Supply) (said : List ℕ) (n : ℕ) : Type 0 where
  pub count : ℕ
  pub bytes : List ℕ
  pub unread : List ℕ
  pub last : List ℕ
  pub kept : List ℕ
  pub is : input ≡ bytes ++ unread
  pub reads : Reads v count bytes last q kept said n
  pub over : (unread ≡ []) ⊎ Final n

-- the outcome is that of fields in turn on the whole input, up to the one that is refused with n
pub record Whole (v : wire.Rack Supply) (input : List ℕ) (q : wire.Rack Supply) (said : List ℕ) (n : ℕ) : Type 0 where
  pub used : ℕ
  pub is : ran q used said n ≡ all_fields v input

-- so however one input is split, it ends in the same rack, with the same replies and the same refusal
abbrev pub SplitsMakeNoDifference : Type 0
SplitsMakeNoDifference =
    (v : wire.Rack Supply) (input : List ℕ)
    → (q₁ : wire.Rack Supply) (said₁ : List ℕ) (n₁ : ℕ) → Ends v input q₁ said₁ n₁
    → (q₂ : wire.Rack Supply) (said₂ : List ℕ) (n₂ : ℕ) → Ends v input q₂ said₂ n₂
    → (q₁ ≡ q₂) × (said₁ ≡ said₂) × (n₁ ≡ n₂)
