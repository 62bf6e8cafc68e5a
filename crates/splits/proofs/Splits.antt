-- However the input is split: fields in turn are those of the whole input, which is one function of it.
use Prim.Native.Nat.{ℕ, ◌+◌, ◌≤◌}
use mathlib.Core.Path.{◌≡◌, refl, sym, ap, ◌∙◌}
use mathlib.Core.Bool.{Bool, true, false, true≢false, ◌||◌}
use mathlib.Core.Logic.{◌⊎◌, inl, inr}
use mathlib.Core.List.{List, [], ◌++◌, append-nil}
use lib.Dec.{eqb}
use lib.ListN.{length, drop}
use lib.Seq.{drop-drop, drop-append-le}
use borrow.Author.Tests.{eqb-true}
use Rattle.wire.specs.Wire.{Call, Parsed, refuse, accept, fitted, parse}
use Rattle.wire.specs.Rack.{refused, call_of}
use Rattle.wire.specs.Rack as wire
use Rattle.wire.specs.declared.Setup.{Setup}
use Rattle.supply.specs.declared.Supply.{Supply}
use Rattle.field.specs.Fields.{read_field}
use Rattle.field.proofs.Laws.{code_in, lacking_short}
use Rattle.plain.specs.Plain.{plain_supply}
use Rattle.slots.specs.declared.Rack.{Rack}
use Rattle.slots.specs.View.{view_of}
use Rattle.isolation.specs.Demand3.{Run}
use Rattle.engine.specs.Engine.{field_at, Ran, ran, all_fields, never, calls_on}
use Rattle.engine.proofs.Fields.{refused_longer, is_done, code_by, shifted}
use Rattle.engine.proofs.Cycles.{all_within, all_ended, all_longer, all_still, none_there}
use Rattle.splits.specs.Splits.{Waits, Final, Reads, nothing, read, Ends, Whole, SplitsMakeNoDifference}
use Rattle.splits.proofs.Runs.{cycle_run, Reached}

-- a field that waits for its remaining bytes has at most 18
pub waiting_short : (v : wire.Rack Supply) (s : List ℕ) (n : ℕ) → call_of plain_supply v (field_at s) ≡ refused n → Waits n → length s ≤ 18
unfolding call_of parse
waiting_short v s n e w = lacking_short (fitted v.setup) s (by_code w)
  where
    code : (p : Parsed) → wire.result_of plain_supply v p ≡ refused n → code_in p ≡ n
    code (refuse k) d = ap code_by d
    code (accept k is) d = absurd (true≢false (ap is_done d))

    is_code : code_in (read_field (fitted v.setup) s) ≡ n
    is_code = code (read_field (fitted v.setup) s) e

    by_code : Waits n → (code_in (read_field (fitted v.setup) s) ≡ 2) ⊎ (code_in (read_field (fitted v.setup) s) ≡ 5)
    by_code (inl two) = inl (is_code ∙ two)
    by_code (inr five) = inr (is_code ∙ five)

-- what was read so far, as a whole
pub record SoFar (v : wire.Rack Supply) (s : List ℕ) (q : wire.Rack Supply) (kept said : List ℕ) (n : ℕ) : Type 0 where
  pub used : ℕ
  pub is : ran q used said n ≡ all_fields v s
  pub kept_is : kept ≡ drop used s

pub so_far : (v : wire.Rack Supply) (k : ℕ) (s b : List ℕ) (q : wire.Rack Supply) (kept said : List ℕ) (n : ℕ) → Reads v k s b q kept said n → SoFar v s q kept said n
so_far v k s b q kept said n nothing = record { used = 0; is = none_there v; kept_is = refl }
so_far v k s b q kept said n (read k₀ s₀ b₀ q₀ kept₀ said₀ n₀ r waits c p used t m e) =
    let f = so_far v k₀ s₀ b₀ q₀ kept₀ said₀ n₀ r in
    let rest : kept₀ ++ c ≡ drop f.used s₀ ++ c = ap (λ (l : List ℕ). l ++ c) f.kept_is in
    let cut : drop f.used (s₀ ++ c) ≡ drop f.used s₀ ++ c = drop-append-le f.used s₀ c (all_within s₀ c v q₀ f.used said₀ n₀ f.is) in
    record {
      used = f.used + used;
      is = ap (shifted s₀ f.used said₀) (e ∙ ap (all_fields q₀) rest) ∙ sym (all_longer s₀ c v q₀ f.used said₀ n₀ f.is);
      kept_is = ap (drop used) (rest ∙ sym cut) ∙ drop-drop used f.used (s₀ ++ c);
    }

-- THE WHOLE INPUT: unread bytes make no difference if the refusal is final
pub whole : (v : wire.Rack Supply) (input : List ℕ) (q : wire.Rack Supply) (said : List ℕ) (n : ℕ) → Ends v input q said n → Whole v input q said n
whole v input q said n d =
    let f = so_far v d.count d.bytes d.last q d.kept said n d.reads in
    record { used = f.used; is = rw d.is (all_still d.bytes d.unread v q f.used said n f.is (by_end f d.over)) }
  where
    by_end : (f : SoFar v d.bytes q d.kept said n) → (d.unread ≡ []) ⊎ Final n → call_of plain_supply q (field_at (drop f.used d.bytes ++ d.unread)) ≡ refused n
    by_end f (inl none_left) = rw (none_left, append-nil) (all_ended d.bytes [] v q f.used said n f.is)
    by_end f (inr final) = refused_longer q (drop f.used d.bytes) d.unread n (all_ended d.bytes [] v q f.used said n f.is) final.0 final.1

-- HOWEVER THE INPUT IS SPLIT
pub splits_make_no_difference : SplitsMakeNoDifference
splits_make_no_difference v input q₁ said₁ n₁ d₁ q₂ said₂ n₂ d₂ =
    let f = whole v input q₁ said₁ n₁ d₁ in
    let g = whole v input q₂ said₂ n₂ d₂ in
    let same : ran q₁ f.used said₁ n₁ ≡ ran q₂ g.used said₂ n₂ = f.is ∙ sym g.is in
    (ap (λ (R : Ran). R.rack) same, ap (λ (R : Ran). R.said) same, ap (λ (R : Ran). R.code) same)

-- and what was read is a run of its fields, so demand 3 applies to the rack that it reaches
pub reads_run : (u : Setup) (calls : List Call) (r : Rack) → Run u calls r → (k : ℕ) (s b : List ℕ) (q : wire.Rack Supply) (kept said : List ℕ) (n : ℕ) → Reads (view_of r) k s b q kept said n
    → Reached u (calls ++ calls_on never (view_of r) s) q
reads_run u calls r g k s b q kept said n d =
    let f = so_far (view_of r) k s b q kept said n d in
    cycle_run u calls r g never s q f.used said n f.is

-- the two kinds of refusal, distinguished by a test
pub waits_is : (n : ℕ) → (eqb n 2 || eqb n 5) ≡ true → Waits n
waits_is n t = by_test (eqb n 2) refl t
  where
    by_test : (b : Bool) → eqb n 2 ≡ b → (b || eqb n 5) ≡ true → Waits n
    by_test true e u = inl (eqb-true n 2 e)
    by_test false e u = inr (eqb-true n 5 u)
