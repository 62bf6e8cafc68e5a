-- What cycles hand on is a prefix of the true reply stream: a cycle takes its part off the front of what is still to be
-- said.
use Prim.Native.Nat.{ℕ}
use mathlib.Core.Path.{◌≡◌, refl, sym, ap, ◌∙◌}
use mathlib.Core.Bool.{Bool}
use mathlib.Core.List.{List, [], ◌++◌, map, append-nil, append_assoc, map-append}
use lib.ListN.{length, drop}
use Rattle.buffers.specs.Printed.{printed}
use Rattle.wire.specs.Rack as wire
use Rattle.supply.specs.declared.Supply.{Supply}
use Rattle.engine.specs.Engine.{Ran, ran, after_field, fields_from, fields_on, never, all_fields}
use Rattle.engine.proofs.Cycles.{cycle_longer, cycle_all, all_ended, none_there}
use Rattle.stream.specs.Stream.{Cycles, none_yet, cycle_on, reply_stream, HandedFirst, AllHanded}

module _ (ending : ℕ) where
  -- a cycle on the bytes s, whatever comes after them
  said_first : (s x : List ℕ) (stop : ℕ → Bool) (q p : wire.Rack Supply) (used : ℕ) (said : List ℕ) (m : ℕ) → ran p used said m ≡ fields_on stop q s
      → reply_stream q ending (s ++ x) ≡ map (printed ending) said ++ reply_stream p ending (drop used s ++ x)
  said_first s x stop q p used said m e =
      ap (λ (R : Ran). map (printed ending) R.said) (cycle_longer s x q p used said m stop e) ∙ map-append (printed ending) said (all_fields p (drop used s ++ x)).said

  module _ (v : wire.Rack Supply) where
    first : (s kept handed : List ℕ) (q : wire.Rack Supply) (n : ℕ) → Cycles v ending s kept handed q n → (x : List ℕ) → reply_stream v ending (s ++ x) ≡ handed ++ reply_stream q ending (kept ++ x)
    first s kept handed q n none_yet x = refl
    first s kept handed q n (cycle_on s₀ kept₀ handed₀ q₀ n₀ t c stop p used said m e) x =
        ap (reply_stream v ending) (append_assoc s₀ c x)
        ∙ first s₀ kept₀ handed₀ q₀ n₀ t (c ++ x)
        ∙ ap (λ (l : List ℕ). handed₀ ++ l) (ap (reply_stream q₀ ending) (sym (append_assoc kept₀ c x)) ∙ said_first (kept₀ ++ c) x stop q₀ p used said m e)
        ∙ sym (append_assoc handed₀ (map (printed ending) said) (reply_stream p ending (drop used (kept₀ ++ c) ++ x)))

    -- after a refusal nothing is left to be said
    rest_silent : (s : List ℕ) (q : wire.Rack Supply) (used : ℕ) (said : List ℕ) (n : ℕ) (p : wire.Rack Supply) → ran q used said n ≡ all_fields p s → reply_stream q ending (drop used s) ≡ []
    rest_silent s q used said n p e = ap (λ (a : wire.CallResult Supply). map (printed ending) (after_field (fields_from (length (drop used s)) never (drop used s)) never q 0 [] a).said) (all_ended s [] p q used said n e)

    all : (s kept handed : List ℕ) (q : wire.Rack Supply) (n : ℕ) → Cycles v ending s kept handed q n → (n ≡ 0 → ⊥) → handed ≡ reply_stream v ending s
    all s kept handed q n none_yet z = ap (λ (R : Ran). map (printed ending) R.said) (none_there v)
    all s kept handed q n (cycle_on s₀ kept₀ handed₀ q₀ n₀ t c stop p used said m e) z =
        let f = first s kept handed q n (cycle_on s₀ kept₀ handed₀ q₀ n₀ t c stop p used said m e) [] in
        let silent = rest_silent (kept₀ ++ c) p used said m q₀ (cycle_all (kept₀ ++ c) [] q₀ p used said m stop e z) in
        sym (rw (append-nil, append-nil, silent, append-nil) at f)

pub handed_first : HandedFirst
handed_first v ending = first ending v

pub all_handed : AllHanded
all_handed v ending = all ending v
