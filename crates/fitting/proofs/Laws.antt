-- The bytes of a fitting list, each judged for itself, and the slots, each with a fresh supply of its model.
use Prim.Native.Nat.{ℕ, ◌<◌}
use mathlib.Core.Path.{◌≡◌, refl, sym, ap, ◌∙◌}
use mathlib.Core.List.{List, [], ◌∷◌, foldl}
use mathlib.Core.Bool.{Bool, true, false, ◌&&◌}
use native.Mathlib.Omega.{arith}
use lib.ListN.{length, get_or}
use Rattle.std.specs.List.{list_all}
use Rattle.std.proofs.lemmas.List.{same_lists}
use Rattle.base.specs.Lists.{tabulate}
use Rattle.base.proofs.Lists.{length_tabulate, get_d_any, get_d_tabulate}
use Rattle.wire.specs.Wire.{fresh_wire}
use Rattle.supply.specs.declared.Supply.{Supply}
use Rattle.supply.specs.State.{fresh}
use Rattle.serial.specs.declared.Line.{Line}
use Rattle.serial.specs.View.{wire_of, Short}
use Rattle.fitting.specs.Fitting.{allowed, all_allowed, Made}
use Rattle.slots.specs.View.{rack_is}

abbrev also : Bool → ℕ → Bool
also t m = t && allowed m

-- judging goes on after bytes that are allowed, and nothing mends one that is not
none_after : (l : List ℕ) → false ≡ foldl also false l
none_after [] = refl
none_after (m ∷ ms) = none_after ms

-- whether all are allowed, as the code asks of each
pub allowed_each : (l : List ℕ) → list_all allowed l ≡ all_allowed l
unfolding all_allowed
allowed_each [] = refl
allowed_each (m ∷ ms) = by_test (allowed m) (allowed_each ms)
  where
    by_test : (t : Bool) → list_all allowed ms ≡ foldl also true ms → (t && list_all allowed ms) ≡ foldl also t ms
    by_test true e = e
    by_test false e = none_after ms

-- the slots are fresh supplies of their models
pub made : (models : List ℕ) (ss : List Supply) (l : Line) → length models ≡ 31 → length ss ≡ 31 → ((i : ℕ) → i < 31 → get_or ss i (fresh 255) ≡ fresh (get_or models i 255)) → wire_of l ≡ fresh_wire → Short l
    → Made (record { models = models }) (rack_is ss l (record { models = models }))
made models ss l n m each w small =
    let f : ℕ → Supply = λ a. fresh (get_or models a 255) in
    let slots : ss ≡ tabulate (length models) f =
    same_lists ss (tabulate (length models) f) (m ∙ sym n ∙ sym (length_tabulate (length models) f))
    (λ k d h. get_d_any ss k d (fresh 255) h ∙ each k (omega (arith, h, m)) ∙ sym (get_d_tabulate (length models) f k d (omega (arith, h, m, n)))) in
    record { small = small; fresh_is = rw (w, slots) refl }
