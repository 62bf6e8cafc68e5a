-- Each path of the functions, as the definitions have it.
use mathlib.Core.Path.{◌≡◌, refl, sym, ◌∙◌}
use mathlib.Core.Bool.{Bool, true, false, true≢false, ◌||◌}
use Prim.Native.Nat.{ℕ, ◌<◌, ◌≤◌}
use lib.Dec.{ltb}
use lib.ListN.{length, get_or}
use Rattle.std.specs.Prelude.{Some, None, Ok, Err}
use native.Mathlib.Omega.{arith}
use borrow.Author.Tests.{eqb-true, not-false, lt-ltb, le-ltb, eq-eqb, ne_eqb}
use Rattle.base.specs.Choice.{pick}
use Rattle.base.proofs.Lists.{get_d_any}
use Rattle.supply.specs.declared.Supply.{Supply}
use Rattle.supply.specs.State.{fresh}
use Rattle.wire.specs.Wire.{model_at}
use Rattle.serial.specs.View.{fitted_model}
use Rattle.serial.proofs.Models.{model_there, none_there}
use Rattle.slots.specs.declared.Rack.{Rack}
use Rattle.field.specs.declared.Refusal.TheVariants.{NoSupply}
use Rattle.resistance.specs.Cells.{cell_of, cell_at}

module _ (r : Rack) (a : ℕ) where
  pub above : 30 < a → Err NoSupply ≡ cell_at r a
  unfolding cell_at
  above h = rw (lt-ltb 30 a h) refl

  pub empty : model_at r.setup a ≡ 255 → Err NoSupply ≡ cell_at r a
  unfolding cell_at
  empty e = rw (eq-eqb (model_at r.setup a) 255 e) (go (ltb 30 a))
    where
      go : (t : Bool)
          → Err NoSupply ≡ pick (t || true) (Err NoSupply) (Ok (cell_of (model_at r.setup a) (get_or r.slots a (fresh 255))))
      go true = refl
      go false = refl

  pub nobody : None ≡ fitted_model r.setup a → Err NoSupply ≡ cell_at r a
  nobody e = empty (eqb-true (model_at r.setup a) 255 (not-false _ (none_there r.setup a e)))

  module _ (h : a ≤ 30) where
    pub fitted_cell : (model_at r.setup a ≡ 255 → ⊥)
        → Ok (cell_of (model_at r.setup a) (get_or r.slots a (fresh 255))) ≡ cell_at r a
    unfolding cell_at
    fitted_cell n = rw (le-ltb 30 a h, ne_eqb (model_at r.setup a) 255 n) refl

    -- the same, whatever stands for a slot past the last
    pub fitted_cell_any : (m : ℕ) (d : Supply) → length r.slots ≡ 31 → Some m ≡ fitted_model r.setup a
        → Ok (cell_of m (get_or r.slots a d)) ≡ cell_at r a
    fitted_cell_any m d l e =
        let there = model_there r.setup a m e in
        rw (there.1, get_d_any r.slots a d (fresh 255) (omega arith)) (fitted_cell (λ z. true≢false (sym there.0 ∙ rw z refl)))
