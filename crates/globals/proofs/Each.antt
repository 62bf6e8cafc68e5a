-- One slot more of the loop over the slots, the earlier ones being right.
use mathlib.Core.Path.{◌≡◌, sym, ap, ◌∙◌}
use mathlib.Core.Bool.{not}
use mathlib.Core.List.{List}
use Prim.Native.Nat.{ℕ, ◌+◌, ◌<◌}
use lib.ListN.{length, get_or, set}
use borrow.Author.Tests.{eq-eqb, ne_eqb}
use Rattle.base.specs.Lists.{each_to}
use Rattle.base.proofs.Choice.{pick_true, pick_false}
use Rattle.base.proofs.Lists.{each_to_again, each_to_skip}
use Rattle.wire.specs.declared.Setup.{Setup}
use Rattle.wire.specs.Wire.{model_at}
use Rattle.wire.proofs.ForCode.{model_inside}
use Rattle.supply.specs.declared.Supply.{Supply}
use Rattle.supply.specs.State.{fresh}
use Rattle.supply.specs.declared.Order.{Order}
use Rattle.supply.specs.declared.Act.TheVariants.{Obey}
use Rattle.acts.specs.Acts.{performed}
use Rattle.globals.specs.Globals.{ordered_at}

module _ (u : Setup) (o : Order) (i : ℕ) (l xs : List Supply) (inside : i < length u.models) (so_far : xs ≡ each_to (ordered_at u o) i l) where
  -- an empty slot is skipped
  pub passed_over : get_or u.models i 0 ≡ 255 → xs ≡ each_to (ordered_at u o) (i + 1) l
  passed_over e = each_to_skip (ordered_at u o) i l xs (fresh 255) so_far (pick_false _ _ _ (ap not (eq-eqb (model_at u i) 255 (sym (model_inside u i 0 inside) ∙ e))))

  -- a fitted slot gets the supply after the order, however the order is written
  pub obeyed : (p : Order) (d y : Supply) → p ≡ o → (get_or u.models i 0 ≡ 255 → ⊥) → y ≡ performed (get_or u.models i 0) (get_or xs i d) (Obey p) → set xs i y ≡ each_to (ordered_at u o) (i + 1) l
  obeyed p d y same ne e =
      each_to_again (ordered_at u o) i l xs d y so_far
      (rw (model_inside u i 0 inside, same) at e ∙ sym (pick_true _ _ _ (ap not (ne_eqb (model_at u i) 255 (λ z. ne (model_inside u i 0 inside ∙ z))))))
