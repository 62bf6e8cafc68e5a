-- What comes of an order with a known error code.
use Prim.Native.Nat.{ℕ, ◌%◌}
use mathlib.Core.Path.{◌≡◌, refl, sym, ◌∙◌}
use borrow.Author.Tests.{eq-eqb, ne_eqb}
use Rattle.base.proofs.Choice.{pick_true, pick_false}
use Rattle.supply.specs.declared.Supply.{Supply}
use Rattle.supply.specs.declared.Target.{Target}
use Rattle.supply.specs.declared.Order.{Order}
use Rattle.supply.specs.declared.Order.TheVariants.{Set}
use Rattle.settings.specs.Settings.{with_setting}
use Rattle.codes.specs.Codes.{order_code}
use Rattle.codes.proofs.Accepted.{set_low}
use Rattle.orders.specs.Orders.{remote_by, ordered, after_order}

module _ (m : ℕ) (s : Supply) where
  -- the low 32 bits of an accepted figure are all of it
  pub stored : (t : Target) (n : ℕ) → order_code m s (Set t n) ≡ 0 → remote_by t (with_setting t (n % 0x100000000) s) ≡ ordered m s (Set t n)
  unfolding ordered
  stored t n e = rw (set_low m s t n e) refl

  module _ (o : Order) {code : ℕ} (is : code ≡ order_code m s o) where
    pub refused : (code ≡ 0 → ⊥) → s ≡ after_order m s o
    unfolding after_order
    refused ne = sym (pick_false _ _ _ (ne_eqb (order_code m s o) 0 (λ z. ne (is ∙ z))))

    pub accepted : code ≡ 0 → ordered m s o ≡ after_order m s o
    unfolding after_order
    accepted e = sym (pick_true _ _ _ (eq-eqb (order_code m s o) 0 (sym is ∙ e)))

  -- an accepted figure, once stored, makes the supply that the order leaves
  pub taken : (t : Target) (n : ℕ) → order_code m s (Set t n) ≡ 0
      → remote_by t (with_setting t (n % 0x100000000) s) ≡ after_order m s (Set t n)
  taken t n e = stored t n e ∙ accepted (Set t n) refl e
