-- A refused order passes through no stage of an act, and what it leaves is what the order alone leaves.
use mathlib.Core.Path.{◌≡◌, refl}
use Prim.Native.Nat.{ℕ}
use borrow.Author.Tests.{ne_eqb}
use Rattle.supply.specs.declared.Supply.{Supply}
use Rattle.supply.specs.declared.Order.{Order}
use Rattle.supply.specs.declared.Act.TheVariants.{Obey}
use Rattle.codes.specs.Codes.{order_code}
use Rattle.orders.specs.Orders.{after_order}
use Rattle.acts.specs.Acts.{code_of, performed}

pub order_refused : (m : ℕ) (s : Supply) (o : Order) → (order_code m s o ≡ 0 → ⊥) → after_order m s o ≡ performed m s (Obey o)
unfolding performed code_of after_order
order_refused m s o n = rw (ne_eqb (order_code m s o) 0 n) refl
