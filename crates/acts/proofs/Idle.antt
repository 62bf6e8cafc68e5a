-- Acts that need not go through all the stages: a refused order changes nothing, and FEVE gains nothing from a figure for
-- a setting or from a query.
use mathlib.Core.Path.{◌≡◌, refl, sym, ap, ◌∙◌}
use mathlib.Core.Bool.{Bool, true, false}
use Prim.Native.Nat.{ℕ}
use lib.Dec.{eqb}
use borrow.Author.Tests.{ne_eqb}
use Rattle.base.proofs.Choice.{pick_false, pick_keeps}
use Rattle.supply.specs.declared.Supply.{Supply}
use Rattle.supply.specs.declared.Target.{Target}
use Rattle.supply.specs.declared.Target.TheVariants.{Pv, Pc, Ovp, Uvl}
use Rattle.supply.specs.declared.Order.{Order}
use Rattle.supply.specs.declared.Order.TheVariants.{Set}
use Rattle.supply.specs.declared.ErrorCode.{ErrorCode}
use Rattle.supply.specs.declared.Query.{Query}
use Rattle.supply.specs.declared.Act.{Act}
use Rattle.supply.specs.declared.Act.TheVariants.{Obey, Ask}
use Rattle.supply.specs.ErrorCodes.{code_byte}
use Rattle.supply.specs.Flt.{flt_of}
use Rattle.supply.specs.Memory.{cv_forgotten}
use Rattle.supply.specs.Registers.{seve_gained, settled}
use Rattle.supply.proofs.ErrorCodes.{code_not_0}
use Rattle.supply.proofs.Gains.{feve_idle}
use Rattle.settings.specs.Settings.{with_setting}
use Rattle.codes.specs.Codes.{order_code}
use Rattle.orders.specs.Orders.{remote, remote_by, ordered, after_order}
use Rattle.acts.proofs.Clearing.{by_query}
use Rattle.acts.specs.Acts.{code_of, after_query, clearing_order, clearing_act, cleared, acted, performed}

-- no bit of FLT depends on a setting, or on MODE with it
set_flt : (t : Target) (x : ℕ) (s : Supply) → flt_of (remote_by t (with_setting t x s)) ≡ flt_of s
unfolding flt_of remote_by remote with_setting
set_flt Pv x s = refl
set_flt Pc x s = refl
set_flt Ovp x s = refl
set_flt Uvl x s = refl

-- nor on the registers
pub cleared_flt : (t : Bool) (s : Supply) → flt_of (cleared t s) ≡ flt_of s
unfolding flt_of
cleared_flt true s = refl
cleared_flt false s = refl

query_flt : (q : Query) (s : Supply) → flt_of (after_query q s) ≡ flt_of s
unfolding flt_of
query_flt q s = by_query (λ q x. flt_of x ≡ flt_of s) s (λ q. refl) refl refl q

module _ (m : ℕ) (s : Supply) where
  -- an accepted order goes through the later stages
  pub order_closed : (o : Order) → order_code m s o ≡ 0
      → cv_forgotten (cleared (clearing_order o) (settled m s (after_order m s o))) ≡ performed m s (Obey o)
  unfolding performed code_of acted clearing_act after_order
  order_closed o e = rw e refl

  -- a refused act changes nothing
  pub unmoved : (a : Act) → (code_of m s a ≡ 0 → ⊥) → performed m s a ≡ s
  unfolding performed
  unmoved a n = pick_false _ _ _ (ne_eqb (code_of m s a) 0 n)

  -- so a refused order leaves the supply as it was
  pub order_refused : (e : ErrorCode) (o : Order) → code_byte e ≡ order_code m s o → s ≡ performed m s (Obey o)
  unfolding code_of
  order_refused e o is = sym (unmoved (Obey o) (λ z. code_not_0 e (is ∙ z)))

  -- a figure for a setting moves no bit of FLT, so only SEVE can gain
  pub set_closed : (t : Target) (n : ℕ) → order_code m s (Set t n) ≡ 0
      → cv_forgotten (seve_gained m s (after_order m s (Set t n))) ≡ performed m s (Obey (Set t n))
  unfolding clearing_order after_order ordered settled
  set_closed t n e =
      let same = pick_keeps (λ (x : Supply). flt_of x ≡ flt_of s) (eqb (order_code m s (Set t n)) 0) _ _ (set_flt t n s) refl in
      ap (λ (x : Supply). cv_forgotten (seve_gained m s x)) (sym (feve_idle s (after_order m s (Set t n)) same)) ∙ order_closed (Set t n) e

  -- nor does a query
  pub query_done : (q : Query) → cv_forgotten (seve_gained m s (after_query q s)) ≡ performed m s (Ask q)
  unfolding performed code_of acted clearing_act settled
  query_done q = ap (λ (x : Supply). cv_forgotten (seve_gained m s x)) (sym (feve_idle s (after_query q s) (query_flt q s)))
