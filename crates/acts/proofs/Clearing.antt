-- Which orders clear both registers, which queries clear one, and that no others do.
use mathlib.Core.Path.{◌≡◌, refl, sym}
use mathlib.Core.Logic.{◌⊎◌, inl, inr, ⊎_elim}
use mathlib.Core.Bool.{true, false, false≢true}
use mathlib.Mathlib.Data.Bool.Basic.{eq-false_of_not-eq-true}
use Rattle.supply.specs.declared.Supply.{Supply}
use Rattle.supply.specs.declared.Order.{Order}
use Rattle.supply.specs.declared.Order.TheVariants.{Set, Ovm, Out, Fld, Ast, Rmt, Fena, Sena, Cls, Rst}
use Rattle.supply.specs.declared.Query.{Query}
use Rattle.supply.specs.declared.Query.TheVariants as query
use Rattle.supply.specs.With.{with_feve, with_seve}
use Rattle.acts.specs.Acts.{after_query, clearing_order}

pub order_is : (o : Order) → clearing_order o ≡ true → (o ≡ Cls) ⊎ (o ≡ Rst)
unfolding clearing_order
order_is Cls e = inl refl
order_is Rst e = inr refl
order_is (Set t n) e = absurd (false≢true e)
order_is Ovm e = absurd (false≢true e)
order_is (Out b) e = absurd (false≢true e)
order_is (Fld b) e = absurd (false≢true e)
order_is (Ast b) e = absurd (false≢true e)
order_is (Rmt k) e = absurd (false≢true e)
order_is (Fena b) e = absurd (false≢true e)
order_is (Sena b) e = absurd (false≢true e)

-- so no other order clears them
pub order_keeps : (o : Order) → (o ≡ Cls → ⊥) → (o ≡ Rst → ⊥) → false ≡ clearing_order o
order_keeps o n k = sym (eq-false_of_not-eq-true (λ e. ⊎_elim n k (order_is o e)))

-- what holds after FEVE?, after SEVE? and of the supply as it is holds after every query
pub by_query :
    (P : Query → Supply → Type 0) (s : Supply)
    → ((q : Query) → P q s) → P query.Feve (with_feve 0 s) → P query.Seve (with_seve 0 s)
    → (q : Query) → P q (after_query q s)
unfolding after_query
by_query P s h f e query.Feve = f
by_query P s h f e query.Seve = e
by_query P s h f e query.Pv = h query.Pv
by_query P s h f e query.Pc = h query.Pc
by_query P s h f e query.Ovp = h query.Ovp
by_query P s h f e query.Uvl = h query.Uvl
by_query P s h f e query.Mv = h query.Mv
by_query P s h f e query.Mc = h query.Mc
by_query P s h f e query.Out = h query.Out
by_query P s h f e query.Fld = h query.Fld
by_query P s h f e query.Ast = h query.Ast
by_query P s h f e query.Rmt = h query.Rmt
by_query P s h f e query.Mode = h query.Mode
by_query P s h f e query.Flt = h query.Flt
by_query P s h f e query.Fena = h query.Fena
by_query P s h f e query.Stt = h query.Stt
by_query P s h f e query.Stat = h query.Stat
by_query P s h f e query.Sena = h query.Sena

-- a query that clears neither changes nothing
pub query_keeps : (s : Supply) (q : Query) → (q ≡ query.Feve → ⊥) → (q ≡ query.Seve → ⊥) → s ≡ after_query q s
query_keeps s =
    by_query (λ q x. (q ≡ query.Feve → ⊥) → (q ≡ query.Seve → ⊥) → s ≡ x) s
    (λ q n k. refl) (λ n k. absurd (n refl)) (λ n k. absurd (k refl))
