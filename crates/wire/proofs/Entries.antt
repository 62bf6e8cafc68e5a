-- What holds for every line and every accepted field holds for each entry of a share: nothing else comes into the
-- stream.
use mathlib.Core.Bool.{Bool, true, false}
use mathlib.Core.List.{List, [], ◌∷◌, ◌++◌}
use Prim.Native.Nat.{ℕ}
use lib.Dec.{eqb, ltb}
use Rattle.base.specs.Choice.{pick}
use Rattle.base.proofs.Choice.{pick_keeps}
use Rattle.wire.specs.Machine.{Every, given, flat}
use Rattle.wire.specs.Wire.{Entry, line, Delivery, one, all, say, Class, select, faulty, global, other, Item, byte, event, Parsed, refuse, Call, Grammar, fitted, nobody, parse}
use Rattle.wire.specs.Share.{items, stream, TypedLine, typed, ended, arrivals, selected, handed, routes, brought, for_slot, share_of}
use Rattle.wire.specs.Entries.{in_item, Holds, SharesHold}
use Rattle.wire.specs.declared.Setup.{Setup}

every_append : {D : Type 0} (P : D → Type 0) (xs ys : List D) → Every P xs → Every P ys → Every P (xs ++ ys)
every_append P [] ys p q = q
every_append P (x ∷ xs) ys p q = (p.0, every_append P xs ys p.1 q)

every_flat : {D E : Type 0} (P : D → Type 0) (Q : E → Type 0) (f : D → List E) → ((d : D) → P d → Every Q (f d))
    → (ds : List D) → Every P ds → Every Q (flat f ds)
every_flat P Q f k [] p = tt
every_flat P Q f k (d ∷ ds) p = every_append Q (f d) (flat f ds) (k d p.0) (every_flat P Q f k ds p.1)

module _ (γ : Grammar) (P : Entry → Type 0) (h : Holds γ P) (u : Setup) where
  -- P holds for a delivery if it holds for the entry that it brings
  abbrev in_delivery : Delivery → Type 0
  in_delivery (one a e) = P e
  in_delivery (all e) = P e
  in_delivery (say t) = Unit

  given_has : {D : Type 0} (Q : D → Type 0) (t : Bool) (d : D) → Q d → Every Q (given t d)
  given_has Q t d q = pick_keeps (Every Q) t (d ∷ []) [] (q, tt) tt

  call_has : (c : Call) → Every (in_item P) (items (parse γ u c))
  unfolding parse
  call_has c =
      pick_keeps (λ (p : Parsed). Every (in_item P) (items p)) (ltb c.room γ.least) (refuse 1) _
      tt (h.fields (fitted u) c.bytes)

  stream_has : (calls : List Call) → Every (in_item P) (stream γ u calls)
  stream_has [] = tt
  stream_has (c ∷ cs) = every_append (in_item P) (items (parse γ u c)) (stream γ u cs) (call_has c) (stream_has cs)

  handed_has : (sel : ℕ) (e : Entry) (c : Class) → P e → Every in_delivery (handed u sel e c)
  handed_has sel e (select a t) p = tt
  handed_has sel e (faulty t) p = tt
  handed_has sel e global p = (p, tt)
  handed_has sel e other p = given_has in_delivery (fitted u sel) (one sel e) p

  routes_have : (sel : ℕ) (bytes : List ℕ) (is : List Item) → Every (in_item P) is
      → Every in_delivery (routes γ u sel (arrivals bytes is))
  routes_have sel bytes [] p = tt
  routes_have sel bytes (event a e ∷ is) p = (p.0, routes_have sel bytes is p.1)
  routes_have sel bytes (byte b ∷ is) p = by_end (λ s bs. routes_have s bs is p.1) (eqb b 13)
    where
      by_end : ((s : ℕ) (bs : List ℕ) → Every in_delivery (routes γ u s (arrivals bs is)))
          → (t : Bool)
          → Every in_delivery (routes γ u sel (pick t (ended (typed bytes) ∷ arrivals [] is) (arrivals (bytes ++ b ∷ []) is)))
      by_end ih true =
          let t : TypedLine = typed bytes in
          let c : Class = γ.class_of t.kept t.spoiled in
          every_append in_delivery (handed u sel (line t.kept t.spoiled) c) _
          (handed_has sel (line t.kept t.spoiled) c (h.lines t.kept t.spoiled))
          (ih (selected u sel c) [])
      by_end ih false = ih sel (bytes ++ b ∷ [])

  slot_has : (a : ℕ) (d : Delivery) → in_delivery d → Every P (for_slot u a d)
  slot_has a (one b e) p = given_has P (eqb a b) e p
  slot_has a (all e) p = given_has P (fitted u a) e p
  slot_has a (say t) p = tt

  share_has : (calls : List Call) (a : ℕ) → Every P (share_of γ u calls a)
  unfolding brought
  share_has calls a =
      every_flat in_delivery P (for_slot u a) (slot_has a) (brought γ u calls)
      (routes_have nobody [] (stream γ u calls) (stream_has calls))

-- EVERY ENTRY OF EVERY SHARE
pub shares_hold : (γ : Grammar) (P : Entry → Type 0) → Holds γ P → SharesHold γ P
shares_hold γ P h u calls a = share_has γ P h u calls a
