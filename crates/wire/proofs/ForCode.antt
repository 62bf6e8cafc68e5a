-- The code's operations against the definitions: an item of the stream, a slot replaced, a loop over the slots, one
-- reply after another.
use mathlib.Core.Path.{◌≡◌, refl, sym, ap, ◌∙◌}
use mathlib.Core.Bool.{Bool, true, false}
use mathlib.Core.List.{List, [], ◌∷◌, ◌++◌, foldl, append_assoc, append-nil}
use Prim.Native.Nat.{ℕ, ◌≤◌, ◌<◌}
use lib.Dec.{eqb}
use lib.ListN.{length, get_or, set, length-set, get_or-eq_default}
use lib.Seq.{ext_get_or, get_or-set_same, get_or-set_other}
use borrow.Author.Tests.{eqb-true, eqb-false}
use Rattle.base.specs.Choice.{pick}
use Rattle.base.specs.Lists.{each_to}
use Rattle.base.proofs.Lists.{get_d_any, length_tabulate, get_d_tabulate, tabulate_same, each_to_all}
use Rattle.wire.specs.Wire.{Entry, Delivery, one, all, say, Item, Grammar, model_at, fitted, Wire, followed, item_on, scan}
use Rattle.wire.specs.Rack.{Plain, Rack, next, state_at, deliver, replies, moved}
use Rattle.wire.specs.declared.Setup.{Setup}
use Rattle.wire.proofs.Stream.{scan_append}
use Rattle.wire.proofs.Calls.{moved_twice}

-- the model of an address, read from the array, whatever an array's element past its end stands for; and past its end
pub model_inside : (u : Setup) (a d : ℕ) → a < length u.models → get_or u.models a d ≡ model_at u a
model_inside u a d h = get_d_any u.models a d 255 h

pub model_past : (u : Setup) (a : ℕ) → length u.models ≤ a → model_at u a ≡ 255
model_past u a h = get_or-eq_default u.models 255 h

module _ (γ : Grammar) (u : Setup) where
  -- one more item of a stream
  pub scan_more : (w : Wire) (is : List Item) (i : Item) → scan γ u w (is ++ i ∷ []) ≡ followed (scan γ u w is) (item_on γ u (scan γ u w is).wire i)
  scan_more w is i = rw (scan_append γ u w is (i ∷ []), append-nil)

module _ (M : Plain) (u : Setup) where
  open M use {State, step, fresh}

  -- slots[a] = step(slots[a], e), whatever stands for a slot past the last
  pub deliver_one : (ss : List State) (a : ℕ) (e : Entry) (d : State) → deliver M u ss (one a e) ≡ set ss a (step (model_at u a) (get_or ss a d) e)
  deliver_one ss a e d =
      ext_get_or (fresh 255) _ _ (length_tabulate (length ss) (next M u (state_at M ss) (one a e)) ∙ sym (length-set ss a _))
      (λ i l. let h : i < length ss = rw length_tabulate at l in get_d_tabulate (length ss) (next M u (state_at M ss) (one a e)) i (fresh 255) h ∙ by_test i h (eqb i a) refl)
    where
      by_test : (i : ℕ) → i < length ss → (t : Bool) → eqb i a ≡ t → next M u (state_at M ss) (one a e) i ≡ get_or (set ss a (step (model_at u a) (get_or ss a d) e)) i (fresh 255)
      by_test i h true q =
          let j : a < length ss = rw (eqb-true i a q) at h in
          rw (q, eqb-true i a q, get_d_any ss a (fresh 255) d j) (sym (get_or-set_same ss a _ (fresh 255) j))
      by_test i h false q = rw q (sym (get_or-set_other ss a i _ (fresh 255) (eqb-false i a q)))

  -- a loop that lets each fitted slot take the entry
  pub deliver_all : (ss : List State) (e : Entry) (n : ℕ) → length ss ≤ n → each_to (λ a s. pick (fitted u a) (step (model_at u a) s e) s) n ss ≡ deliver M u ss (all e)
  deliver_all ss e n h = each_to_all (λ a s. pick (fitted u a) (step (model_at u a) s e) s) n ss (fresh 255) h

  -- a reply of the line's own moves nothing
  pub deliver_say : (ss : List State) (t : List ℕ) → deliver M u ss (say t) ≡ ss
  deliver_say ss t = tabulate_same (fresh 255) ss

  -- replies come one delivery after another, each from the slots as the earlier ones left them
  pub replies_append : (ss : List State) (ds es : List Delivery) → replies M u ss (ds ++ es) ≡ replies M u ss ds ++ replies M u (foldl (deliver M u) ss ds) es
  replies_append ss [] es = refl
  replies_append ss (d ∷ ds) es = rw (replies_append (deliver M u ss d) ds es, append_assoc)

-- a cycle of the loop over a call's items: what the next item does to the rack, and its reply, on the rack that the
-- earlier cycles left
module _ (M : Plain) (r : Rack M.State) (is : List Item) (i : Item) where
  open M use {State, grammar}

  abbrev before : Rack State
  before = moved M r (scan grammar r.setup r.wire is)

  pub moved_more : moved M r (scan grammar r.setup r.wire (is ++ i ∷ [])) ≡ moved M before (item_on grammar r.setup before.wire i)
  moved_more =
      ap (moved M r) (scan_more grammar r.setup r.wire is i)
      ∙ moved_twice M r (scan grammar r.setup r.wire is) (item_on grammar r.setup before.wire i)
