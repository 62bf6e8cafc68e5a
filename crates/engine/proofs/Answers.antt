-- A field worked piece by piece: what a piece leaves, and then the rest of the field, is the field; and fields in turn
-- from the middle of one.
use Prim.Native.Nat.{ℕ, suc, ◌+◌}
use mathlib.Core.Path.{◌≡◌, refl, ap, ◌∙◌}
use mathlib.Core.Bool.{Bool}
use mathlib.Core.List.{List, [], ◌++◌, append_assoc}
use native.Mathlib.Nat.{add-zero, add_assoc}
use lib.ListN.{length, drop}
use Rattle.base.specs.Choice.{pick}
use Rattle.wire.specs.Wire.{Item, Parsed, refuse, accept, fitted, Sent, scan, parse}
use Rattle.wire.specs.Rack.{refused, done, call_of, moved, replies, messages, drawn_since}
use Rattle.wire.specs.Rack as wire
use Rattle.wire.proofs.Stream.{scan_append}
use Rattle.wire.proofs.Calls.{moved_twice}
use Rattle.wire.proofs.ForCode.{replies_append}
use Rattle.supply.specs.declared.Supply.{Supply}
use Rattle.field.specs.Fields.{read_field}
use Rattle.plain.specs.Plain.{plain_supply, grammar}
use Rattle.addressed.specs.Pieces.{items_at}
use Rattle.engine.specs.Engine.{Ran, ran, after_field, fields_from}

-- what items hand out on the line of the rack v, and what they draw
abbrev pub sent_by : wire.Rack Supply → List Item → Sent
sent_by v is = scan grammar v.setup v.wire is

abbrev pub drawn : wire.Rack Supply → List Item → List ℕ
drawn v is = replies plain_supply v.setup v.slots (sent_by v is).sent

-- the result of the rest of a field, where ss are the slots that it found
abbrev pub answer_since : List Supply → wire.Rack Supply → Parsed → wire.CallResult Supply
answer_since ss v (refuse n) = refused n
answer_since ss v (accept n is) = done (moved plain_supply v (sent_by v is)) n (drawn_since plain_supply ss v (sent_by v is))

-- fields in turn, beginning with the last `left` serial bytes of a field that found the slots ss; or no field was begun
abbrev pub onward : ℕ → (ℕ → Bool) → List ℕ → List Supply → wire.Rack Supply → ℕ → ℕ → List ℕ → Ran
onward n stop s ss v used left said = after_field (fields_from n stop s) stop v used said (answer_since ss v (items_at v.setup (drop used s) left))

-- if none was begun
pub onward_new : (n : ℕ) (stop : ℕ → Bool) (s : List ℕ) (v : wire.Rack Supply) (used : ℕ) (said : List ℕ) → fields_from (suc n) stop s v used said ≡ onward n stop s v.slots v used 0 said
unfolding call_of parse
onward_new n stop s v used said = ap (after_field (fields_from n stop s) stop v used said) (by_parsed (read_field (fitted v.setup) (drop used s)))
  where
    by_parsed : (p : Parsed) → wire.result_of plain_supply v p ≡ answer_since v.slots v p
    by_parsed (refuse k) = refl
    by_parsed (accept k is) = refl

module _ (ss : List Supply) (v q : wire.Rack Supply) (is : List Item) (e : q ≡ moved plain_supply v (sent_by v is)) where
  split : (n : ℕ) (js : List Item) → answer_since ss v (accept n (is ++ js)) ≡ done (moved plain_supply q (sent_by q js)) n (drawn v is ++ drawn_since plain_supply ss q (sent_by q js))
  split n js =
      let first : Sent = sent_by v is in
      let then : Sent = scan grammar v.setup first.wire js in
      let drew : List ℕ = replies plain_supply v.setup v.slots (first.sent ++ then.sent) in
      ap (λ (s : Sent). done (moved plain_supply v s) n (drawn_since plain_supply ss v s)) (scan_append grammar v.setup v.wire is js)
      ∙ ap (λ (r : wire.Rack Supply). done r n (drew ++ messages plain_supply ss r.slots)) (moved_twice plain_supply v first then)
      ∙ rw (e, replies_append plain_supply v.setup v.slots first.sent then.sent, append_assoc) refl

  module _ (go : wire.Rack Supply → ℕ → List ℕ → Ran) (stop : ℕ → Bool) (used : ℕ) (said : List ℕ) (n : ℕ) where
    -- some of the field is left
    pub after_part : (left : ℕ) (js : List Item) → after_field go stop v used said (answer_since ss v (accept (n + left) (is ++ js))) ≡ after_field go stop q (used + n) (said ++ drawn v is) (answer_since ss q (accept left js))
    after_part left js =
        ap (after_field go stop v used said) (split (n + left) js)
        ∙ rw (← append_assoc said (drawn v is) (drawn_since plain_supply ss q (sent_by q js)), ← add_assoc used n left) refl

    -- none is left, and the messages follow
    pub after_all : after_field go stop v used said (answer_since ss v (accept (n + 0) (is ++ []))) ≡ pick (stop (length ((said ++ drawn v is) ++ messages plain_supply ss q.slots))) (ran q (used + n) ((said ++ drawn v is) ++ messages plain_supply ss q.slots) 0) (go q (used + n) ((said ++ drawn v is) ++ messages plain_supply ss q.slots))
    after_all =
        ap (after_field go stop v used said) (split (n + 0) [])
        ∙ rw (← append_assoc said (drawn v is) (messages plain_supply ss q.slots), add-zero) refl
