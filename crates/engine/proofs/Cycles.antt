-- Fields in turn, in parts: what stopped them makes no difference if they go on, and neither do bytes that come later.
use Prim.Native.Nat.{ℕ, zero, suc, ◌+◌, ◌≤◌, ◌<◌}
use mathlib.Core.Path.{◌≡◌, refl, sym, ap, subst, ◌∙◌}
use mathlib.Core.Bool.{Bool, true, false}
use mathlib.Core.List.{List, [], ◌++◌, append-nil}
use native.Mathlib.Nat.{add-zero, zero-add}
use native.Mathlib.Omega.{arith}
use lib.Dec.{eqb}
use lib.ListN.{length, drop, length-drop, length-append}
use lib.Seq.{drop-append-le}
use borrow.Author.Tests.{ne_eqb}
use Rattle.base.specs.Choice.{pick}
use Rattle.wire.specs.Rack.{refused, done, call_of}
use Rattle.wire.specs.Rack as wire
use Rattle.supply.specs.declared.Supply.{Supply}
use Rattle.plain.specs.Plain.{plain_supply}
use Rattle.engine.specs.Engine.{field_at, Ran, ran, after_field, fields_from, fields_on, never, all_fields}
use Rattle.engine.proofs.Fields.{accepted_uses, accepted_longer, refused_some, no_bytes, spends, fuel, ended, shifted, shift, behind}

-- fields that were stopped go on; those that a refusal ended have ended
abbrev pub resume : List ℕ → Ran → Ran
resume s R = pick (eqb R.code 0) (fields_from (suc (length s)) never s R.rack R.used R.said) R

module _ (stop : ℕ → Bool) (s : List ℕ) where
  through_step : (n : ℕ) (v : wire.Rack Supply) (used : ℕ) (said : List ℕ) → used ≤ length s → length s < used + suc n
      → ((q : wire.Rack Supply) (k : ℕ) (t : List ℕ) → k ≤ length s → length s < k + n → fields_from n never s q k t ≡ resume s (fields_from n stop s q k t))
      → (a : wire.CallResult Supply) → call_of plain_supply v (field_at (drop used s)) ≡ a → after_field (fields_from n never s) never v used said a ≡ resume s (after_field (fields_from n stop s) stop v used said a)
  through_step n v used said h f ih (refused c) e = rw (ne_eqb c 0 (λ z. refused_some v (drop used s) c e z)) refl
  through_step n v used said h f ih (done q k t) e = by_stop (stop (length (said ++ t)))
    where
      uses : (0 < k) × (k ≤ length (drop used s))
      uses = accepted_uses v q (drop used s) k t e

      in_all : used + k ≤ length s
      in_all = omega (arith, uses.1, length-drop used s, h)

      by_stop : (g : Bool) → fields_from n never s q (used + k) (said ++ t) ≡ resume s (pick g (ran q (used + k) (said ++ t) 0) (fields_from n stop s q (used + k) (said ++ t)))
      by_stop true = fuel s n (suc (length s)) q (used + k) (said ++ t) in_all (omega (arith, f, uses.0)) (omega arith)
      by_stop false = ih q (used + k) (said ++ t) in_all (omega (arith, f, uses.0))

  through : (n : ℕ) (v : wire.Rack Supply) (used : ℕ) (said : List ℕ) → used ≤ length s → length s < used + n → fields_from n never s v used said ≡ resume s (fields_from n stop s v used said)
  through zero v used said h f = absurd (omega (arith, h, f))
  through (suc n) v used said h f = through_step n v used said h f (λ q k t. through n q k t) (call_of plain_supply v (field_at (drop used s))) refl

-- ONE MORE CYCLE, on the bytes that are left
module _ (s : List ℕ) (v q : wire.Rack Supply) (used k : ℕ) (said t : List ℕ) (c : ℕ) (stop : ℕ → Bool) (h : used ≤ length s) (e : ran q k t c ≡ fields_on stop v (drop used s)) where
  abbrev rest : List ℕ
  rest = drop used s

  uses : k ≤ length rest
  uses = subst (λ (R : Ran). R.used ≤ length rest) (sym e) (spends stop rest (suc (length rest)) v 0 [] (omega arith) (omega arith)).within

  pub cycle_spends : c ≡ 0 → 0 < k
  cycle_spends z = subst (λ (R : Ran). R.code ≡ 0 → 0 < R.used) (sym e) (spends stop rest (suc (length rest)) v 0 [] (omega arith) (omega arith)).some z

  pub cycle_within : used + k ≤ length s
  cycle_within = omega (arith, uses, length-drop used s, h)

  same_rest : fields_from (suc (length s)) never s v used said ≡ shifted s used said (resume rest (ran q k t c))
  same_rest =
      behind s (suc (length s)) v used said
      ∙ ap (shifted s used said) (fuel rest (suc (length s)) (suc (length rest)) v 0 [] (omega arith) (omega (arith, length-drop used s)) (omega arith) ∙ through stop rest (suc (length rest)) v 0 [] (omega arith) (omega arith) ∙ ap (resume rest) (sym e))

  pub cycle_more : (R : Ran) → resume s (ran v used said 0) ≡ R → resume s (ran q (used + k) (said ++ t) c) ≡ R
  cycle_more R g = by_code (eqb c 0) refl ∙ sym same_rest ∙ g
    where
      by_code : (z : Bool) → eqb c 0 ≡ z → pick z (fields_from (suc (length s)) never s q (used + k) (said ++ t)) (ran q (used + k) (said ++ t) c) ≡ shifted s used said (pick z (fields_from (suc (length rest)) never rest q k t) (ran q k t c))
      by_code true z = shift s (suc (length s)) used said q k t ∙ ap (shifted s used said) (fuel rest (suc (length s)) (suc (length rest)) q k t uses (omega (arith, length-drop used s)) (omega arith))
      by_code false z = refl

-- bytes that come later
module _ (s x : List ℕ) where
  abbrev most : ℕ
  most = suc (length (s ++ x))

  abbrev Onto : Ran → Ran → Type 0
  Onto R T = T ≡ fields_from most never (s ++ x) R.rack R.used R.said

  longer_step : (n m : ℕ) (v : wire.Rack Supply) (used : ℕ) (said : List ℕ) → used ≤ length s → length s < used + suc n → length (s ++ x) < used + suc m
      → ((q : wire.Rack Supply) (k : ℕ) (t : List ℕ) → k ≤ length s → length s < k + n → length (s ++ x) < k + m → Onto (fields_from n never s q k t) (fields_from m never (s ++ x) q k t))
      → (a : wire.CallResult Supply) → call_of plain_supply v (field_at (drop used s)) ≡ a → Onto (after_field (fields_from n never s) never v used said a) (fields_from (suc m) never (s ++ x) v used said)
  longer_step n m v used said h f g ih (refused c) e = fuel (s ++ x) (suc m) most v used said (omega (arith, h, length-append s x)) g (omega arith)
  longer_step n m v used said h f g ih (done q k t) e =
      let uses = accepted_uses v q (drop used s) k t e in
      let is : call_of plain_supply v (field_at (drop used (s ++ x))) ≡ done q k t = rw (drop-append-le used s x h) (accepted_longer v (drop used s) x q k t e) in
      ap (after_field (fields_from m never (s ++ x)) never v used said) is ∙ ih q (used + k) (said ++ t) (omega (arith, uses.1, length-drop used s, h)) (omega (arith, f, uses.0)) (omega (arith, g, uses.0))

  longer : (n m : ℕ) (v : wire.Rack Supply) (used : ℕ) (said : List ℕ) → used ≤ length s → length s < used + n → length (s ++ x) < used + m → Onto (fields_from n never s v used said) (fields_from m never (s ++ x) v used said)
  longer zero m v used said h f g = absurd (omega (arith, h, f))
  longer (suc n) zero v used said h f g = absurd (omega (arith, h, g, length-append s x))
  longer (suc n) (suc m) v used said h f g = longer_step n m v used said h f g (λ q k t. longer n m q k t) (call_of plain_supply v (field_at (drop used s))) refl

  -- a cycle that a refusal or a full buffer ended: the fields that follow are those of the rest and of what comes
  module _ (v q : wire.Rack Supply) (used : ℕ) (said : List ℕ) (n : ℕ) (stop : ℕ → Bool) (e : ran q used said n ≡ fields_on stop v s) where
    within : used ≤ length s
    within = omega (arith, cycle_within s v q 0 used [] said n stop (omega arith) e)

    whole : resume s (ran q used said n) ≡ all_fields v s
    whole = rw zero-add at (cycle_more s v q 0 used [] said n stop (omega arith) e (all_fields v s) refl)

    -- a cycle that a refusal ended is all fields
    pub cycle_all : (n ≡ 0 → ⊥) → ran q used said n ≡ all_fields v s
    cycle_all z = rw (ne_eqb n 0 z) at whole

    abbrev From : Ran → Type 0
    From R = fields_from most never (s ++ x) R.rack R.used R.said ≡ fields_from most never (s ++ x) q used said

    goes_on_lem : all_fields v (s ++ x) ≡ fields_from most never (s ++ x) q used said
    goes_on_lem = longer (suc (length s)) most v 0 [] (omega arith) (omega arith) (omega arith) ∙ by_code (eqb n 0) refl
      where
        by_code : (z : Bool) → eqb n 0 ≡ z → From (all_fields v s)
        by_code true z = subst From (rw z at whole) (sym (longer (suc (length s)) most q used said within (omega arith) (omega (arith, within, length-append s x))))
        by_code false z = subst From (rw z at whole) refl

    pub cycle_longer : all_fields v (s ++ x) ≡ shifted s used said (all_fields q (drop used s ++ x))
    cycle_longer =
        goes_on_lem
        ∙ behind (s ++ x) most q used said
        ∙ ap (shifted s used said) (ap (λ (l : List ℕ). fields_from most never l q 0 []) (drop-append-le used s x within) ∙ fuel (drop used s ++ x) most (suc (length (drop used s ++ x))) q 0 [] (omega arith) (omega (arith, length-append (drop used s) x, length-append s x, length-drop used s)) (omega arith))

  module _ (v q : wire.Rack Supply) (used : ℕ) (said : List ℕ) (n : ℕ) (e : ran q used said n ≡ all_fields v s) where
    pub all_within : used ≤ length s
    all_within = within v q used said n never e

    pub all_ended : call_of plain_supply q (field_at (drop used s)) ≡ refused n
    all_ended = subst (λ (R : Ran). call_of plain_supply R.rack (field_at (drop R.used s)) ≡ refused R.code) (sym e) (ended s (suc (length s)) v 0 [] (omega arith) (omega arith))

    pub all_longer : all_fields v (s ++ x) ≡ shifted s used said (all_fields q (drop used s ++ x))
    all_longer = cycle_longer v q used said n never e

    -- if the refusal stays although they come
    pub all_still : call_of plain_supply q (field_at (drop used s ++ x)) ≡ refused n → ran q used said n ≡ all_fields v (s ++ x)
    all_still d =
        let last : all_fields q (drop used s ++ x) ≡ ran q 0 [] n = ap (after_field (fields_from (length (drop used s ++ x)) never (drop used s ++ x)) never q 0 []) d in
        sym (all_longer ∙ ap (shifted s used said) last ∙ rw (add-zero, append-nil) refl)

pub none_there : (v : wire.Rack Supply) → ran v 0 [] 2 ≡ all_fields v []
none_there v = sym (ap (after_field (fields_from 0 never []) never v 0 []) (no_bytes v))
