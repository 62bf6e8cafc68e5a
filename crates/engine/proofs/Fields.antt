-- Fields in turn: one alone; that they end; one part of them after another; and that the bound on their number makes no
-- difference.
use Prim.Native.Nat.{ℕ, zero, suc, ◌+◌, ◌≤◌, ◌<◌}
use mathlib.Core.Path.{◌≡◌, refl, sym, ap, subst, ◌∙◌}
use mathlib.Core.Bool.{Bool, true, false, true≢false, false≢true}
use mathlib.Core.List.{List, [], ◌++◌, append-nil, append_assoc}
use native.Mathlib.Nat.{zero-add, add-zero, add_assoc}
use native.Mathlib.Omega.{arith}
use lib.Dec.{ltb, eqb}
use lib.ListN.{length, get_or, drop, length-drop}
use lib.Seq.{drop-drop}
use borrow.Author.Tests.{le-ltb, ltb-true, ltb-false, eqb-true, eqb-false}
use Rattle.base.specs.Choice.{pick}
use Rattle.wire.specs.Wire.{Parsed, refuse, accept, fitted, parse}
use Rattle.wire.specs.Rack.{refused, done, call_of}
use Rattle.wire.specs.Rack as wire
use Rattle.supply.specs.declared.Supply.{Supply}
use Rattle.field.specs.Fields.{tag_of, payload_of, header_code, values_fit, read_field}
use Rattle.field.proofs.Laws.{read_refused, read_serial, read_empty, read_value, read_event, read_accepted, read_longer, read_code, too_short}
use Rattle.plain.specs.Plain.{plain_supply}
use Rattle.engine.specs.Engine.{field_at, Ran, ran, after_field, fields_from, fields_on, never, full_at}

-- a buffer that is full from the start stops them after the first field
pub one_field : (v q : wire.Rack Supply) (s : List ℕ) (n : ℕ) (t : List ℕ) → call_of plain_supply v (field_at s) ≡ done q n t → fields_on (full_at 0) v s ≡ ran q n t 0
one_field v q s n t e =
    ap (after_field (fields_from (length s) (full_at 0) s) (full_at 0) v 0 []) e ∙ rw (le-ltb (length t) 0 (omega arith), zero-add n) refl

-- what a result contains
abbrev pub used_by : wire.CallResult Supply → ℕ
used_by (refused n) = 0
used_by (done q n t) = n

abbrev pub code_by : wire.CallResult Supply → ℕ
code_by (refused n) = n
code_by (done q n t) = 0

abbrev pub is_done : wire.CallResult Supply → Bool
is_done (refused n) = false
is_done (done q n t) = true

-- an accepted call uses bytes, and no more than there are
by_parsed_lem : (v : wire.Rack Supply) (s : List ℕ) (p : Parsed) → p ≡ read_field (fitted v.setup) s → is_done (wire.result_of plain_supply v p) ≡ true
    → (0 < used_by (wire.result_of plain_supply v p)) × (used_by (wire.result_of plain_supply v p) ≤ length s)
by_parsed_lem v s (refuse n) e d = absurd (false≢true d)
by_parsed_lem v s (accept n is) e d = let k = read_accepted (fitted v.setup) s n is (sym e) in (omega (arith, k.0), k.1)

pub accepted_uses : (v q : wire.Rack Supply) (s : List ℕ) (n : ℕ) (t : List ℕ) → call_of plain_supply v (field_at s) ≡ done q n t → (0 < n) × (n ≤ length s)
unfolding call_of parse
accepted_uses v q s n t e =
    let k = by_parsed_lem v s (read_field (fitted v.setup) s) refl (ap is_done e) in
    let u = ap used_by e in
    (subst (λ (x : ℕ). 0 < x) u k.0, subst (λ (x : ℕ). x ≤ length s) u k.1)

-- more bytes after a field make no difference, unless it was refused as too short or incomplete
module _ (v : wire.Rack Supply) (s x : List ℕ) where
  abbrev fits : ℕ → Bool
  fits = fitted v.setup

  stands : (read_field fits s ≡ refuse 2 → ⊥) → (read_field fits s ≡ refuse 5 → ⊥) → call_of plain_supply v (field_at (s ++ x)) ≡ call_of plain_supply v (field_at s)
  unfolding call_of parse
  stands two five = ap (wire.result_of plain_supply v) (by_length (ltb (length s) 3) refl)
    where
      by_length : (t : Bool) → ltb (length s) 3 ≡ t → read_field fits (s ++ x) ≡ read_field fits s
      by_length true e = absurd (two (read_code fits s 2 (sym (too_short s (ltb-true (length s) 3 e))) (omega arith)))
      by_length false e = read_longer s x (ltb-false (length s) 3 e) fits (λ h. five (read_code fits s 5 h (omega arith)))

  pub accepted_longer : (q : wire.Rack Supply) (n : ℕ) (t : List ℕ) → call_of plain_supply v (field_at s) ≡ done q n t → call_of plain_supply v (field_at (s ++ x)) ≡ done q n t
  unfolding call_of parse
  accepted_longer q n t e = stands (no 2) (no 5) ∙ e
    where
      no : (k : ℕ) → read_field fits s ≡ refuse k → ⊥
      no k r = absurd (true≢false (sym (ap is_done e) ∙ ap (λ (p : Parsed). is_done (wire.result_of plain_supply v p)) r))

  pub refused_longer : (n : ℕ) → call_of plain_supply v (field_at s) ≡ refused n → (n ≡ 2 → ⊥) → (n ≡ 5 → ⊥) → call_of plain_supply v (field_at (s ++ x)) ≡ refused n
  unfolding call_of parse
  refused_longer n e two five = stands (λ r. two (code 2 r)) (λ r. five (code 5 r)) ∙ e
    where
      code : (k : ℕ) → read_field fits s ≡ refuse k → n ≡ k
      code k r = ap code_by (sym e) ∙ ap (λ (p : Parsed). code_by (wire.result_of plain_supply v p)) r

-- no byte is no field
pub no_bytes : (v : wire.Rack Supply) → call_of plain_supply v (field_at []) ≡ refused 2
unfolding call_of parse read_field header_code
no_bytes v = refl

-- a refusal has a number
module _ (v : wire.Rack Supply) (s : List ℕ) (n : ℕ) (e : call_of plain_supply v (field_at s) ≡ refused n) (z : n ≡ 0) where
  abbrev fit : ℕ → Bool
  fit = fitted v.setup

  answer : (p : Parsed) → read_field fit s ≡ p → wire.result_of plain_supply v p ≡ refused n
  unfolding call_of parse
  answer p d = ap (wire.result_of plain_supply v) (sym d) ∙ e

  module _ (good : header_code s ≡ 0) where
    by_value : (tag_of s ≡ 1 → ⊥) → (t f : Bool) → fit (get_or (payload_of s) 0 0) ≡ t → values_fit (tag_of s) (payload_of s) ≡ f → ⊥
    by_value g false f x y = eqb-false 6 0 refl (ap code_by (answer (refuse 6) (read_empty fit s good g x)) ∙ z)
    by_value g true false x y = eqb-false 7 0 refl (ap code_by (answer (refuse 7) (read_value fit s good g x y)) ∙ z)
    by_value g true true x y = true≢false (ap is_done (answer _ (read_event fit s good g x y)))

    by_tag : (t : Bool) → eqb (tag_of s) 1 ≡ t → ⊥
    by_tag true t = true≢false (ap is_done (answer _ (read_serial fit s good (eqb-true (tag_of s) 1 t))))
    by_tag false t = by_value (eqb-false (tag_of s) 1 t) (fit (get_or (payload_of s) 0 0)) (values_fit (tag_of s) (payload_of s)) refl refl

  pub refused_some : ⊥
  refused_some = by_header (eqb (header_code s) 0) refl
    where
      by_header : (t : Bool) → eqb (header_code s) 0 ≡ t → ⊥
      by_header true t = by_tag (eqb-true (header_code s) 0 t) (eqb (tag_of s) 1) refl
      by_header false t = eqb-false (header_code s) 0 t (ap code_by (answer (refuse (header_code s)) (read_refused fit s (eqb-false (header_code s) 0 t))) ∙ z)

-- FIELDS IN TURN END: they use no more bytes than there are, and at least one if they are stopped; with nothing to stop
-- them, a refusal ends them
pub record Spends (s : List ℕ) (used : ℕ) (R : Ran) : Type 0 where
  pub grows : used ≤ R.used
  pub within : R.used ≤ length s
  pub some : R.code ≡ 0 → used < R.used

module _ (stop : ℕ → Bool) (s : List ℕ) where
  spends_step : (n : ℕ) (v : wire.Rack Supply) (used : ℕ) (said : List ℕ) → used ≤ length s → length s < used + suc n
      → ((q : wire.Rack Supply) (k : ℕ) (t : List ℕ) → k ≤ length s → length s < k + n → Spends s k (fields_from n stop s q k t))
      → (a : wire.CallResult Supply) → call_of plain_supply v (field_at (drop used s)) ≡ a → Spends s used (after_field (fields_from n stop s) stop v used said a)
  spends_step n v used said h f ih (refused c) e = record { grows = omega arith; within = h; some = λ z. absurd (refused_some v (drop used s) c e z) }
  spends_step n v used said h f ih (done q k t) e = by_stop (stop (length (said ++ t)))
    where
      uses : (0 < k) × (k ≤ length (drop used s))
      uses = accepted_uses v q (drop used s) k t e

      in_all : used + k ≤ length s
      in_all = omega (arith, uses.1, length-drop used s, h)

      by_stop : (g : Bool) → Spends s used (pick g (ran q (used + k) (said ++ t) 0) (fields_from n stop s q (used + k) (said ++ t)))
      by_stop true = record { grows = omega arith; within = in_all; some = λ z. omega (arith, uses.0) }
      by_stop false =
          let r = ih q (used + k) (said ++ t) in_all (omega (arith, f, uses.0)) in
          record { grows = omega (arith, r.grows); within = r.within; some = λ z. omega (arith, r.grows, uses.0) }

  pub spends : (n : ℕ) (v : wire.Rack Supply) (used : ℕ) (said : List ℕ) → used ≤ length s → length s < used + n → Spends s used (fields_from n stop s v used said)
  spends zero v used said h f = absurd (omega (arith, h, f))
  spends (suc n) v used said h f = spends_step n v used said h f (λ q k t. spends n q k t) (call_of plain_supply v (field_at (drop used s))) refl

module _ (s : List ℕ) where
  -- the bound on their number makes no difference, if it is large enough
  fuel_step : (n m : ℕ) (v : wire.Rack Supply) (used : ℕ) (said : List ℕ) → used ≤ length s → length s < used + suc n → length s < used + suc m
      → ((q : wire.Rack Supply) (k : ℕ) (t : List ℕ) → k ≤ length s → length s < k + n → length s < k + m → fields_from n never s q k t ≡ fields_from m never s q k t)
      → (a : wire.CallResult Supply) → call_of plain_supply v (field_at (drop used s)) ≡ a → after_field (fields_from n never s) never v used said a ≡ after_field (fields_from m never s) never v used said a
  fuel_step n m v used said h f g ih (refused c) e = refl
  fuel_step n m v used said h f g ih (done q k t) e =
      let uses = accepted_uses v q (drop used s) k t e in
      ih q (used + k) (said ++ t) (omega (arith, uses.1, length-drop used s, h)) (omega (arith, f, uses.0)) (omega (arith, g, uses.0))

  pub fuel : (n m : ℕ) (v : wire.Rack Supply) (used : ℕ) (said : List ℕ) → used ≤ length s → length s < used + n → length s < used + m → fields_from n never s v used said ≡ fields_from m never s v used said
  fuel zero m v used said h f g = absurd (omega (arith, h, f))
  fuel (suc n) zero v used said h f g = absurd (omega (arith, h, g))
  fuel (suc n) (suc m) v used said h f g = fuel_step n m v used said h f g (λ q k t. fuel n m q k t) (call_of plain_supply v (field_at (drop used s))) refl

  -- the refusal that ends them
  abbrev Ended : Ran → Type 0
  Ended R = call_of plain_supply R.rack (field_at (drop R.used s)) ≡ refused R.code

  ended_step : (n : ℕ) (v : wire.Rack Supply) (used : ℕ) (said : List ℕ) → used ≤ length s → length s < used + suc n
      → ((q : wire.Rack Supply) (k : ℕ) (t : List ℕ) → k ≤ length s → length s < k + n → Ended (fields_from n never s q k t))
      → (a : wire.CallResult Supply) → call_of plain_supply v (field_at (drop used s)) ≡ a → Ended (after_field (fields_from n never s) never v used said a)
  ended_step n v used said h f ih (refused c) e = e
  ended_step n v used said h f ih (done q k t) e =
      let uses = accepted_uses v q (drop used s) k t e in
      ih q (used + k) (said ++ t) (omega (arith, uses.1, length-drop used s, h)) (omega (arith, f, uses.0))

  pub ended : (n : ℕ) (v : wire.Rack Supply) (used : ℕ) (said : List ℕ) → used ≤ length s → length s < used + n → Ended (fields_from n never s v used said)
  ended zero v used said h f = absurd (omega (arith, h, f))
  ended (suc n) v used said h f = ended_step n v used said h f (λ q k t. ended n q k t) (call_of plain_supply v (field_at (drop used s))) refl

  -- fields after those that used some of the bytes are fields of the other bytes
  abbrev pub shifted : ℕ → List ℕ → Ran → Ran
  shifted a x R = ran R.rack (a + R.used) (x ++ R.said) R.code

  shift_step : (n a : ℕ) (x : List ℕ) (v : wire.Rack Supply) (used : ℕ) (said : List ℕ)
      → ((q : wire.Rack Supply) (k : ℕ) (t : List ℕ) → fields_from n never s q (a + k) (x ++ t) ≡ shifted a x (fields_from n never (drop a s) q k t))
      → (c : wire.CallResult Supply) → after_field (fields_from n never s) never v (a + used) (x ++ said) c ≡ shifted a x (after_field (fields_from n never (drop a s)) never v used said c)
  shift_step n a x v used said ih (refused c) = refl
  shift_step n a x v used said ih (done q k t) = rw (add_assoc a used k, append_assoc x said t) (ih q (used + k) (said ++ t))

  pub shift : (n a : ℕ) (x : List ℕ) (v : wire.Rack Supply) (used : ℕ) (said : List ℕ) → fields_from n never s v (a + used) (x ++ said) ≡ shifted a x (fields_from n never (drop a s) v used said)
  shift zero a x v used said = refl
  shift (suc n) a x v used said = rw (drop-drop used a s) (shift_step n a x v used said (λ q k t. shift n a x q k t) (call_of plain_supply v (field_at (drop (a + used) s))))

  pub behind : (n : ℕ) (v : wire.Rack Supply) (used : ℕ) (said : List ℕ) → fields_from n never s v used said ≡ shifted used said (fields_from n never (drop used s) v 0 [])
  behind n v used said = rw (add-zero, append-nil) at (shift n used said v 0 [])
