-- A field that names its address makes a piece: an event done, a sample, or a refusal.
use Prim.Native.Nat.{ℕ, ◌+◌}
use mathlib.Core.Path.{◌≡◌, refl, sym, ap, ◌∙◌}
use mathlib.Core.Logic.{inl, inr}
use mathlib.Core.Bool.{Bool, true, false}
use mathlib.Core.List.{List, [], ◌∷◌}
use native.Mathlib.Nat.{add-zero}
use native.Mathlib.Omega.{arith}
use lib.Dec.{ltb, eqb}
use lib.ListN.{get_or}
use Rattle.std.specs.Prelude.{Some, None}
use borrow.Author.Tests.{ltb-false, eqb-true, eqb-false, ne_eqb}
use Rattle.base.specs.Choice.{pick}
use Rattle.base.proofs.Choice.{neither}
use Rattle.base.proofs.Put.{put_none}
use Rattle.wire.specs.declared.Setup.{Setup}
use Rattle.wire.specs.Wire.{event, field, refuse, model_at, fitted}
use Rattle.wire.proofs.ForCode.{deliver_one}
use Rattle.supply.specs.declared.Supply.{Supply}
use Rattle.supply.specs.declared.Order.TheVariants.{Cls}
use Rattle.supply.specs.State.{fresh}
use Rattle.acts.specs.Acts.{performed}
use Rattle.field.specs.Fields.{tag_of, length_of, payload_of, header_code, is_sample, values_fit, act_of}
use Rattle.field.proofs.Laws.{header_good, read_refused, read_empty, read_value, read_event, address_byte, sample_head, sample_tag, sample_size, sample_values, sample_act}
use Rattle.serial.specs.declared.Line.{Line}
use Rattle.serial.specs.View.{model_in}
use Rattle.serial.proofs.Models.{model_there}
use Rattle.plain.specs.Plain.{plain_supply, step_of, reply_to}
use Rattle.addressed.specs.Pieces.{After, Does, refused_as, is_serial, PieceDoes}
use Rattle.addressed.specs.Addressed.{sample_model, sample_as}

-- a piece without serial bytes is a field that names its address
pub not_serial : (s : List ℕ) (left : ℕ) → is_serial s left ≡ false → (left ≡ 0) × (tag_of s ≡ 1 → ⊥)
not_serial s left e = let k = neither (ltb 0 left) (eqb (tag_of s) 1) e in (omega (arith, ltb-false 0 left k.0), eqb-false (tag_of s) 1 k.1)

module _ (u : Setup) (l : Line) (x : Supply) (s b : List ℕ) (at : ℕ) where
  -- a field refused for its header, whichever slot it would reach
  pub bad_header : (a n : ℕ) → n ≡ header_code s → (n ≡ 0 → ⊥) → PieceDoes u l x a s 0 (refused_as l x at n) b at b
  bad_header a n g h = inl (record { reads = read_refused (fitted u) s (λ z. h (g ∙ z)) ∙ ap refuse (sym g); some = h; is = refl; buffer_is = refl })

  -- a field that names its address
  module _ (good : header_code s ≡ 0) (t : tag_of s ≡ 1 → ⊥) where
    abbrev a : ℕ
    a = get_or (payload_of s) 0 0

    pub no_supply : fitted u a ≡ false → PieceDoes u l x (get_or s 3 0) s 0 (refused_as l x at 6) b at b
    no_supply f = inl (record { reads = read_empty (fitted u) s good t f; some = λ z. eqb-false 6 0 refl z; is = refl; buffer_is = refl })

    module _ (f : fitted u a ≡ true) where
      pub bad_value : values_fit (tag_of s) (payload_of s) ≡ false → PieceDoes u l x (get_or s 3 0) s 0 (refused_as l x at 7) b at b
      bad_value v = inl (record { reads = read_value (fitted u) s good t f v; some = λ z. eqb-false 7 0 refl z; is = refl; buffer_is = refl })

      abbrev done : After
      done = record { line = l; supply = performed (model_at u a) x (act_of (tag_of s) (payload_of s)); next = at; used = 3 + length_of s; left = 0; code = 0; all = false; order = Cls }

      event_leaves : Does u l x a (event a (field (tag_of s) (payload_of s)) ∷ []) 0 done b at b
      unfolding step_of reply_to
      event_leaves ss k there reach short wide h =
          let here : x ≡ get_or ss a (fresh 255) = rw (reach f) at there in
          record {
            moves = record { small = h; view = rw (reach f, here, deliver_one plain_supply u ss a (field (tag_of s) (payload_of s)) (fresh 255)) refl; said = put_none b at };
            fair = record { fair = omega arith };
          }

      pub event_done : values_fit (tag_of s) (payload_of s) ≡ true → PieceDoes u l x (get_or s 3 0) s 0 done b at b
      event_done v =
          inr
          (record {
            items = event a (field (tag_of s) (payload_of s)) ∷ [];
            taken = 0;
            reads = rw add-zero (read_event (fitted u) s good t f v);
            within = omega (arith, (header_good s good).0);
            begun = λ q. absurd (omega (arith, q));
            some = omega arith;
            code_is = refl;
            short = omega arith;
            does = rw (← address_byte s good t) event_leaves;
          })

-- a sample; only its address can be refused
pub sample_done : (u : Setup) (l : Line) (x : Supply) (s b : List ℕ) (at : ℕ) → is_sample s ≡ true → fitted u (get_or s 3 0) ≡ true → PieceDoes u l x (get_or s 3 0) s 0 (sample_as u l x at s) b at b
sample_done u l x s b at is f =
    let good = sample_head s is in
    let t : tag_of s ≡ 1 → ⊥ = λ q. omega (arith, q, sample_tag s is) in
    let a : get_or (payload_of s) 0 0 ≡ get_or s 3 0 = address_byte s good t in
    let done = event_done u l x s b at good t (rw a f) (sample_values s is) in
    rw (a, sample_act s is, sample_size s is) at done

-- a sample whose model is known
pub sample_known : (u : Setup) (s : List ℕ) (left m : ℕ) → Some m ≡ model_in (sample_model u s left) → (left ≡ 0) × (is_sample s ≡ true) × (m ≡ model_at u (get_or s 3 0)) × (fitted u (get_or s 3 0) ≡ true)
sample_known u s left m e = by_tests (eqb left 0) refl (is_sample s) refl e
  where
    by_tests : (t : Bool) → eqb left 0 ≡ t → (r : Bool) → is_sample s ≡ r → Some m ≡ model_in (pick t (pick r (model_at u (get_or s 3 0)) 255) 255)
        → (left ≡ 0) × (is_sample s ≡ true) × (m ≡ model_at u (get_or s 3 0)) × (fitted u (get_or s 3 0) ≡ true)
    by_tests true a true i k = let there = model_there u (get_or s 3 0) m k in (eqb-true left 0 a, i, there.1, there.0)
    by_tests true a false i k = absurd (let none : Some m ≡ None = k in cc)
    by_tests false a r i k = absurd (let none : Some m ≡ None = k in cc)
