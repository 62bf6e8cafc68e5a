-- The outcome of a field's bytes: a law for each outcome, and what a good header says about the payload.
use Prim.Native.Nat.{ℕ, ◌+◌, ◌≤◌, ◌<◌}
use mathlib.Core.Path.{◌≡◌, refl, sym, ap, ◌∙◌}
use mathlib.Core.Logic.{◌⊎◌, inl, inr}
use mathlib.Core.List.{List, [], ◌∷◌, ◌++◌, map}
use mathlib.Core.Bool.{Bool, true, false, not, ◌&&◌, false≢true, and-eq-true_iff}
use native.Mathlib.Omega.{arith}
use lib.Dec.{leb, ltb, eqb}
use lib.ListN.{length, get_or, take, drop, length-drop, length-append}
use lib.Seq.{get_or-take, get_or-drop, length-take-le, take-append_seam, take-append-le, drop-append-le}
use borrow.Author.Tests.{ltb-true, ltb-false, leb-true, eqb-true, eqb-false, not-false, lt-ltb, le-ltb, eq-eqb, ne_eqb}
use Rattle.base.specs.Choice.{pick}
use Rattle.base.proofs.Choice.{pick_keeps, passed}
use Rattle.wire.specs.Wire.{field, Item, byte, event, Parsed, refuse, accept}
use Rattle.supply.specs.declared.Act.TheVariants.{Sample}
use Rattle.field.specs.Fields.{pair_at, tag_of, length_of, payload_of, length_fits, header_code, is_sample, values_fit, act_of, read_field}

-- THE HEADER, a law for each outcome in the order of the tests; tag, n and r are the code's values for the tag, the
-- length and its test
pub too_short : (b : List ℕ) → length b < 3 → 2 ≡ header_code b
unfolding header_code
too_short b h = rw (lt-ltb (length b) 3 h)

module _ (b : List ℕ) (tag n : ℕ) (et : tag ≡ tag_of b) (en : n ≡ length_of b) (long : 3 ≤ length b) where
  pub bad_tag : not (leb 1 tag && leb tag 5) ≡ true → 3 ≡ header_code b
  unfolding header_code
  bad_tag t = rw (le-ltb (length b) 3 long, ← et, t)

  module _ (t : not (leb 1 tag && leb tag 5) ≡ false) (r : Bool) (er : r ≡ length_fits tag n) where
    after_tag : header_code b ≡ pick (not r) 4 (pick (ltb (length b) (3 + n)) 5 0)
    unfolding header_code
    after_tag = rw (le-ltb (length b) 3 long, ← et, ← en, t, ← er)

    pub bad_length : not r ≡ true → 4 ≡ header_code b
    bad_length f = sym (after_tag ∙ rw f)

    pub cut_short : not r ≡ false → length b < 3 + n → 5 ≡ header_code b
    cut_short f h = sym (after_tag ∙ rw (f, lt-ltb (length b) (3 + n) h))

    pub whole : not r ≡ false → 3 + n ≤ length b → 0 ≡ header_code b
    whole f h = sym (after_tag ∙ rw (f, le-ltb (length b) (3 + n) h))

-- THE LENGTHS
pub serial_length : (n : ℕ) → length_fits 1 n ≡ true → (1 ≤ n) × (n ≤ 16)
unfolding length_fits
serial_length n e = let t = (and-eq-true_iff (leb 1 n) (leb n 16)).0 e in (leb-true 1 n t.0, leb-true n 16 t.1)

-- every other tag has at least two bytes
other_length : (t n : ℕ) → (t ≡ 1 → ⊥) → length_fits t n ≡ true → 2 ≤ n
unfolding length_fits
other_length t n h =
    rw (ne_eqb t 1 h)
    (pick_keeps (λ (x : Bool). x ≡ true → 2 ≤ n) (eqb t 3) (eqb n 6) (pick (eqb t 5) (eqb n 5) (eqb n 2)) (λ e. omega (arith, eqb-true n 6 e))
    (pick_keeps (λ (x : Bool). x ≡ true → 2 ≤ n) (eqb t 5) (eqb n 5) (eqb n 2) (λ e. omega (arith, eqb-true n 5 e)) (λ e. omega (arith, eqb-true n 2 e))))

-- and none has more than 16
length_most : (t n : ℕ) → length_fits t n ≡ true → n ≤ 16
unfolding length_fits
length_most t n =
    pick_keeps (λ (x : Bool). x ≡ true → n ≤ 16) (eqb t 1) (leb 1 n && leb n 16) (pick (eqb t 3) (eqb n 6) (pick (eqb t 5) (eqb n 5) (eqb n 2))) (λ e. leb-true n 16 ((and-eq-true_iff (leb 1 n) (leb n 16)).0 e).1)
    (pick_keeps (λ (x : Bool). x ≡ true → n ≤ 16) (eqb t 3) (eqb n 6) (pick (eqb t 5) (eqb n 5) (eqb n 2)) (λ e. omega (arith, eqb-true n 6 e))
    (pick_keeps (λ (x : Bool). x ≡ true → n ≤ 16) (eqb t 5) (eqb n 5) (eqb n 2) (λ e. omega (arith, eqb-true n 5 e)) (λ e. omega (arith, eqb-true n 2 e))))

-- A GOOD HEADER
pub header_good : (b : List ℕ) → header_code b ≡ 0 → (3 + length_of b ≤ length b) × (1 ≤ tag_of b) × (tag_of b ≤ 5) × (length_fits (tag_of b) (length_of b) ≡ true)
unfolding header_code
header_good b e =
    let two = passed (ltb (length b) 3) 1 _ e in
    let three = passed (not (leb 1 (tag_of b) && leb (tag_of b) 5)) 2 _ two.1 in
    let four = passed (not (length_fits (tag_of b) (length_of b))) 3 _ three.1 in
    let five = passed (ltb (length b) (3 + length_of b)) 4 0 four.1 in
    let tag = (and-eq-true_iff (leb 1 (tag_of b)) (leb (tag_of b) 5)).0 (not-false _ three.0) in
    (ltb-false _ _ five.0, leb-true 1 _ tag.0, leb-true _ 5 tag.1, not-false _ four.0)

pub payload_length : (b : List ℕ) → header_code b ≡ 0 → length (payload_of b) ≡ length_of b
payload_length b e = length-take-le (length_of b) (drop 3 b) (rw length-drop (omega (arith, (header_good b e).0)))

pub address_byte : (b : List ℕ) → header_code b ≡ 0 → (tag_of b ≡ 1 → ⊥) → get_or (payload_of b) 0 0 ≡ get_or b 3 0
address_byte b e h =
    get_or-take (length_of b) (drop 3 b) 0 0 (omega (arith, other_length (tag_of b) (length_of b) h (header_good b e).3)) ∙ get_or-drop 3 b 0 0

-- A SAMPLE: its header is good, its values may be anything, and what it asks is in its bytes
module _ (b : List ℕ) (e : is_sample b ≡ true) where
  sample_parts : (8 ≤ length b) × (tag_of b ≡ 5) × (length_of b ≡ 5)
  unfolding is_sample
  sample_parts = by_length (ltb (length b) 8) refl e
    where
      by_length : (t : Bool) → ltb (length b) 8 ≡ t → pick t false (eqb (tag_of b) 5 && eqb (length_of b) 5) ≡ true → (8 ≤ length b) × (tag_of b ≡ 5) × (length_of b ≡ 5)
      by_length true h f = absurd (false≢true f)
      by_length false h f = let t = (and-eq-true_iff (eqb (tag_of b) 5) (eqb (length_of b) 5)).0 f in (ltb-false (length b) 8 h, eqb-true (tag_of b) 5 t.0, eqb-true (length_of b) 5 t.1)

  pub sample_tag : tag_of b ≡ 5
  sample_tag = sample_parts.1

  pub sample_size : length_of b ≡ 5
  sample_size = sample_parts.2

  pub sample_head : header_code b ≡ 0
  unfolding header_code length_fits
  sample_head = let long = sample_parts.0 in rw (le-ltb (length b) 3 (omega (arith, long)), sample_tag, sample_size, le-ltb (length b) 8 long) refl

  pub sample_values : values_fit (tag_of b) (payload_of b) ≡ true
  unfolding values_fit
  sample_values = rw sample_tag refl

  payload_byte : (i : ℕ) → i < 5 → get_or (payload_of b) i 0 ≡ get_or b (3 + i) 0
  payload_byte i h = get_or-take (length_of b) (drop 3 b) i 0 (omega (arith, h, sample_size)) ∙ get_or-drop 3 b i 0

  pub sample_act : act_of (tag_of b) (payload_of b) ≡ Sample (pair_at b 4) (pair_at b 6)
  unfolding act_of
  sample_act = rw (sample_tag, payload_byte 1 (omega arith), payload_byte 2 (omega arith), payload_byte 3 (omega arith), payload_byte 4 (omega arith)) refl

-- THE OUTCOMES
module _ (fits : ℕ → Bool) (b : List ℕ) where
  pub read_refused : (header_code b ≡ 0 → ⊥) → read_field fits b ≡ refuse (header_code b)
  unfolding read_field
  read_refused h = rw (ne_eqb (header_code b) 0 h)

  pub read_serial : header_code b ≡ 0 → tag_of b ≡ 1 → read_field fits b ≡ accept (3 + length_of b) (map byte (payload_of b))
  unfolding read_field
  read_serial e t = rw (eq-eqb (header_code b) 0 e, eq-eqb (tag_of b) 1 t)

  pub read_empty : header_code b ≡ 0 → (tag_of b ≡ 1 → ⊥) → fits (get_or (payload_of b) 0 0) ≡ false → read_field fits b ≡ refuse 6
  unfolding read_field
  read_empty e t f = rw (eq-eqb (header_code b) 0 e, ne_eqb (tag_of b) 1 t, f)

  pub read_value : header_code b ≡ 0 → (tag_of b ≡ 1 → ⊥) → fits (get_or (payload_of b) 0 0) ≡ true → values_fit (tag_of b) (payload_of b) ≡ false → read_field fits b ≡ refuse 7
  unfolding read_field
  read_value e t f v = rw (eq-eqb (header_code b) 0 e, ne_eqb (tag_of b) 1 t, f, v)

  pub read_event : header_code b ≡ 0 → (tag_of b ≡ 1 → ⊥) → fits (get_or (payload_of b) 0 0) ≡ true → values_fit (tag_of b) (payload_of b) ≡ true → read_field fits b ≡ accept (3 + length_of b) (event (get_or (payload_of b) 0 0) (field (tag_of b) (payload_of b)) ∷ [])
  unfolding read_field
  read_event e t f v = rw (eq-eqb (header_code b) 0 e, ne_eqb (tag_of b) 1 t, f, v)

  -- what holds for each outcome holds for the field
  pub outcomes : (P : Parsed → Type 0) → P (refuse (header_code b)) → P (refuse 6) → P (refuse 7) → ((is : List Item) → P (accept (3 + length_of b) is)) → P (read_field fits b)
  unfolding read_field
  outcomes P head six seven good =
      pick_keeps P (not (eqb (header_code b) 0)) (refuse (header_code b)) _ head
      (pick_keeps P (eqb (tag_of b) 1) _ _ (good (map byte (payload_of b)))
      (pick_keeps P (not (fits (get_or (payload_of b) 0 0))) (refuse 6) _ six
      (pick_keeps P (not (values_fit (tag_of b) (payload_of b))) (refuse 7) _ seven (good (event (get_or (payload_of b) 0 0) (field (tag_of b) (payload_of b)) ∷ [])))))

  -- a refused header, by its number
  pub read_code : (n : ℕ) → header_code b ≡ n → 0 < n → read_field fits b ≡ refuse n
  read_code n e h = read_refused (λ z. omega (arith, e, z, h)) ∙ ap refuse e

  -- an accepted field has the bytes of its header and its payload, and they are there
  pub read_accepted : (n : ℕ) (is : List Item) → read_field fits b ≡ accept n is → (3 ≤ n) × (n ≤ length b)
  read_accepted n is e = by_header (eqb (header_code b) 0) refl
    where
      accepts : Parsed → Bool
      accepts (refuse k) = false
      accepts (accept k js) = true

      used_in : Parsed → ℕ
      used_in (refuse k) = 0
      used_in (accept k js) = k

      Used : Parsed → Type 0
      Used p = accepts p ≡ true → used_in p ≡ 3 + length_of b

      no : (p : Parsed) → accepts p ≡ false → Used p
      no p n d = absurd (false≢true (sym n ∙ d))

      used : Used (read_field fits b)
      used = outcomes Used (no (refuse (header_code b)) refl) (no (refuse 6) refl) (no (refuse 7) refl) (λ is d. refl)

      by_header : (t : Bool) → eqb (header_code b) 0 ≡ t → (3 ≤ n) × (n ≤ length b)
      by_header true h =
          let u : n ≡ 3 + length_of b = ap used_in (sym e) ∙ used (ap accepts e) in
          let good = eqb-true (header_code b) 0 h in
          (omega (arith, u), omega (arith, u, (header_good b good).0))
      by_header false h = absurd (false≢true (ap accepts (sym (read_refused (eqb-false (header_code b) 0 h)) ∙ e)))

-- AN INCOMPLETE FIELD has at most 18 bytes
abbrev pub code_in : Parsed → ℕ
code_in (refuse n) = n
code_in (accept n is) = 0

abbrev Complete : ℕ → Type 0
Complete n = (n ≡ 2 → ⊥) × (n ≡ 5 → ⊥)

module _ (b : List ℕ) (long : 18 < length b) where
  header_complete : Complete (header_code b)
  unfolding header_code
  header_complete = rw (le-ltb (length b) 3 (omega (arith, long))) (by_size (length_fits (tag_of b) (length_of b)) refl (not (leb 1 (tag_of b) && leb (tag_of b) 5)))
    where
      rest : Bool → ℕ
      rest fit = pick (not fit) 4 (pick (ltb (length b) (3 + length_of b)) 5 0)

      by_size : (fit : Bool) → length_fits (tag_of b) (length_of b) ≡ fit → (tag : Bool) → Complete (pick tag 3 (rest fit))
      by_size fit e true = (λ h. omega (arith, h), λ h. omega (arith, h))
      by_size false e false = (λ h. omega (arith, h), λ h. omega (arith, h))
      by_size true e false =
          rw (le-ltb (length b) (3 + length_of b) (omega (arith, long, length_most (tag_of b) (length_of b) e)))
          (λ h. omega (arith, h), λ h. omega (arith, h))

  complete : (fits : ℕ → Bool) → Complete (code_in (read_field fits b))
  complete fits =
      outcomes fits b (λ (p : Parsed). Complete (code_in p)) header_complete (λ h. omega (arith, h), λ h. omega (arith, h)) (λ h. omega (arith, h), λ h. omega (arith, h)) (λ is. (λ h. omega (arith, h), λ h. omega (arith, h)))

pub lacking_short : (fits : ℕ → Bool) (b : List ℕ) → (code_in (read_field fits b) ≡ 2) ⊎ (code_in (read_field fits b) ≡ 5) → length b ≤ 18
lacking_short fits b lacks = by_length (ltb 18 (length b)) refl lacks
  where
    by_length : (t : Bool) → ltb 18 (length b) ≡ t → (code_in (read_field fits b) ≡ 2) ⊎ (code_in (read_field fits b) ≡ 5) → length b ≤ 18
    by_length true e (inl h) = absurd ((complete b (ltb-true 18 (length b) e) fits).0 h)
    by_length true e (inr h) = absurd ((complete b (ltb-true 18 (length b) e) fits).1 h)
    by_length false e l = ltb-false 18 (length b) e

-- MORE BYTES after a field change nothing in its outcome, unless it is incomplete
module _ (b x : List ℕ) (long : 3 ≤ length b) where
  abbrev more : List ℕ
  more = b ++ x

  longer : length more ≡ length b + length x
  longer = length-append b x

  byte_longer : (i : ℕ) → i < 3 → get_or more i 0 ≡ get_or b i 0
  byte_longer i h =
      let e : get_or (take (length b) more) i 0 ≡ get_or more i 0 = get_or-take (length b) more i 0 (omega (arith, h, long)) in
      sym e ∙ ap (λ (l : List ℕ). get_or l i 0) (take-append_seam b x)

  tag_longer : tag_of more ≡ tag_of b
  tag_longer = byte_longer 0 (omega arith)

  length_longer : length_of more ≡ length_of b
  length_longer = rw (byte_longer 1 (omega arith), byte_longer 2 (omega arith)) refl

  header_longer : (header_code b ≡ 5 → ⊥) → header_code more ≡ header_code b
  unfolding header_code
  header_longer five =
      rw (le-ltb (length more) 3 (omega (arith, longer, long)), le-ltb (length b) 3 long, tag_longer, length_longer)
      (by_tests (not (leb 1 (tag_of b) && leb (tag_of b) 5)) (not (length_fits (tag_of b) (length_of b))) (ltb (length b) (3 + length_of b)) refl (rw (le-ltb (length b) 3 long) at five))
    where
      code : Bool → Bool → Bool → ℕ
      code tag size short = pick tag 3 (pick size 4 (pick short 5 0))

      by_tests : (tag size short : Bool) → ltb (length b) (3 + length_of b) ≡ short → (code tag size short ≡ 5 → ⊥) → code tag size (ltb (length more) (3 + length_of b)) ≡ code tag size short
      by_tests true size short e n = refl
      by_tests false true short e n = refl
      by_tests false false true e n = absurd (n refl)
      by_tests false false false e n = rw (le-ltb (length more) (3 + length_of b) (omega (arith, longer, ltb-false (length b) (3 + length_of b) e))) refl

  module _ (fits : ℕ → Bool) where
    good_longer : header_code b ≡ 0 → header_code more ≡ 0 → read_field fits more ≡ read_field fits b
    unfolding read_field
    good_longer good same =
        let enough = (header_good b good).0 in
        let payload : payload_of more ≡ payload_of b =
        rw (length_longer, drop-append-le 3 b x long) (take-append-le (length_of b) (drop 3 b) x (rw length-drop (omega (arith, enough)))) in
        rw (same, good, payload, tag_longer, length_longer) refl

    pub read_longer : (header_code b ≡ 5 → ⊥) → read_field fits more ≡ read_field fits b
    read_longer five = by_header (eqb (header_code b) 0) refl
      where
        by_header : (t : Bool) → eqb (header_code b) 0 ≡ t → read_field fits more ≡ read_field fits b
        by_header true e = let good = eqb-true (header_code b) 0 e in good_longer good (header_longer five ∙ good)
        by_header false e =
            let bad = eqb-false (header_code b) 0 e in
            read_refused fits more (λ z. bad (sym (header_longer five) ∙ z)) ∙ ap refuse (header_longer five) ∙ sym (read_refused fits b bad)
