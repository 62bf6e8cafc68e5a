-- Laws of hexadecimal digits and checksums: reading and placing digit by digit, and a placed byte reads back as itself.
use Prim.Native.Nat.{ℕ, ◌+◌, ◌-◌, ◌*◌, ◌/◌, ◌%◌, ◌<◌, ◌≤◌}
use mathlib.Core.Path.{◌≡◌, refl, ap, ◌∙◌}
use mathlib.Core.Bool.{Bool, true, false, ◌&&◌, false≢true, and-eq-true_iff}
use mathlib.Core.List.{List, [], ◌∷◌}
use native.Mathlib.Omega.{arith}
use lib.Dec.{ltb, leb, eqb}
use lib.ListN.{length, get_or}
use borrow.Author.Tests.{le-leb, lt-leb, eq-eqb, ne_eqb, ltb-true, ltb-false, leb-true}
use Rattle.std.specs.Prelude.{Option, Some, None, fold}
use Rattle.base.specs.Choice.{pick}
use Rattle.figures.specs.Number.{number_is, no_number}
use Rattle.hexadecimal.specs.Hex.{is_hex, hex_of, read_hex, hex_digit, hex_pair, total, checksum}

-- a printed digit reads back as its value
digit_trip : (n : ℕ) → n < 16 → (is_hex (hex_digit n) ≡ true) × (hex_of (hex_digit n) ≡ n)
unfolding is_hex hex_of
digit_trip n h = by_test (ltb n 10) refl
  where
    by_test : (t : Bool) → ltb n 10 ≡ t → (is_hex (pick t (48 + n) (55 + n)) ≡ true) × (hex_of (pick t (48 + n) (55 + n)) ≡ n)
    by_test true e =
        let l : n < 10 = ltb-true n 10 e in
        let a = le-leb 48 (48 + n) (omega arith) in
        let b = le-leb (48 + n) 57 (omega arith) in
        (rw (a, b) refl, rw b (omega arith))
    by_test false e =
        let l : 10 ≤ n = ltb-false n 10 e in
        let a = le-leb 48 (55 + n) (omega arith) in
        let b = lt-leb (55 + n) 57 (omega arith) in
        let d = le-leb 65 (55 + n) (omega arith) in
        let f = le-leb (55 + n) 70 (omega arith) in
        (rw (a, b, d, f) refl, rw (b, f) (omega arith))

pub hex_trip : (b : ℕ) → b < 256 → read_hex (hex_pair b) ≡ number_is b
unfolding read_hex hex_pair
hex_trip b h =
    let p = digit_trip (b / 16) (omega arith) in
    let q = digit_trip (b % 16) (omega arith) in
    rw (p.0, q.0, p.1, q.1) (ap number_is (omega arith))

-- the value of a hexadecimal digit is below 16
hex_of_lt : (b : ℕ) → is_hex b ≡ true → hex_of b < 16
unfolding is_hex hex_of
hex_of_lt b e = by_digit (leb 48 b && leb b 57) refl
  where
    by_small : (t : Bool) → (leb 97 b && leb b 102) ≡ t → t ≡ true → pick (leb b 57) (b - 48) (pick (leb b 70) (b - 55) (b - 87)) < 16
    by_small true p q =
        let h = (and-eq-true_iff (leb 97 b) (leb b 102)).0 p in
        let l = leb-true 97 b h.0 in
        rw (lt-leb b 57 (omega arith), lt-leb b 70 (omega arith)) (omega (arith, leb-true b 102 h.1))
    by_small false p q = absurd (false≢true q)

    by_capital : (leb 48 b && leb b 57) ≡ false → (t : Bool) → (leb 65 b && leb b 70) ≡ t → pick (leb b 57) (b - 48) (pick (leb b 70) (b - 55) (b - 87)) < 16
    by_capital n true p =
        let h = (and-eq-true_iff (leb 65 b) (leb b 70)).0 p in
        let l = leb-true 65 b h.0 in
        rw (lt-leb b 57 (omega arith), h.1) (omega (arith, leb-true b 70 h.1))
    by_capital n false p = by_small (leb 97 b && leb b 102) refl (rw (n, p) at e)

    by_digit : (t : Bool) → (leb 48 b && leb b 57) ≡ t → pick (leb b 57) (b - 48) (pick (leb b 70) (b - 55) (b - 87)) < 16
    by_digit true p =
        let h = (and-eq-true_iff (leb 48 b) (leb b 57)).0 p in
        rw h.1 (omega (arith, leb-true b 57 h.1))
    by_digit false p = by_capital p (leb 65 b && leb b 70) refl

-- so the value of two digits is a byte
pub hex_lt : (t : List ℕ) → (read_hex t).value < 256
unfolding read_hex
hex_lt t = by_test (eqb (length t) 2 && (is_hex (get_or t 0 0) && is_hex (get_or t 1 0))) refl
  where
    by_test : (b : Bool) → (eqb (length t) 2 && (is_hex (get_or t 0 0) && is_hex (get_or t 1 0))) ≡ b → (pick b (number_is (hex_of (get_or t 0 0) * 16 + hex_of (get_or t 1 0))) no_number).value < 256
    by_test true e =
        let h = (and-eq-true_iff (is_hex (get_or t 0 0)) (is_hex (get_or t 1 0))).0 ((and-eq-true_iff (eqb (length t) 2) (is_hex (get_or t 0 0) && is_hex (get_or t 1 0))).0 e).1 in
        omega (arith, hex_of_lt (get_or t 0 0) h.0, hex_of_lt (get_or t 1 0) h.1)
    by_test false e = omega arith

-- what the code reads
module _ (t : List ℕ) where
  pub hex_length : (length t ≡ 2 → ⊥) → no_number ≡ read_hex t
  unfolding read_hex
  hex_length h = rw (ne_eqb _ 2 h) refl

  -- the value of the character at i, as the code tells it
  abbrev at : ℕ → Option ℕ
  at i = pick (is_hex (get_or t i 0)) (Some (hex_of (get_or t i 0))) None

  value_at : (i : ℕ) {n : ℕ} → Some n ≡ at i → (is_hex (get_or t i 0) ≡ true) × (n ≡ hex_of (get_or t i 0))
  value_at i = by_test (is_hex (get_or t i 0))
    where
      by_test : (b : Bool) {m n : ℕ} → Some n ≡ pick b (Some m) None → (b ≡ true) × (n ≡ m)
      by_test true e = (refl, cc)
      by_test false e = absurd (cc)

  none_at : (i : ℕ) → None ≡ at i → is_hex (get_or t i 0) ≡ false
  none_at i = by_test (is_hex (get_or t i 0)) (hex_of (get_or t i 0))
    where
      by_test : (b : Bool) (m : ℕ) → None ≡ pick b (Some m) None → b ≡ false
      by_test true m e = absurd (cc)
      by_test false m e = refl

  pub value_lt : (i : ℕ) {n : ℕ} → Some n ≡ at i → n < 16
  value_lt i e = let v = value_at i e in omega (arith, hex_of_lt (get_or t i 0) v.0, v.1)

  module _ (two : length t ≡ 2) where
    pub hex_high : None ≡ at 0 → no_number ≡ read_hex t
    unfolding read_hex
    hex_high e = rw (eq-eqb _ 2 two, none_at 0 e) refl

    pub hex_low : {m : ℕ} → Some m ≡ at 0 → None ≡ at 1 → no_number ≡ read_hex t
    unfolding read_hex
    hex_low d e = let v = value_at 0 d in rw (eq-eqb _ 2 two, v.0, none_at 1 e) refl

    pub hex_both : {m n : ℕ} → Some m ≡ at 0 → Some n ≡ at 1 → number_is (m * 16 + n) ≡ read_hex t
    unfolding read_hex
    hex_both d e = let v = value_at 0 d in let w = value_at 1 e in rw (eq-eqb _ 2 two, v.0, w.0, v.1, w.1) refl

-- the checksum, byte by byte
pub sum_by_byte : (s : List ℕ) → fold (λ t b. (t + b) % 256) 0 s ≡ checksum s
unfolding total checksum
sum_by_byte s = from 0 s (omega arith) ∙ ap (λ (n : ℕ). n % 256) (omega arith)
  where
    from : (t : ℕ) (s : List ℕ) → t < 256 → fold (λ t b. (t + b) % 256) t s ≡ (t + total s) % 256
    from t [] h = omega arith
    from t (b ∷ bs) h = omega (arith, from ((t + b) % 256) bs (omega arith))
