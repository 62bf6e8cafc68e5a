-- A table of words gives the same result by characters and by numbers, whatever values stand beside the words.
use Prim.Native.Nat.{ℕ, zero, suc, ◌+◌, ◌-◌, ◌*◌, ◌^◌, ◌<◌, ◌≤◌}
use mathlib.Core.Path.{◌≡◌, refl, sym, ap, ◌∙◌}
use mathlib.Core.List.{List, [], ◌∷◌, map}
use mathlib.Core.Bool.{Bool, true, false, not, ◌&&◌, false≢true, and-eq-true_iff}
use mathlib.Core.Logic.{⊎_elim}
use native.Mathlib.Nat.{pow-suc, eq-or-lt_of_le, le_of_suc-le-suc, lt_of_lt_of_le, mul-le-mul_left, pow-le-pow_right}
use native.Mathlib.Omega.{arith}
use lib.Dec.{eqb, leb, ltb, lit<}
use lib.Pow.{are_bytes}
use lib.ListN.{length, get_or, length-map, get_or-map}
use lib.Seq.{ext_get_or}
use borrow.Author.Tests.{ne_eqb, eq-eqb, eqb-true, ltb-true, leb-true, not-true}
use Rattle.base.specs.Choice.{pick}
use Rattle.base.proofs.Choice.{neither}
use Rattle.words.specs.Words.{upper, upper_all, packed, pack, word_number, same_word, is_one_of, Row, find_word, find_number}

-- every element is a byte
abbrev pub Bytes : List ℕ → Type 0
Bytes s = (i : ℕ) → get_or s i 0 < 256

packed_some : (s : List ℕ) (n : ℕ) → 0 < packed s n
packed_some s zero = lit< tt
packed_some s (suc n) = omega (arith, packed_some s n)

packed_lt : (s : List ℕ) → Bytes s → (n : ℕ) → packed s n < 2 * 256 ^ n
packed_lt s h zero = lit< tt
packed_lt s h (suc n) = rw (pow-suc 256 n) (omega (arith, packed_lt s h n, h n))

pub packed_next : (s : List ℕ) (i : ℕ) → packed s (i + 1) ≡ packed s i * 256 + get_or s i 0
packed_next s i = let e : i + 1 ≡ suc i = omega arith in rw e refl

packed_inj : (s t : List ℕ) → Bytes s → Bytes t → (n m : ℕ) → packed s n ≡ packed t m → (n ≡ m) × ((i : ℕ) → i < n → get_or s i 0 ≡ get_or t i 0)
packed_inj s t hs ht zero zero e = (refl, λ i l. absurd (omega arith))
packed_inj s t hs ht zero (suc m) e = absurd (omega (arith, packed_some t m))
packed_inj s t hs ht (suc n) zero e = absurd (omega (arith, packed_some s n))
packed_inj s t hs ht (suc n) (suc m) e =
    let d : get_or s n 0 ≡ get_or t m 0 = omega (arith, hs n, ht m) in
    let r = packed_inj s t hs ht n m (omega (arith, hs n, ht m)) in
    (ap suc r.0, λ i l. ⊎_elim (λ q. rw q (d ∙ ap (λ (k : ℕ). get_or t k 0) (sym r.0))) (λ q. r.1 i q) (eq-or-lt_of_le (le_of_suc-le-suc l)))

pack_inj : (s t : List ℕ) → Bytes s → Bytes t → pack s ≡ pack t → s ≡ t
pack_inj s t hs ht e = let r = packed_inj s t hs ht (length s) (length t) e in ext_get_or 0 s t r.0 r.1

same_refl : (s : List ℕ) → same_word s s ≡ true
same_refl [] = refl
same_refl (x ∷ s) = rw (eq-eqb x x refl, same_refl s) refl

same_eq : (s t : List ℕ) → same_word s t ≡ true → s ≡ t
same_eq [] [] e = refl
same_eq [] (y ∷ t) e = absurd (false≢true e)
same_eq (x ∷ s) [] e = absurd (false≢true e)
same_eq (x ∷ s) (y ∷ t) e =
    let p = (and-eq-true_iff (eqb x y) (same_word s t)).0 e in
    let q : x ≡ y = eqb-true x y p.0 in
    let r : s ≡ t = same_eq s t p.1 in
    cc

-- two words have the same number if and only if they have the same characters
key_same : (s t : List ℕ) → Bytes s → Bytes t → eqb (pack s) (pack t) ≡ same_word s t
key_same s t hs ht = by_test (same_word s t) refl
  where
    by_test : (b : Bool) → same_word s t ≡ b → eqb (pack s) (pack t) ≡ b
    by_test true e = eq-eqb (pack s) (pack t) (ap pack (same_eq s t e))
    by_test false e = ne_eqb (pack s) (pack t) (λ q. false≢true (sym e ∙ rw (pack_inj s t hs ht q) (same_refl t)))

bytes_of : (s : List ℕ) → are_bytes s ≡ true → Bytes s
bytes_of [] e i = lit< tt
bytes_of (x ∷ s) e zero = ltb-true x 256 ((and-eq-true_iff (ltb x 256) (are_bytes s)).0 e).0
bytes_of (x ∷ s) e (suc i) = bytes_of s ((and-eq-true_iff (ltb x 256) (are_bytes s)).0 e).1 i

upper_lt : (b : ℕ) → b < 256 → upper b < 256
upper_lt b h = by_test (leb 97 b && leb b 122)
  where
    by_test : (t : Bool) → pick t (b - 32) b < 256
    by_test true = omega arith
    by_test false = h

pub up_at : (s : List ℕ) (i : ℕ) → get_or (upper_all s) i 0 ≡ upper (get_or s i 0)
up_at s i = get_or-map upper s i 0

up_bytes : (s : List ℕ) → Bytes s → Bytes (upper_all s)
up_bytes s h i = rw (up_at s i) (upper_lt (get_or s i 0) (h i))

pub pack_lt : (s : List ℕ) → Bytes s → (n : ℕ) → n ≤ 4 → packed (upper_all s) n < 2 ^ 33
pack_lt s h n l = lt_of_lt_of_le (packed_lt (upper_all s) (up_bytes s h) n) (mul-le-mul_left 2 (pow-le-pow_right {n = 256} (lit< tt) l))

-- what the default arm of a `match` on x knows, given the keys in order
abbrev pub NoneOf : List ℕ → ℕ → Type 0 → Type 0
NoneOf [] x P = P
NoneOf (k ∷ ks) x P = NoneOf ks x (P × (x ≡ k → ⊥))

none_front : (ks : List ℕ) (x : ℕ) (P : Type 0) → NoneOf ks x P → P
none_front [] x P h = h
none_front (k ∷ ks) x P h = (none_front ks x (P × (x ≡ k → ⊥)) h).0

module _ {A : Type 0} (none : A) where
  -- the numbers of a table's words
  abbrev pub keys_of : List (Row A) → List ℕ
  keys_of t = map (λ (e : Row A). pack e.0) t

  -- a number that is none of them finds no row
  pub find_none : (t : List (Row A)) (x : ℕ) (P : Type 0) → NoneOf (keys_of t) x P → find_number none t x ≡ none
  unfolding find_number
  find_none [] x P h = refl
  find_none (e ∷ t) x P h =
      rw (ne_eqb (pack e.0) x (λ q. (none_front (keys_of t) x (P × (x ≡ pack e.0 → ⊥)) h).1 (sym q)))
      (find_none t x (P × (x ≡ pack e.0 → ⊥)) h)

  -- every word of a table has at most five characters, all of them bytes: a test that computes
  abbrev pub fit_table : List (Row A) → Bool
  fit_table [] = true
  fit_table (e ∷ es) = are_bytes e.0 && (leb (length e.0) 5 && fit_table es)

  find_same : (t : List (Row A)) → fit_table t ≡ true → (w : List ℕ) → Bytes w → find_number none t (pack w) ≡ find_word none t w
  unfolding find_number find_word
  find_same [] f w h = refl
  find_same (e ∷ t) f w h =
      let p = (and-eq-true_iff (are_bytes e.0) (leb (length e.0) 5 && fit_table t)).0 f in
      let q = (and-eq-true_iff (leb (length e.0) 5) (fit_table t)).0 p.1 in
      rw (key_same e.0 w (bytes_of e.0 p.0) h, find_same t q.1 w h) refl

  -- a longer word is not in the table
  find_long : (t : List (Row A)) → fit_table t ≡ true → (w : List ℕ) → 5 < length w → find_word none t w ≡ none
  unfolding find_word
  find_long [] f w h = refl
  find_long (e ∷ t) f w h =
      let p = (and-eq-true_iff (are_bytes e.0) (leb (length e.0) 5 && fit_table t)).0 f in
      let q = (and-eq-true_iff (leb (length e.0) 5) (fit_table t)).0 p.1 in
      by_test (same_word e.0 w) refl (leb-true (length e.0) 5 q.0) (find_long t q.1 w h)
    where
      by_test : (b : Bool) → same_word e.0 w ≡ b → length e.0 ≤ 5 → find_word none t w ≡ none → pick b e.1 (find_word none t w) ≡ none
      by_test true s l r = absurd (omega (arith, ap length (same_eq e.0 w s)))
      by_test false s l r = r

  -- every row passes a test of its word's length and its value: this computes
  abbrev pub every_row : (ℕ → A → Bool) → List (Row A) → Bool
  every_row f [] = true
  every_row f (e ∷ es) = f (length e.0) e.1 && every_row f es

  -- then any word passes it with the value it finds, if it passes with the default
  pub find_passes :
      (f : ℕ → A → Bool) (t : List (Row A)) → every_row f t ≡ true
      → (w : List ℕ) → f (length w) none ≡ true → f (length w) (find_word none t w) ≡ true
  unfolding find_word
  find_passes f [] h w p = p
  find_passes f (e ∷ t) h w p =
      let q = (and-eq-true_iff (f (length e.0) e.1) (every_row f t)).0 h in
      by_test (same_word e.0 w) refl q.0 (find_passes f t q.1 w p)
    where
      by_test :
          (b : Bool) → same_word e.0 w ≡ b → f (length e.0) e.1 ≡ true
          → f (length w) (find_word none t w) ≡ true → f (length w) (pick b e.1 (find_word none t w)) ≡ true
      by_test true s here r = rw (← same_eq e.0 w s) here
      by_test false s here r = r

  -- the words of the rows that pass a test
  abbrev pub words_where : (A → Bool) → List (Row A) → List (List ℕ)
  words_where f [] = []
  words_where f (e ∷ es) = pick (f e.1) (e.0 ∷ words_where f es) (words_where f es)

  -- no word occurs twice in the table: a test that computes
  abbrev pub words_once : List (Row A) → Bool
  words_once [] = true
  words_once (e ∷ es) = not (is_one_of (map (λ (r : Row A). r.0) es) e.0) && words_once es

  where_none : (f : A → Bool) (t : List (Row A)) (w : List ℕ) → is_one_of (map (λ (r : Row A). r.0) t) w ≡ false → is_one_of (words_where f t) w ≡ false
  where_none f [] w h = refl
  where_none f (e ∷ t) w h =
      let q = neither (same_word e.0 w) (is_one_of (map (λ (r : Row A). r.0) t) w) h in
      by_test (f e.1) q.0 (where_none f t w q.1)
    where
      by_test :
          (b : Bool) → same_word e.0 w ≡ false → is_one_of (words_where f t) w ≡ false
          → is_one_of (pick b (e.0 ∷ words_where f t) (words_where f t)) w ≡ false
      by_test true s r = rw (s, r) refl
      by_test false s r = r

  -- if the default fails a test, a word's value passes it exactly when the word is in a row that passes
  pub find_where :
      (f : A → Bool) → f none ≡ false
      → (t : List (Row A)) → words_once t ≡ true → (w : List ℕ) → f (find_word none t w) ≡ is_one_of (words_where f t) w
  unfolding find_word
  find_where f n [] h w = n
  find_where f n (e ∷ t) h w =
      let q = (and-eq-true_iff (not (is_one_of (map (λ (r : Row A). r.0) t) e.0)) (words_once t)).0 h in
      by_test (same_word e.0 w) (f e.1) refl refl (not-true (is_one_of (map (λ (r : Row A). r.0) t) e.0) q.0) (find_where f n t q.1 w)
    where
      by_test :
          (b p : Bool) → same_word e.0 w ≡ b → f e.1 ≡ p → is_one_of (map (λ (r : Row A). r.0) t) e.0 ≡ false
          → f (find_word none t w) ≡ is_one_of (words_where f t) w
          → f (pick b e.1 (find_word none t w)) ≡ is_one_of (pick p (e.0 ∷ words_where f t) (words_where f t)) w
      by_test true true s g o r = rw (s, g) refl
      by_test true false s g o r = g ∙ sym (where_none f t w (rw (← same_eq e.0 w s) o))
      by_test false true s g o r = rw s r
      by_test false false s g o r = r

  -- 0 is no word's number
  find_zero : (t : List (Row A)) → find_number none t 0 ≡ none
  unfolding find_number
  find_zero [] = refl
  find_zero (e ∷ t) = rw (ne_eqb (pack e.0) 0 (λ q. omega (arith, packed_some e.0 (length e.0))), find_zero t) refl

  -- THE TABLE BY NUMBER is the table by characters
  pub find_by_number : (t : List (Row A)) → fit_table t ≡ true → (w : List ℕ) → Bytes w → find_number none t (word_number w) ≡ find_word none t (upper_all w)
  unfolding word_number
  find_by_number t f w h = by_test (ltb 5 (length w)) refl
    where
      by_test : (b : Bool) → ltb 5 (length w) ≡ b → find_number none t (pick b 0 (packed (upper_all w) (length w))) ≡ find_word none t (upper_all w)
      by_test true l = find_zero t ∙ sym (find_long t f (upper_all w) (rw (length-map w upper) (ltb-true 5 (length w) l)))
      by_test false l = rw (← length-map w upper) (find_same t f (upper_all w) (up_bytes w h))
