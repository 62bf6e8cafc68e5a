-- A print reads back as the same value, for any number of decimals.
use Prim.Native.Nat.{ℕ, zero, suc, ◌+◌, ◌*◌, ◌/◌, ◌%◌, ◌^◌, ◌<◌, ◌≤◌}
use mathlib.Core.Path.{◌≡◌, refl, sym, ap, ◌∙◌}
use mathlib.Core.List.{List, [], ◌∷◌, ◌++◌}
use mathlib.Core.Bool.{Bool, true, false, and-eq-true_iff}
use native.Mathlib.Nat.{pow-suc, div-add-mod', add-zero, zero-add}
use native.Mathlib.Numerals.{add-one}
use native.Mathlib.Omega.{arith}
use lib.Arith.{mod-mul}
use lib.Dec.{lit<, ltb, leb}
use lib.ListN.{length, drop, length-append, get_or-append}
use lib.Seq.{get_or-append_seam, take_at, drop-append-add}
use borrow.Author.Tests.{leb-true, ne_eqb, le-leb, ltb-true}
use Rattle.base.specs.Choice.{pick}
use Rattle.base.proofs.Choice.{pick_keeps}
use Rattle.figures.specs.Digits.{digit_of, is_digit, all_digits, run_value}
use Rattle.figures.specs.Number.{first_at, scaled_value, number_is, read_number}
use Rattle.prints.specs.Figure.{fixed, shortest, decimals, figure}
use Rattle.figures.proofs.Laws.{pow_pos, units_exact, parted, good_number}
use Rattle.prints.proofs.Print.{length_fixed, figure_short}

-- the value of a whole run
abbrev value_of : List ℕ → ℕ
value_of xs = run_value xs (length xs)

-- a run's value depends on its own characters only
run_front : (xs ys : List ℕ) (n : ℕ) → n ≤ length xs → run_value (xs ++ ys) n ≡ run_value xs n
unfolding run_value
run_front xs ys zero h = refl
run_front xs ys (suc n) h = rw (run_front xs ys n (omega arith), get_or-append xs ys 0 n h) refl

value_snoc : (xs : List ℕ) (d : ℕ) → value_of (xs ++ (d ∷ [])) ≡ value_of xs * 10 + digit_of d
unfolding run_value
value_snoc xs d =
    let e : length (xs ++ (d ∷ [])) ≡ suc (length xs) = rw length-append (add-one (length xs)) in
    rw (e, run_front xs (d ∷ []) (length xs) (omega arith), get_or-append_seam xs d [] 0) refl

value_fixed : (n v : ℕ) → value_of (fixed n v) ≡ v % 10 ^ n
unfolding fixed run_value
value_fixed zero v = omega arith
value_fixed (suc n) v = rw (value_snoc, value_fixed n (v / 10), pow-suc 10 n, mod-mul v (pow_pos n) (lit< tt)) (omega arith)

-- a print of fewer than n digits has the value v
value_shortest : (n v : ℕ) → length (shortest n v) < n → value_of (shortest n v) ≡ v
unfolding shortest run_value
value_shortest zero v h = absurd (omega arith)
value_shortest (suc n) v h = by_test (ltb v 10) refl (value_shortest n (v / 10)) h
  where
    by_test : (t : Bool) → ltb v 10 ≡ t → (length (shortest n (v / 10)) < n → value_of (shortest n (v / 10)) ≡ v / 10)
        → length (pick t ((48 + v) ∷ []) (shortest n (v / 10) ++ ((48 + v % 10) ∷ []))) < suc n
        → value_of (pick t ((48 + v) ∷ []) (shortest n (v / 10) ++ ((48 + v % 10) ∷ []))) ≡ v
    by_test true e ih l = omega (arith, ltb-true v 10 e)
    by_test false e ih l = rw (value_snoc, ih (omega (arith, rw length-append at l))) (omega arith)

all_snoc : (xs : List ℕ) (d : ℕ) → d < 10 → all_digits xs ≡ true → all_digits (xs ++ ((48 + d) ∷ [])) ≡ true
unfolding all_digits
all_snoc [] d h e = rw (le-leb 48 (48 + d) (omega arith), le-leb (48 + d) 57 (omega arith)) refl
all_snoc (x ∷ xs) d h e =
    let p = (and-eq-true_iff (is_digit x) (all_digits xs)).0 e in
    rw (p.0, all_snoc xs d h p.1) refl

all_fixed : (n v : ℕ) → all_digits (fixed n v) ≡ true
unfolding fixed all_digits
all_fixed zero v = refl
all_fixed (suc n) v = all_snoc (fixed n (v / 10)) (v % 10) (omega arith) (all_fixed n (v / 10))

all_shortest : (n v : ℕ) → all_digits (shortest n v) ≡ true
unfolding shortest all_digits
all_shortest zero v = refl
all_shortest (suc n) v = by_test (ltb v 10) refl (all_shortest n (v / 10))
  where
    by_test : (t : Bool) → ltb v 10 ≡ t → all_digits (shortest n (v / 10)) ≡ true → all_digits (pick t ((48 + v) ∷ []) (shortest n (v / 10) ++ ((48 + v % 10) ∷ []))) ≡ true
    by_test true e ih = all_snoc [] v (ltb-true v 10 e) refl
    by_test false e ih = all_snoc (shortest n (v / 10)) (v % 10) (omega arith) ih

-- there is a digit before the point
some_shortest : (n v : ℕ) → 0 < length (shortest (suc n) v)
unfolding shortest
some_shortest n v =
    pick_keeps (λ (xs : List ℕ). 0 < length xs) (ltb v 10) ((48 + v) ∷ []) (shortest n (v / 10) ++ ((48 + v % 10) ∷ []))
    (omega arith)
    (rw length-append (omega arith))

-- no digit is a point
first_past : (xs ys : List ℕ) → all_digits xs ≡ true → first_at 46 (xs ++ ys) ≡ length xs + first_at 46 ys
unfolding first_at all_digits
first_past [] ys e = sym (zero-add (first_at 46 ys))
first_past (x ∷ xs) ys e =
    let p = (and-eq-true_iff (is_digit x) (all_digits xs)).0 e in
    let q = (and-eq-true_iff (leb 48 x) (leb x 57)).0 p.0 in
    rw (ne_eqb x 46 (λ w. omega (arith, leb-true 48 x q.0)), first_past xs ys p.1) (omega arith)

-- with a point and without
first_decimals : (k v : ℕ) → first_at 46 (decimals k v) ≡ 0
unfolding first_at decimals
first_decimals zero v = refl
first_decimals (suc k) v = refl

rest_decimals : (k v : ℕ) → drop 1 (decimals k v) ≡ fixed k v
unfolding decimals fixed
rest_decimals zero v = refl
rest_decimals (suc k) v = refl

scaled_figure : (k v : ℕ) → length (shortest 20 (v / 10 ^ k)) < 20 → scaled_value k (shortest 20 (v / 10 ^ k)) (fixed k v) ≡ v
unfolding scaled_value
scaled_figure k v h =
    rw (value_shortest 20 (v / 10 ^ k) h, value_fixed k v, length_fixed k v, div-add-mod' v (10 ^ k)) (units_exact v (10 ^ k) (pow_pos k))

-- the law, for a print of at most 12 characters
pub read_figure : (k v : ℕ) → length (figure k v) ≤ 12 → read_number k (figure k v) ≡ number_is v
unfolding figure
read_figure k v h =
    let xs = shortest 20 (v / 10 ^ k) in
    let ys = decimals k v in
    let d = all_shortest 20 (v / 10 ^ k) in
    let n : length xs + length ys ≤ 12 = rw length-append at h in
    let p = parted {p = length xs} (sym (first_past xs ys d ∙ rw (first_decimals k v) (add-zero (length xs)))) (sym (take_at xs ys (length xs) refl)) (sym (drop-append-add xs ys 1 ∙ rest_decimals k v)) h in
    sym (good_number p k d (all_fixed k v) (λ e. omega (arith, some_shortest 19 (v / 10 ^ k)))) ∙ ap number_is (scaled_figure k v (omega arith))

-- a 32-bit figure with at most 9 decimals reads back as itself
pub read_short : (k v : ℕ) → k < 10 → v < 2 ^ 32 → read_number k (figure k v) ≡ number_is v
read_short k v h l = read_figure k v (figure_short k v h l)
