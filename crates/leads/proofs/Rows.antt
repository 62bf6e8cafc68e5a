-- The first row that passes a test, as a loop over the table finds it; and rules of the table.
use mathlib.Core.Path.{◌≡◌, refl, sym, ap, ◌∙◌, subst}
use mathlib.Core.Bool.{Bool, true, false}
use mathlib.Core.List.{List, [], ◌∷◌}
use Prim.Native.Nat.{ℕ, zero, suc, ◌+◌, ◌<◌, ◌≤◌}
use native.Mathlib.Nat.{not-suc-le-zero, le_of_suc-le-suc}
use native.Mathlib.Numerals.{add-one}
use lib.Dec.{T, eqb, eqb→eq}
use lib.ListN.{length, get_or, drop, drop_of_length-le}
use lib.Seq.{drop-cons}
use Rattle.std.specs.Prelude.{Option, Some, None, cond}
use Rattle.std.specs.Option.{option_map}
use Rattle.std.specs.List.{find}
use Rattle.base.specs.Choice.{pick}
use Rattle.base.proofs.Table.{Check, lt, le, ◌and◌, every, and_left, and_right}
use Rattle.leads.specs.declared.Row.{Row}
use Rattle.leads.specs.Gauges.{row_of, table, row_at, first_row, listing_in, listing_of, within_limit}
use Rattle.leads.specs.Advice.{some_in}

in_table : (i : ℕ) → i < 8 → i < length table
unfolding table
in_table i h = h

row_first : (i : ℕ) → i < 8 → drop i table ≡ row_at i ∷ drop (i + 1) table
unfolding row_at
row_first i h = rw add-one (drop-cons table i (row_of 0 0) (in_table i h))

module _ {A : Type 0} (test : Row → Bool) (v : Row → A) (e : A) (i : ℕ) where
  first_here : i < 8 → test (row_at i) ≡ true → first_row test v e (drop i table) ≡ v (row_at i)
  unfolding first_row
  first_here h t = rw (row_first i h, t) refl

  first_on : i < 8 → test (row_at i) ≡ false → first_row test v e (drop i table) ≡ first_row test v e (drop (i + 1) table)
  unfolding first_row
  first_on h t = rw (row_first i h, t) refl

  first_end : 8 ≤ i → first_row test v e (drop i table) ≡ e
  unfolding first_row table
  first_end h = rw (drop_of_length-le table h) refl

-- ---- what rows have for a gauge, as the code finds it
pub found : (g : ℕ) (s : List Row) → option_map (λ (x : Row). x.resistance) (find (λ (x : Row). eqb x.gauge g) s) ≡ listing_in s g
unfolding listing_in first_row
found g [] = refl
found g (x ∷ xs) = go (eqb x.gauge g) (find (λ (y : Row). eqb y.gauge g) xs) (found g xs)
  where
    go : (b : Bool) (o : Option Row) {l : Option ℕ} → option_map (λ (y : Row). y.resistance) o ≡ l
        → option_map (λ (y : Row). y.resistance) (cond b (Some x) o) ≡ pick b (Some x.resistance) l
    go true o e = refl
    go false o e = e

-- ---- one turn of a loop, at row i, which is x
module _ (ma mm i : ℕ) where
  pub some_here : i < 8 → (x : Row) → x ≡ row_at i → within_limit ma x.resistance mm ≡ true → some_in (drop i table) ma mm ≡ true
  unfolding some_in
  some_here h x r t =
      first_here (λ (y : Row). within_limit ma y.resistance mm) (λ (y : Row). true) false i h
      (ap (λ (y : Row). within_limit ma y.resistance mm) (sym r) ∙ t)

  pub some_on : i < 8 → (x : Row) → x ≡ row_at i → within_limit ma x.resistance mm ≡ false
      → some_in (drop i table) ma mm ≡ some_in (drop (i + 1) table) ma mm
  unfolding some_in
  some_on h x r t =
      first_on (λ (y : Row). within_limit ma y.resistance mm) (λ (y : Row). true) false i h
      (ap (λ (y : Row). within_limit ma y.resistance mm) (sym r) ∙ t)

  pub some_end : 8 ≤ i → some_in (drop i table) ma mm ≡ false
  unfolding some_in
  some_end h = first_end (λ (x : Row). within_limit ma x.resistance mm) (λ (x : Row). true) false i h

-- ---- rules of the table
at_index : (f : Row → Check) (s : List Row) → T (every f s) → (i : ℕ) (d : Row) → i < length s → (f (get_or s i d)).fact
at_index f [] t i d h = absurd (not-suc-le-zero h)
at_index f (x ∷ xs) t zero d h = (f x).sound (and_left (f x).test (every f xs) t)
at_index f (x ∷ xs) t (suc i) d h = at_index f xs (and_right (f x).test (every f xs) t) i d (le_of_suc-le-suc h)

-- a resistance is above 0, and so small that no product overflows
abbrev Rule : Row → Check
Rule x = lt 0 x.resistance and le x.resistance 82870

abbrev pub Fine : Option ℕ → Type 0
Fine None = Unit {0}
Fine (Some r) = (0 < r) × (r ≤ 82870)

listed_fine : (s : List Row) → T (every Rule s) → (g : ℕ) → Fine (listing_in s g)
unfolding listing_in first_row
listed_fine [] t g = tt
listed_fine (x ∷ xs) t g =
    go (eqb x.gauge g) _ ((Rule x).sound (and_left (Rule x).test (every Rule xs) t))
    (listed_fine xs (and_right (Rule x).test (every Rule xs) t) g)
  where
    go : (b : Bool) (l : Option ℕ) → Fine (Some x.resistance) → Fine l → Fine (pick b (Some x.resistance) l)
    go true l f g = f
    go false l f g = g

rules : T (every Rule table)
unfolding table
rules = tt

pub fine : (g : ℕ) → Fine (listing_of g)
unfolding listing_of
fine g = listed_fine table rules g

pub row_le : (i : ℕ) → i < 8 → (x : Row) → x ≡ row_at i → x.resistance ≤ 82870
unfolding row_at
row_le i h x r = subst (λ (y : Row). y.resistance ≤ 82870) (sym r) (at_index Rule table rules i (row_of 0 0) (in_table i h)).1

-- each row is looked up as itself
abbrev pub listed_as : Option ℕ → ℕ → Bool
listed_as None r = false
listed_as (Some q) r = eqb q r

pub listed_as_lem : (l : Option ℕ) (r : ℕ) → T (listed_as l r) → l ≡ Some r
listed_as_lem None r t = absurd t
listed_as_lem (Some q) r t = ap Some (eqb→eq q r t)

abbrev pub Own : Row → Check
Own x =
    record {
      fact = listing_of x.gauge ≡ Some x.resistance;
      test = listed_as (listing_of x.gauge) x.resistance;
      sound = listed_as_lem (listing_of x.gauge) x.resistance;
    }

pub own_rows : T (every Own table)
unfolding table listing_of listing_in first_row
own_rows = tt

pub own_row : (i : ℕ) → i < 8 → (x : Row) → x ≡ row_at i → listing_of x.gauge ≡ Some x.resistance
unfolding row_at
own_row i h x r =
    subst (λ (y : Row). listing_of y.gauge ≡ Some y.resistance) (sym r)
    (at_index Own table own_rows i (row_of 0 0) (in_table i h))

-- ---- where a row passes a test, there is one that does
abbrev pub Passing : (Row → Bool) → Type 0
Passing test = (x : Row) × T (test x) × (listing_of x.gauge ≡ Some x.resistance)

pub some_row : (test : Row → Bool) (s : List Row) → T (every Own s) → T (first_row test (λ (x : Row). true) false s) → Passing test
unfolding first_row
some_row test [] o t = absurd t
some_row test (x ∷ xs) o t = go (test x) _ refl t (some_row test xs (and_right (Own x).test (every Own xs) o))
  where
    go : (b r : Bool) → test x ≡ b → T (pick b true r) → (T r → Passing test) → Passing test
    go true r e t ih = (x, subst T (sym e) tt, (Own x).sound (and_left (Own x).test (every Own xs) o))
    go false r e t ih = ih t
