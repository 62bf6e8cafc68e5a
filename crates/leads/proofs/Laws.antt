-- The laws that `specs/Leads.antt` and `specs/Worked.antt` state.
use mathlib.Core.Path.{◌≡◌, refl, sym, ap, subst}
use mathlib.Core.Bool.{Bool, true, false, not, ◌&&◌, ◌||◌, false≢true}
use mathlib.Core.List.{List, [], ◌∷◌, map}
use Prim.Native.Nat.{ℕ, ◌*◌, ◌<◌}
use native.Mathlib.Nat.{mul_comm, le_trans, le_of_eq, le_of_lt}
use lib.Dec.{T, eqb, leb→le, le→leb, nleb→lt, lit<, lit≤}
use lib.Ieee.{Float, nan, binary64, le, round, to_bits}
use lib.Ieee.Order.{round_mono}
use Rattle.std.specs.Prelude.{Option, Some, None, Result, Ok, Err}
use Rattle.base.specs.Choice.{pick}
use Rattle.quotients.specs.Quotient.{rounded}
use Rattle.quotients.specs.Nearest.{NearestFloat}
use Rattle.quotients.proofs.Rounding.{rounded_nearest}
use Rattle.leads.specs.declared.Row.{Row}
use Rattle.leads.specs.declared.LeadRefusal.{LeadRefusal}
use Rattle.leads.specs.declared.LeadRefusal.TheVariants.{OutOfRange, NoneSuits}
use Rattle.leads.specs.Gauges.{table, first_row, listing_in, listing_of, is_listed, current_in, length_in, within_limit}
use Rattle.leads.specs.Longest.{lead_metres, longest_by, longest_of, lead_numbers}
use Rattle.leads.specs.Advice.{suits_by, suits, some_in, some_suits, chosen, advice_of, gauge_numbers}
use Rattle.leads.specs.Leads.{has, Columns, Tests, Refusals, MetresNearest, Agree}
use Rattle.leads.specs.Worked.{metre_bits, Worked}
use Rattle.leads.proofs.Answers.{range, product_pos, within_suits}
use Rattle.leads.proofs.Rows.{own_rows, Passing, some_row}

-- ---- the table by its columns
absent : (s : List Row) (g : ℕ) → T (not (has (map (λ (x : Row). x.gauge) s) g))
    → listing_in s g ≡ None
unfolding listing_in first_row
absent [] g h = refl
absent (x ∷ xs) g h = go (eqb x.gauge g) (has (map (λ (x : Row). x.gauge) xs) g) _ h (absent xs g)
  where
    go : (b t : Bool) (l : Option ℕ) → T (not (b || t)) → (T (not t) → l ≡ None)
        → pick b (Some x.resistance) l ≡ None
    go true t l h k = absurd h
    go false t l h k = k h

pub columns : Columns
unfolding listing_of listing_in first_row table
columns = record { listed = refl; each = refl; others = absent table }

-- ---- tests
pub tests : Tests
unfolding within_limit
tests =
    record {
      current = range 150000;
      length = range 1000000;
      limit = λ ma r mm. (leb→le (ma * r * mm) 10000000000000, le→leb (ma * r * mm) 10000000000000);
    }

-- ---- refusals
longest_code : (l : Option ℕ) (ma : ℕ) → (lead_numbers (longest_by l ma)).code ≡ pick (is_listed l) (pick (current_in ma) 0 10) 9
unfolding longest_by
longest_code None ma = refl
longest_code (Some r) ma = go (current_in ma)
  where
    go : (t : Bool) → (lead_numbers (pick t (Ok (lead_metres ma r)) (Err OutOfRange))).code ≡ pick t 0 10
    go true = refl
    go false = refl

advice_code : (t u : Bool) (g : ℕ) → (gauge_numbers (pick t (pick u (Ok g) (Err NoneSuits)) (Err OutOfRange))).code ≡ pick t (pick u 0 11) 10
advice_code true true g = refl
advice_code true false g = refl
advice_code false u g = refl

one_suits : (ma mm : ℕ) → T (some_suits ma mm) → (h : ℕ) × T (suits ma mm h)
unfolding some_suits some_in
one_suits ma mm t = go (some_row (λ (x : Row). within_limit ma x.resistance mm) table own_rows t)
  where
    go : Passing (λ (x : Row). within_limit ma x.resistance mm) → (h : ℕ) × T (suits ma mm h)
    go (x, w, e) = (x.gauge, within_suits ma mm x e w)

or_left : (w r : Bool) → T w → T (pick w true r)
or_left true r t = tt
or_left false r t = absurd t

or_right : (w r : Bool) → T r → T (pick w true r)
or_right true r t = tt
or_right false r t = t

listed_some : (ma mm h : ℕ) (s : List Row) → T (suits_by (listing_in s h) ma mm) → T (some_in s ma mm)
unfolding listing_in some_in first_row suits_by
listed_some ma mm h [] t = absurd t
listed_some ma mm h (x ∷ xs) t = go (eqb x.gauge h) _ _ t (listed_some ma mm h xs)
  where
    go : (b : Bool) (l : Option ℕ) (r : Bool) → T (suits_by (pick b (Some x.resistance) l) ma mm)
        → (T (suits_by l ma mm) → T r) → T (pick (within_limit ma x.resistance mm) true r)
    go true l r t ih = or_left (within_limit ma x.resistance mm) r t
    go false l r t ih = or_right (within_limit ma x.resistance mm) r (ih t)

suits_one : (ma mm h : ℕ) → T (suits ma mm h) → T (some_suits ma mm)
unfolding some_suits suits listing_of
suits_one ma mm h t = listed_some ma mm h table t

pub refusals : Refusals
unfolding longest_of advice_of chosen
refusals =
    record {
      longest = λ g ma. longest_code (listing_of g) ma;
      advice = λ ma mm g. advice_code (current_in ma && length_in mm) (some_suits ma mm) g;
      one_suits = one_suits;
      suits_one = suits_one;
    }

-- ---- the two questions
is_metres : Result Float LeadRefusal → Bool
is_metres (Ok x) = true
is_metres (Err e) = false

metres_of : Result Float LeadRefusal → Float
metres_of (Ok x) = x
metres_of (Err e) = nan

-- what there is to know where a length was returned
abbrev Answered : Option ℕ → ℕ → Float → Type 0
Answered l ma x = (r : ℕ) × (l ≡ Some r) × (0 < ma * r) × (x ≡ lead_metres ma r)

answered : (g ma : ℕ) (x : Float) (l : Option ℕ) → listing_of g ≡ l → longest_by l ma ≡ Ok x → Answered l ma x
unfolding longest_by is_metres metres_of
answered g ma x None s e = absurd (false≢true (ap is_metres e))
answered g ma x (Some r) s e = go (current_in ma) refl e
  where
    go : (t : Bool) → current_in ma ≡ t → pick t (Ok (lead_metres ma r)) (Err OutOfRange) ≡ Ok x → Answered (Some r) ma x
    go true c e = (r, refl, product_pos g ma r s c, sym (ap metres_of e))
    go false c e = absurd (false≢true (ap is_metres e))

pub metres_nearest : MetresNearest
unfolding longest_of lead_metres
metres_nearest g ma x e = go (answered g ma x (listing_of g) refl e)
  where
    go : Answered (listing_of g) ma x → (r : ℕ) × (listing_of g ≡ Some r) × NearestFloat x 10000000000 (ma * r)
    go (r, l, p, f) = (r, l, subst (λ (y : Float). NearestFloat y 10000000000 (ma * r)) (sym f) (rounded_nearest 10000000000 (ma * r) (lit≤ tt) p))

reaches : (ma mm r : ℕ) → 0 < ma * r → T (within_limit ma r mm) → T (le (rounded mm 1000) (lead_metres ma r))
unfolding rounded lead_metres within_limit
reaches ma mm r p h =
    round_mono binary64 mm 1000 10000000000 (ma * r) (lit< tt) p
    (le_trans (le_of_eq (mul_comm mm (ma * r))) (leb→le (ma * r * mm) 10000000000000 h))

falls_short : (ma mm r : ℕ) → 0 < ma * r → T (not (within_limit ma r mm)) → T (le (lead_metres ma r) (rounded mm 1000))
unfolding rounded lead_metres within_limit
falls_short ma mm r p h =
    round_mono binary64 10000000000 (ma * r) mm 1000 p (lit< tt)
    (le_trans (le_of_lt (nleb→lt (ma * r * mm) 10000000000000 h)) (le_of_eq (mul_comm (ma * r) mm)))

reaches_by : (l : Option ℕ) (ma mm : ℕ) (x : Float) → Answered l ma x → T (suits_by l ma mm) → T (le (rounded mm 1000) x)
unfolding suits_by
reaches_by l ma mm x (r, e, p, f) s =
    subst (λ (y : Float). T (le (rounded mm 1000) y)) (sym f)
    (reaches ma mm r p (subst (λ (k : Option ℕ). T (suits_by k ma mm)) e s))

falls_short_by : (l : Option ℕ) (ma mm : ℕ) (x : Float) → Answered l ma x → T (not (suits_by l ma mm)) → T (le x (rounded mm 1000))
unfolding suits_by
falls_short_by l ma mm x (r, e, p, f) s =
    subst (λ (y : Float). T (le y (rounded mm 1000))) (sym f)
    (falls_short ma mm r p (subst (λ (k : Option ℕ). T (not (suits_by k ma mm))) e s))

pub agree : Agree
unfolding longest_of suits
agree =
    record {
      reaches = λ ma mm g x e s. reaches_by (listing_of g) ma mm x (answered g ma x (listing_of g) refl e) s;
      falls_short = λ ma mm g x e s. falls_short_by (listing_of g) ma mm x (answered g ma x (listing_of g) refl e) s;
    }

pub worked : (g : ℕ) → Worked g
unfolding metre_bits longest_of longest_by lead_metres rounded listing_of listing_in first_row table advice_of chosen some_suits some_in suits suits_by within_limit to_bits round
worked g =
    record {
      at_5_amperes = refl;
      at_1_milliampere = refl;
      at_150_amperes = refl;
      at_36_amperes = refl;
      unlisted = refl;
      no_current = refl;
      five_metres = refl;
      at_7710_mm = refl;
      at_7711_mm = refl;
      named = refl;
      too_far = refl;
      too_long = refl;
      no_gauge_lem = λ c. refl;
    }
