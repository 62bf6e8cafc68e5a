-- Each path of the two functions, as their definitions have it.
use mathlib.Core.Path.{◌≡◌, refl, sym, ap, ◌∙◌, subst}
use mathlib.Core.Logic.{◌↔◌}
use mathlib.Core.Bool.{Bool, true, false, ◌&&◌, true≢false}
use Prim.Native.Nat.{ℕ, ◌*◌, ◌<◌, ◌≤◌}
use native.Mathlib.Nat.{mul-pos, mul-le-mul}
use lib.Dec.{T, leb, leb→le, le→leb}
use lib.Ieee.Fits.{and_i}
use Rattle.std.specs.Prelude.{Option, Some, None, Result, Ok, Err}
use Rattle.base.specs.Choice.{pick}
use Rattle.base.proofs.Table.{and_left, and_right}
use Rattle.leads.specs.declared.Row.{Row}
use Rattle.leads.specs.declared.LeadRefusal.{LeadRefusal}
use Rattle.leads.specs.declared.LeadRefusal.TheVariants.{NotListed, OutOfRange, NoneSuits}
use Rattle.leads.specs.declared.GaugeFor.{GaugeFor}
use Rattle.leads.specs.Gauges.{row_at, listing_of, in_range, current_in, length_in, within_limit}
use Rattle.leads.specs.Longest.{lead_metres, longest_by, longest_of}
use Rattle.leads.specs.Advice.{suits_by, suits, some_suits, chosen, advice_of, gauge_numbers, named_of, Suitable}
use Rattle.leads.proofs.Rows.{own_row, Fine, fine}

-- ---- ranges
pub range : (most n : ℕ) → T (in_range most n) ↔ ((1 ≤ n) × (n ≤ most))
range most n = (
  (λ t. (leb→le 1 n (and_left (leb 1 n) (leb n most) t), leb→le n most (and_right (leb 1 n) (leb n most) t))),
  (λ h. and_i (leb 1 n) (leb n most) (le→leb 1 n h.0) (le→leb n most h.1)),
)

module _ (most n : ℕ) (e : in_range most n ≡ true) where
  pub range_pos : 0 < n
  range_pos = ((range most n).0 (subst T (sym e) tt)).0

  pub range_le : n ≤ most
  range_le = ((range most n).0 (subst T (sym e) tt)).1

-- ---- the longest lead
module _ (g ma : ℕ) where
  pub not_listed : listing_of g ≡ None → (Err NotListed) ≡ longest_of g ma
  unfolding longest_of longest_by
  not_listed e = sym (ap (λ (l : Option ℕ). longest_by l ma) e)

  module _ (r : ℕ) (e : listing_of g ≡ Some r) where
    pub listed_longest : (b : Bool) → current_in ma ≡ b → pick b (Ok (lead_metres ma r)) (Err OutOfRange) ≡ longest_of g ma
    unfolding longest_of longest_by
    listed_longest b t =
        sym
        (ap (λ (l : Option ℕ). longest_by l ma) e ∙ ap (λ (b : Bool). pick b (Ok (lead_metres ma r)) (Err OutOfRange)) t)

    fine_row : Fine (Some r)
    fine_row = subst Fine e (fine g)

    pub product_pos : current_in ma ≡ true → 0 < ma * r
    product_pos t = mul-pos (range_pos 150000 ma t) fine_row.0

    pub product_le : current_in ma ≡ true → ma * r ≤ 150000 * 82870
    product_le t = mul-le-mul (range_le 150000 ma t) fine_row.1

-- ---- a gauge
module _ (ma mm : ℕ) where
  -- the current is judged first, then the length
  pub both_in : {b : Bool} → current_in ma ≡ true → length_in mm ≡ b → (current_in ma && length_in mm) ≡ b
  both_in c e = ap (λ (t : Bool). t && length_in mm) c ∙ e

  pub current_out : current_in ma ≡ false → (current_in ma && length_in mm) ≡ false
  current_out c = ap (λ (t : Bool). t && length_in mm) c

  pub chosen_by : (g : ℕ) (b : Bool) → some_suits ma mm ≡ b → pick b (Ok g) (Err NoneSuits) ≡ chosen ma mm g
  unfolding chosen
  chosen_by g b e = sym (ap (λ (t : Bool). pick t (Ok g) (Err NoneSuits)) e)

  pub within_suits : (x : Row) → listing_of x.gauge ≡ Some x.resistance → T (within_limit ma x.resistance mm) → T (suits ma mm x.gauge)
  unfolding suits suits_by
  within_suits x e w = subst (λ (l : Option ℕ). T (suits_by l ma mm)) (sym e) w

  pub row_suits : (i : ℕ) → i < 8 → (x : Row) → x ≡ row_at i → within_limit ma x.resistance mm ≡ true → Suitable ma mm x.gauge
  unfolding Suitable
  row_suits i h x r w e = within_suits x (own_row i h x r) (subst T (sym w) tt)

  -- an answer without a gauge names none
  is_gauge : Result ℕ LeadRefusal → Bool
  is_gauge (Ok g) = true
  is_gauge (Err e) = false

  nameless : (g : ℕ) → is_gauge (advice_of ma mm g) ≡ false → Suitable ma mm g
  unfolding Suitable is_gauge
  nameless g e a = absurd (true≢false (sym (ap is_gauge a) ∙ e))

  pub none_suitable : (g : ℕ) → some_suits ma mm ≡ false → Suitable ma mm g
  unfolding advice_of is_gauge
  none_suitable g e = nameless g (ap (λ (x : Result ℕ LeadRefusal). is_gauge (pick (current_in ma && length_in mm) x (Err OutOfRange))) (sym (chosen_by g false e)) ∙ go (current_in ma && length_in mm))
    where
      go : (t : Bool) → is_gauge (pick t (Err NoneSuits) (Err OutOfRange)) ≡ false
      go true = refl
      go false = refl

  pub advised : (a : Result ℕ LeadRefusal) → (current_in ma && length_in mm) ≡ true → a ≡ chosen ma mm (named_of a) → a ≡ advice_of ma mm (named_of a)
  unfolding advice_of
  advised a t e = e ∙ sym (ap (λ (b : Bool). pick b (chosen ma mm (named_of a)) (Err OutOfRange)) t)

  pub outside : (g : ℕ) → (current_in ma && length_in mm) ≡ false → ((Err OutOfRange) ≡ advice_of ma mm g) × Suitable ma mm g
  unfolding advice_of is_gauge
  outside g t =
      let is : (Err OutOfRange) ≡ advice_of ma mm g = sym (ap (λ (b : Bool). pick b (chosen ma mm g) (Err OutOfRange)) t) in
      (is, nameless g (ap is_gauge (sym is)))

  -- ---- the same as numbers
  abbrev pub Numbered : GaugeFor → Type 0
  Numbered d = (d ≡ gauge_numbers (advice_of ma mm d.gauge)) × Suitable ma mm d.gauge

  pub numbered : (a b : Result ℕ LeadRefusal) → a ≡ b → a ≡ advice_of ma mm (named_of a) → Suitable ma mm (named_of a) → Numbered (gauge_numbers b)
  numbered a b e h s = subst (λ (x : Result ℕ LeadRefusal). Numbered (gauge_numbers x)) e (ap gauge_numbers h, s)
