-- Under any limits, the values that a setting may take are an interval, and the knob gives the one nearest to the
-- exact sum.
use mathlib.Core.Path.{◌≡◌, refl, sym, ◌∙◌}
use mathlib.Core.Bool.{Bool, true, false, cond}
use Prim.Native.Nat.{ℕ, zero, suc, ◌+◌, ◌-◌, ◌*◌, ◌≤◌, ◌<◌}
use native.Mathlib.Nat.{suc-mul, div-lt_iff_lt-mul}
use native.Mathlib.Omega.{arith}
use lib.Dec.{ltb, lit<}
use lib.IntN.{ℤ, pos, negsuc, ◌+ℤ◌, ◌-ℤ◌, nat_abs}
use borrow.Author.Tests.{ltb-true, ltb-false}
use Rattle.models.specs.declared.Limits.{Limits}
use Rattle.supply.specs.declared.Supply.{Supply}
use Rattle.supply.specs.declared.Target.{Target}
use Rattle.supply.specs.declared.Target.TheVariants.{Pv, Pc, Ovp, Uvl}
use Rattle.settings.specs.Settings.{setting_of, with_setting, ceiling, least_of, most_of, signed_of, nearest_in, stepped}
use Rattle.settings.specs.Lawful.{Within, Bounded, Admissible, Nearest}

-- a quotient rounded up is at most x exactly if the dividend is at most x times the divisor
module _ (q n x : ℕ) (some : 0 < q) where
  le_of_ceiling : ceiling n q ≤ x → n ≤ x * q
  le_of_ceiling h = let r : n + (q - 1) < suc x * q = (div-lt_iff_lt-mul some).0 (omega arith) in omega (arith, rw suc-mul at r)

  pub ceiling_le : n ≤ x * q → ceiling n q ≤ x
  ceiling_le h = let r : n + (q - 1) < suc x * q = rw suc-mul (omega arith) in omega (arith, (div-lt_iff_lt-mul {y = suc x} some).1 r)

-- setting a setting to its own value changes nothing
pub same_setting : (s : Supply) (t : Target) → with_setting t (setting_of t s) s ≡ s
unfolding with_setting setting_of
same_setting s Pv = refl
same_setting s Pc = refl
same_setting s Ovp = refl
same_setting s Uvl = refl

-- the seven facts about four settings, in the order of `Within`
pub within :
    (l : Limits) (pv pc ovp uvl : ℕ)
    → 20 * uvl ≤ 19 * pv → 21 * pv ≤ 20 * ovp
    → 20 * pv ≤ 21 * l.volts → 20 * pc ≤ 21 * l.amps
    → l.ovp_least ≤ ovp → ovp ≤ l.ovp_most → uvl ≤ l.uvl_most
    → Within l pv pc ovp uvl
within l pv pc ovp uvl a b c d e f g =
    record { uvl_margin = a; ovp_margin = b; pv_limit = c; pc_limit = d; ovp_least = e; ovp_most = f; uvl_most = g }

module _ (l : Limits) (s : Supply) where
  -- an admissible value lies between the least and the greatest
  pub in_range : (t : Target) (x : ℕ) → Admissible l s t x → (least_of l s t ≤ x) × (x ≤ most_of l s t)
  unfolding with_setting least_of most_of
  in_range Pv x h = (ceiling_le 19 (20 * s.uvl) x (lit< tt) (omega (arith, h.uvl_margin)), omega (arith, h.ovp_margin, h.pv_limit))
  in_range Pc x h = (omega arith, omega (arith, h.pc_limit))
  in_range Ovp x h = (omega (arith, h.ovp_least, ceiling_le 20 (21 * s.pv) x (lit< tt) (omega (arith, h.ovp_margin))), h.ovp_most)
  in_range Uvl x h = (omega arith, omega (arith, h.uvl_most, h.uvl_margin))

  -- and every value between them is admissible if the supply itself keeps margins and limits
  pub from_range : (t : Target) (x : ℕ) → Bounded l s → least_of l s t ≤ x → x ≤ most_of l s t → Admissible l s t x
  unfolding with_setting least_of most_of
  from_range Pv x h lo hi =
      within l x s.pc s.ovp s.uvl (omega (arith, le_of_ceiling 19 (20 * s.uvl) x (lit< tt) lo)) (omega arith) (omega arith)
      h.pc_limit h.ovp_least h.ovp_most h.uvl_most
  from_range Pc x h lo hi =
      within l s.pv x s.ovp s.uvl h.uvl_margin h.ovp_margin h.pv_limit (omega arith) h.ovp_least h.ovp_most h.uvl_most
  from_range Ovp x h lo hi =
      within l s.pv s.pc x s.uvl h.uvl_margin (omega (arith, le_of_ceiling 20 (21 * s.pv) x (lit< tt) (omega arith)))
      h.pv_limit h.pc_limit (omega arith) hi h.uvl_most
  from_range Uvl x h lo hi =
      within l s.pv s.pc s.ovp x (omega arith) h.ovp_margin h.pv_limit h.pc_limit h.ovp_least h.ovp_most (omega arith)

  -- so the interval of a supply that keeps margins and limits is not empty: it contains the present setting
  pub not_empty : (t : Target) → Bounded l s → least_of l s t ≤ most_of l s t
  not_empty t h = let r = in_range t (setting_of t s) (rw (same_setting s t) h) in omega arith

-- the interval does not depend on the setting itself: if one value is admissible, so is all of the interval
pub from_other : (l : Limits) (s : Supply) (t : Target) (x y : ℕ) → Admissible l s t x → least_of l s t ≤ y → y ≤ most_of l s t → Admissible l s t y
unfolding with_setting least_of most_of
from_other l s Pv x y a lo hi = from_range l (with_setting Pv x s) Pv y a lo hi
from_other l s Pc x y a lo hi = from_range l (with_setting Pc x s) Pc y a lo hi
from_other l s Ovp x y a lo hi = from_range l (with_setting Ovp x s) Ovp y a lo hi
from_other l s Uvl x y a lo hi = from_range l (with_setting Uvl x s) Uvl y a lo hi

-- the distance of a whole number from an integer
dist_below : (v k : ℕ) → nat_abs (pos v -ℤ pos k) ≡ (v - k) + (k - v)
dist_below v zero = omega arith
dist_below v (suc k) = by_sign (ltb v (suc k)) refl
  where
    by_sign : (t : Bool) → ltb v (suc k) ≡ t → nat_abs (cond t (negsuc (suc k - suc v)) (pos (v - suc k))) ≡ (v - suc k) + (suc k - v)
    by_sign true e = omega (arith, ltb-true v (suc k) e)
    by_sign false e = omega (arith, ltb-false v (suc k) e)

-- `nearest_within` gives a whole number of the interval, and none in the interval is nearer to the integer
module _ (lo hi : ℕ) (some : lo ≤ hi) where
  pub nearest_within : (z : ℤ) → (lo ≤ nearest_in lo hi z) × (nearest_in lo hi z ≤ hi)
  unfolding nearest_in
  nearest_within z = (omega arith, omega arith)

  pub nearest_is : (z : ℤ) (y : ℕ) → lo ≤ y → y ≤ hi → nat_abs (pos (nearest_in lo hi z) -ℤ z) ≤ nat_abs (pos y -ℤ z)
  unfolding nearest_in
  nearest_is (pos k) y l u = rw (dist_below (nearest_in lo hi (pos k)) k, dist_below y k) (omega arith)
  nearest_is (negsuc k) y l u = omega arith

  -- and no other is as near
  pub nearest_alone : (z : ℤ) (y : ℕ) → lo ≤ y → y ≤ hi → nat_abs (pos y -ℤ z) ≤ nat_abs (pos (nearest_in lo hi z) -ℤ z) → y ≡ nearest_in lo hi z
  unfolding nearest_in
  nearest_alone (pos k) y l u h = omega (arith, rw (dist_below (nearest_in lo hi (pos k)) k, dist_below y k) at h)
  nearest_alone (negsuc k) y l u h = omega arith

module _ (l : Limits) (s : Supply) (t : Target) (raw : ℕ) where
  -- THE KNOB, on a supply that keeps margins and limits
  pub stepped_nearest : Bounded l s → Nearest l s t raw (stepped l s t raw)
  unfolding stepped
  stepped_nearest h =
      let z = pos (setting_of t s) +ℤ signed_of raw in
      let e = not_empty l s t h in
      let b = nearest_within (least_of l s t) (most_of l s t) e z in
      record {
        admissible = from_range l s t (nearest_in (least_of l s t) (most_of l s t) z) h b.0 b.1;
        nearest = λ y a. let r = in_range l s t y a in nearest_is (least_of l s t) (most_of l s t) e z y r.0 r.1;
      }

  -- on any supply, the knob's value is the only one that can be nearest
  pub nearest_stepped : (n : ℕ) → Nearest l s t raw n → n ≡ stepped l s t raw
  unfolding stepped
  nearest_stepped n h =
      let z = pos (setting_of t s) +ℤ signed_of raw in
      let r = in_range l s t n h.admissible in
      let e : least_of l s t ≤ most_of l s t = omega arith in
      let b = nearest_within (least_of l s t) (most_of l s t) e z in
      let x = nearest_in (least_of l s t) (most_of l s t) z in
      nearest_alone (least_of l s t) (most_of l s t) e z n r.0 r.1 (h.nearest x (from_other l s t n x h.admissible b.0 b.1))

  -- so there is at most one nearest value
  pub nearest_one : (n k : ℕ) → Nearest l s t raw n → Nearest l s t raw k → n ≡ k
  nearest_one n k h i = nearest_stepped n h ∙ sym (nearest_stepped k i)
