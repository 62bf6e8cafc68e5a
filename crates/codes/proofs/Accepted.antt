-- An accepted figure: it passed each check in turn, so it lies in the range of its setting, and fits in 32 bits.
use mathlib.Core.Path.{◌≡◌}
use mathlib.Core.Bool.{◌||◌}
use Prim.Native.Nat.{ℕ, ◌*◌, ◌%◌, ◌^◌, ◌<◌, ◌≤◌}
use native.Mathlib.Omega.{arith}
use lib.Dec.{ltb, lit<}
use borrow.Author.Tests.{ltb-false}
use Rattle.base.proofs.Choice.{neither, passed}
use Rattle.models.specs.declared.Limits.{Limits}
use Rattle.models.specs.Models.{limits_of}
use Rattle.settings.specs.Settings.{least_of, most_of}
use Rattle.settings.proofs.Knob.{ceiling_le}
use Rattle.settings.proofs.Numbers.{most_fits}
use Rattle.supply.specs.declared.Supply.{Supply}
use Rattle.supply.specs.declared.Target.{Target}
use Rattle.supply.specs.declared.Target.TheVariants.{Pv, Pc, Ovp, Uvl}
use Rattle.supply.specs.declared.Order.TheVariants.{Set}
use Rattle.codes.specs.Codes.{above105, set_code, order_code}

module _ (l : Limits) (s : Supply) where
  -- a figure that passes the checks lies between the least and the greatest value, on any supply
  pub accepted_range : (t : Target) (n : ℕ) → set_code l s t n ≡ 0 → (least_of l s t ≤ n) × (n ≤ most_of l s t)
  unfolding set_code least_of most_of
  accepted_range Pv n e =
      let a = passed (above105 l.volts n) 196 _ e in
      let b = passed (ltb (20 * s.ovp) (21 * n)) 224 _ a.1 in
      let c = passed (ltb (19 * n) (20 * s.uvl)) 225 _ b.1 in
      let pv_limit : 20 * n ≤ 21 * l.volts = ltb-false _ _ a.0 in
      let ovp_margin : 21 * n ≤ 20 * s.ovp = ltb-false _ _ b.0 in
      let uvl_margin : 20 * s.uvl ≤ 19 * n = ltb-false _ _ c.0 in
      (ceiling_le 19 (20 * s.uvl) n (lit< tt) (omega arith), omega arith)
  accepted_range Pc n e =
      let a = passed (above105 l.amps n) 196 _ e in
      let pc_limit : 20 * n ≤ 21 * l.amps = ltb-false _ _ a.0 in
      (omega arith, omega arith)
  accepted_range Ovp n e =
      let a = passed (ltb n l.ovp_least || ltb l.ovp_most n) 196 _ e in
      let b = passed (ltb (20 * n) (21 * s.pv)) 227 _ a.1 in
      let o = neither (ltb n l.ovp_least) (ltb l.ovp_most n) a.0 in
      let ovp_least : l.ovp_least ≤ n = ltb-false _ _ o.0 in
      let ovp_margin : 21 * s.pv ≤ 20 * n = ltb-false _ _ b.0 in
      (omega (arith, ceiling_le 20 (21 * s.pv) n (lit< tt) (omega arith)), ltb-false _ _ o.1)
  accepted_range Uvl n e =
      let a = passed (ltb l.uvl_most n) 196 _ e in
      let b = passed (ltb (19 * s.pv) (20 * n)) 229 _ a.1 in
      let uvl_most : n ≤ l.uvl_most = ltb-false _ _ a.0 in
      let uvl_margin : 20 * n ≤ 19 * s.pv = ltb-false _ _ b.0 in
      (omega arith, omega arith)

-- so it fits in 32 bits under every model
set_fits : (m : ℕ) (s : Supply) (t : Target) (n : ℕ) → set_code (limits_of m) s t n ≡ 0 → n < 2 ^ 32
set_fits m s t n e = omega (arith, (accepted_range (limits_of m) s t n e).1, most_fits m s t)

-- the low 32 bits of an accepted figure are all of it
pub set_low : (m : ℕ) (s : Supply) (t : Target) (n : ℕ) → order_code m s (Set t n) ≡ 0 → n % 0x100000000 ≡ n
unfolding order_code
set_low m s t n e = omega (arith, set_fits m s t n e)
