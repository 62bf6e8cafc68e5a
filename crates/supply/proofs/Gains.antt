-- FEVE and SEVE bit by bit: what an event adds to them; and the events that add nothing.
use mathlib.Core.Path.{◌≡◌, refl, ap, ◌∙◌}
use mathlib.Core.Bool.{Bool, true, false, not, ◌&&◌, ◌||◌}
use Prim.Native.Nat.{ℕ, zero, suc, ◌+◌, ◌-◌, ◌*◌, ◌/◌, ◌%◌, ◌^◌, ◌<◌}
use native.Mathlib.Nat.{lt_of_le_of_lt, mul-one}
use native.Mathlib.Omega.{arith}
use lib.Dec.{eqb, lit<}
use lib.Bits.{bit_and, bit_or, and_le_l, and_le_r, and_zero_r, or_lt, or_zero_r}
use borrow.Author.Tests.{eqb-false}
use Rattle.base.specs.Choice.{bit}
use Rattle.base.specs.Bits.{bit_at}
use Rattle.base.proofs.Bits.{bit_of_or, bit_of_and}
use Rattle.supply.specs.declared.Supply.{Supply}
use Rattle.supply.specs.With.{with_seve}
use Rattle.supply.specs.Flt.{flt_of}
use Rattle.supply.specs.Stat.{in_cv, in_cc, no_fault, is_local, stat_of}
use Rattle.supply.specs.Registers.{rising, feve_gained, seve_gained, settled, FeveBit, SeveBit}

flag_lt : (b : Bool) (k : ℕ) → k < 256 → bit b * k < 256
flag_lt true k h = omega arith
flag_lt false k h = omega arith

-- FLT is a byte, whatever LINES is
pub flt_lt : (s : Supply) → flt_of s < 256
unfolding flt_of
flt_lt s =
    or_lt 8 _ _ (or_lt 8 _ _ (or_lt 8 _ _ (lt_of_le_of_lt (and_le_r s.lines 0xA6) (lit< tt)) (flag_lt s.fold_trip 8 (lit< tt))) (flag_lt s.ovp_trip 16 (lit< tt)))
    (flag_lt (not s.want) 64 (lit< tt))

-- and so is STAT
pub stat_lt : (m : ℕ) (s : Supply) → stat_of m s < 256
unfolding stat_of
stat_lt m s =
    or_lt 8 _ _ (or_lt 8 _ _ (or_lt 8 _ _ (or_lt 8 _ _ (or_lt 8 _ _ (or_lt 8 _ _
    (rw mul-one at (flag_lt (in_cv m s) 1 (lit< tt)))
    (flag_lt (in_cc m s) 2 (lit< tt)))
    (flag_lt (no_fault s) 4 (lit< tt)))
    (flag_lt (not (no_fault s)) 8 (lit< tt)))
    (flag_lt s.ast 16 (lit< tt)))
    (flag_lt s.armed 32 (lit< tt)))
    (flag_lt (is_local s) 128 (lit< tt))

-- one of two bits is the opposite of the other if they add up to 1
opposite : (a b : ℕ) → a + b ≡ 1 → eqb b 1 ≡ not (eqb a 1)
opposite zero zero e = absurd (omega arith)
opposite zero (suc zero) e = refl
opposite zero (suc (suc b)) e = absurd (omega arith)
opposite (suc zero) zero e = refl
opposite (suc zero) (suc b) e = absurd (omega arith)
opposite (suc (suc a)) b e = absurd (omega arith)

-- a bit of a byte's complement
bit_not : (k x : ℕ) → k < 8 → x < 256 → bit_at k (255 - x) ≡ not (bit_at k x)
unfolding bit_at
bit_not zero x h l = opposite (x / 2 ^ 0 % 2) ((255 - x) / 2 ^ 0 % 2) (omega arith)
bit_not (suc zero) x h l = opposite (x / 2 ^ 1 % 2) ((255 - x) / 2 ^ 1 % 2) (omega arith)
bit_not (suc (suc zero)) x h l = opposite (x / 2 ^ 2 % 2) ((255 - x) / 2 ^ 2 % 2) (omega arith)
bit_not (suc (suc (suc zero))) x h l = opposite (x / 2 ^ 3 % 2) ((255 - x) / 2 ^ 3 % 2) (omega arith)
bit_not (suc (suc (suc (suc zero)))) x h l = opposite (x / 2 ^ 4 % 2) ((255 - x) / 2 ^ 4 % 2) (omega arith)
bit_not (suc (suc (suc (suc (suc zero))))) x h l = opposite (x / 2 ^ 5 % 2) ((255 - x) / 2 ^ 5 % 2) (omega arith)
bit_not (suc (suc (suc (suc (suc (suc zero)))))) x h l = opposite (x / 2 ^ 6 % 2) ((255 - x) / 2 ^ 6 % 2) (omega arith)
bit_not (suc (suc (suc (suc (suc (suc (suc zero))))))) x h l = opposite (x / 2 ^ 7 % 2) ((255 - x) / 2 ^ 7 % 2) (omega arith)
bit_not (suc (suc (suc (suc (suc (suc (suc (suc k)))))))) x h l = absurd (omega arith)

-- what an event adds to a register, bit by bit
abbrev rises : ℕ → ℕ → ℕ → ℕ → Bool
rises enabled was is k = (bit_at k is && not (bit_at k was)) && bit_at k enabled

module _ (enabled was is : ℕ) (small : was < 256) where
  rising_bit : (k : ℕ) → k < 8 → bit_at k (rising enabled was is) ≡ rises enabled was is k
  rising_bit k h =
      bit_of_and k (bit_and is (255 - was)) enabled
      ∙ ap (λ (x : Bool). x && bit_at k enabled)
      (bit_of_and k is (255 - was) ∙ ap (λ (x : Bool). bit_at k is && x) (bit_not k was h small))

  gained_bit : (k x : ℕ) → k < 8 → bit_at k (bit_or x (rising enabled was is)) ≡ (bit_at k x || rises enabled was is k)
  gained_bit k x h =
      bit_of_or k x (rising enabled was is) ∙ ap (λ (y : Bool). bit_at k x || y) (rising_bit k h)

-- a bit that is not set is 0
even : (x : ℕ) → eqb (x % 2) 1 ≡ false → x % 2 ≡ 0
even x e = let n = eqb-false (x % 2) 1 e in by_rest (x % 2) n (omega arith)
  where
    by_rest : (r : ℕ) → (r ≡ 1 → ⊥) → r < 2 → r ≡ 0
    by_rest zero n l = refl
    by_rest (suc zero) n l = absurd (n refl)
    by_rest (suc (suc r)) n l = absurd (omega arith)

-- a byte with no bit set is 0: each bit, from the highest down, halves its range
no_bit : (x : ℕ) → x < 256 → ((k : ℕ) → k < 8 → bit_at k x ≡ false) → x ≡ 0
unfolding bit_at
no_bit x l off =
    let below128 : x < 128 = omega (arith, even (x / 128) (off 7 (lit< tt))) in
    let below64 : x < 64 = omega (arith, even (x / 64) (off 6 (lit< tt))) in
    let below32 : x < 32 = omega (arith, even (x / 32) (off 5 (lit< tt))) in
    let below16 : x < 16 = omega (arith, even (x / 16) (off 4 (lit< tt))) in
    let below8 : x < 8 = omega (arith, even (x / 8) (off 3 (lit< tt))) in
    let below4 : x < 4 = omega (arith, even (x / 4) (off 2 (lit< tt))) in
    let below2 : x < 2 = omega (arith, even (x / 2) (off 1 (lit< tt))) in
    omega (arith, even (x / 1) (off 0 (lit< tt)))

-- a register gains nothing if no enabled bit rises
gained_none : (enabled was is x : ℕ) → was < 256 → is < 256 → ((k : ℕ) → k < 8 → rises enabled was is k ≡ false)
    → bit_or x (rising enabled was is) ≡ x
gained_none enabled was is x h l none =
    let small : rising enabled was is < 256 =
    lt_of_le_of_lt (and_le_l (bit_and is (255 - was)) enabled) (lt_of_le_of_lt (and_le_l is (255 - was)) l) in
    let zero : rising enabled was is ≡ 0 =
    no_bit (rising enabled was is) small (λ k i. rising_bit enabled was is h k i ∙ none k i) in
    rw (zero, or_zero_r x) refl

-- nor if none is enabled
gained_off : (x was is : ℕ) → bit_or x (rising 0 was is) ≡ x
gained_off x was is = rw (and_zero_r (bit_and is (255 - was)), or_zero_r x) refl

-- nor if no bit rises at all
still : (enabled x k : ℕ) → rises enabled x x k ≡ false
still enabled x k = unmoved (bit_at k x) (bit_at k enabled)
  where
    unmoved : (x y : Bool) → ((x && not x) && y) ≡ false
    unmoved true y = refl
    unmoved false y = refl

module _ (before after : Supply) where
  -- FEVE BIT BY BIT
  pub feve_bit : (m k : ℕ) → k < 8 → FeveBit m before after k
  unfolding settled seve_gained feve_gained flt_of
  feve_bit m k h = gained_bit before.fena (flt_of before) (flt_of after) (flt_lt before) k after.feve h

  -- SEVE BIT BY BIT
  pub seve_bit : (m k : ℕ) → k < 8 → SeveBit m before after k
  unfolding settled seve_gained feve_gained
  seve_bit m k h =
      gained_bit before.sena (stat_of m before) (stat_of m (feve_gained before after)) (stat_lt m before) k after.seve h

  -- FEVE gains nothing from an event in which no enabled fault bit rises
  pub feve_none : ((k : ℕ) → k < 8 → rises before.fena (flt_of before) (flt_of after) k ≡ false)
      → feve_gained before after ≡ after
  unfolding feve_gained
  feve_none none =
      rw (gained_none before.fena (flt_of before) (flt_of after) after.feve (flt_lt before) (flt_lt after) none) refl

  -- nor from one that leaves FLT as it was
  pub feve_idle : flt_of after ≡ flt_of before → feve_gained before after ≡ after
  feve_idle e = feve_none (λ k h. rw e (still before.fena (flt_of before) k))

  -- SEVE gains nothing from an event in which no enabled status bit rises
  pub seve_none : (m : ℕ) → ((k : ℕ) → k < 8 → rises before.sena (stat_of m before) (stat_of m after) k ≡ false)
      → seve_gained m before after ≡ after
  unfolding seve_gained
  seve_none m none =
      rw (gained_none before.sena (stat_of m before) (stat_of m after) after.seve (stat_lt m before) (stat_lt m after) none) refl

  -- nor from one that leaves STAT as it was
  pub seve_idle : (m : ℕ) → stat_of m after ≡ stat_of m before → seve_gained m before after ≡ after
  seve_idle m e = seve_none m (λ k h. rw e (still before.sena (stat_of m before) k))

  -- nor from any event while SENA is 0
  pub seve_disabled : (m : ℕ) → before.sena ≡ 0 → seve_gained m before after ≡ after
  unfolding seve_gained
  seve_disabled m e =
      ap (λ (x : ℕ). with_seve (bit_or after.seve (rising x (stat_of m before) (stat_of m after))) after) e
      ∙ ap (λ (x : ℕ). with_seve x after) (gained_off after.seve (stat_of m before) (stat_of m after))

-- an event that leaves FLT and STAT as they were adds nothing
pub settled_idle : (m : ℕ) (s t : Supply) → flt_of t ≡ flt_of s → stat_of m t ≡ stat_of m s → settled m s t ≡ t
unfolding settled
settled_idle m s t f e = rw (feve_idle s t f) (seve_idle s t m e)
