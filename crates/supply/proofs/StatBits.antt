-- STAT bit by bit.
use mathlib.Core.Path.{◌≡◌, refl, ◌∙◌}
use mathlib.Core.Bool.{Bool, true, false, not, ◌||◌}
use Prim.Native.Nat.{ℕ}
use Rattle.base.specs.Choice.{bit}
use Rattle.base.specs.Bits.{bit_at, shift}
use Rattle.base.proofs.Bits.{bit_of_or}
use Rattle.supply.specs.declared.Supply.{Supply}
use Rattle.supply.specs.Stat.{in_cv, in_cc, no_fault, is_local, stat_of, StatBits}

-- bit k of a flag at each of its places
abbrev at : ℕ → ℕ → Bool → Bool
at k j b = bit_at k (shift j (bit b))

-- bit k of the seven flags together
abbrev joined : ℕ → (a b c d e f g : Bool) → Bool
joined k a b c d e f g = (((((bit_at k (bit a) || at k 1 b) || at k 2 c) || at k 3 d) || at k 4 e) || at k 5 f) || at k 7 g

stat_bit : (k m : ℕ) (s : Supply) → bit_at k (stat_of m s) ≡ joined k (in_cv m s) (in_cc m s) (no_fault s) (not (no_fault s)) s.ast s.armed (is_local s)
unfolding stat_of
stat_bit k m s = simp bit_of_or

-- at its own place a flag is itself, and at every other place it is not seen
here : (k : ℕ) (b : Bool) → bit_at k (shift k (bit true)) ≡ true → bit_at k (shift k (bit false)) ≡ false → at k k b ≡ b
here k true e f = e
here k false e f = f

off : (k j : ℕ) (b : Bool) → bit_at k (shift j (bit true)) ≡ false → bit_at k (shift j (bit false)) ≡ false → at k j b ≡ false
off k j true e f = e
off k j false e f = f

-- the flag at bit 0 is not shifted
first : (b : Bool) → bit_at 0 (bit b) ≡ b
unfolding bit_at
first true = refl
first false = refl

first_off : (k : ℕ) (b : Bool) → bit_at k 1 ≡ false → bit_at k 0 ≡ false → bit_at k (bit b) ≡ false
first_off k true e f = e
first_off k false e f = f

or_false : (b : Bool) → (b || false) ≡ b
or_false true = refl
or_false false = refl

record Joined (a b c d e f g : Bool) : Type 0 where
  bit0 : joined 0 a b c d e f g ≡ a
  bit1 : joined 1 a b c d e f g ≡ b
  bit2 : joined 2 a b c d e f g ≡ c
  bit3 : joined 3 a b c d e f g ≡ d
  bit4 : joined 4 a b c d e f g ≡ e
  bit5 : joined 5 a b c d e f g ≡ f
  bit6 : joined 6 a b c d e f g ≡ false
  bit7 : joined 7 a b c d e f g ≡ g

each_bit : (a b c d e f g : Bool) → Joined a b c d e f g
unfolding bit_at
each_bit a b c d e f g =
    record {
      bit0 = rw (first a, off 0 1 b refl refl, off 0 2 c refl refl, off 0 3 d refl refl, off 0 4 e refl refl, off 0 5 f refl refl, off 0 7 g refl refl) (simp or_false);
      bit1 = rw (first_off 1 a refl refl, here 1 b refl refl, off 1 2 c refl refl, off 1 3 d refl refl, off 1 4 e refl refl, off 1 5 f refl refl, off 1 7 g refl refl) (simp or_false);
      bit2 = rw (first_off 2 a refl refl, off 2 1 b refl refl, here 2 c refl refl, off 2 3 d refl refl, off 2 4 e refl refl, off 2 5 f refl refl, off 2 7 g refl refl) (simp or_false);
      bit3 = rw (first_off 3 a refl refl, off 3 1 b refl refl, off 3 2 c refl refl, here 3 d refl refl, off 3 4 e refl refl, off 3 5 f refl refl, off 3 7 g refl refl) (simp or_false);
      bit4 = rw (first_off 4 a refl refl, off 4 1 b refl refl, off 4 2 c refl refl, off 4 3 d refl refl, here 4 e refl refl, off 4 5 f refl refl, off 4 7 g refl refl) (simp or_false);
      bit5 = rw (first_off 5 a refl refl, off 5 1 b refl refl, off 5 2 c refl refl, off 5 3 d refl refl, off 5 4 e refl refl, here 5 f refl refl, off 5 7 g refl refl) (simp or_false);
      bit6 = rw (first_off 6 a refl refl, off 6 1 b refl refl, off 6 2 c refl refl, off 6 3 d refl refl, off 6 4 e refl refl, off 6 5 f refl refl, off 6 7 g refl refl) refl;
      bit7 = rw (first_off 7 a refl refl, off 7 1 b refl refl, off 7 2 c refl refl, off 7 3 d refl refl, off 7 4 e refl refl, off 7 5 f refl refl, here 7 g refl refl) refl;
    }

-- STAT BIT BY BIT
pub stat_bits : (m : ℕ) (s : Supply) → StatBits m s
stat_bits m s =
    record {
      cv = stat_bit 0 m s ∙ all.bit0;
      cc = stat_bit 1 m s ∙ all.bit1;
      no_fault = stat_bit 2 m s ∙ all.bit2;
      fault = stat_bit 3 m s ∙ all.bit3;
      ast = stat_bit 4 m s ∙ all.bit4;
      armed = stat_bit 5 m s ∙ all.bit5;
      none = stat_bit 6 m s ∙ all.bit6;
      local = stat_bit 7 m s ∙ all.bit7;
    }
  where
    all : Joined (in_cv m s) (in_cc m s) (no_fault s) (not (no_fault s)) s.ast s.armed (is_local s)
    all = each_bit (in_cv m s) (in_cc m s) (no_fault s) (not (no_fault s)) s.ast s.armed (is_local s)
