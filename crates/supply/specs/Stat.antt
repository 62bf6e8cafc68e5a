-- STAT, the operating status, worked out from the state.
use Rattle.std.specs.Prelude.{ℕ, ◌≡◌, Bool, false, not, ◌&&◌, eqb}
use Rattle.std.specs.Int.Bits.{bit_or}
use Rattle.base.specs.Choice.{bit}
use Rattle.base.specs.Bits.{bit_at, shift}
use Rattle.supply.specs.declared.Supply.{Supply}
use Rattle.supply.specs.Flt.{on_of, in_limit}

-- the output is on and the current is below PC, or has reached it; both are false with the output off
abbrev pub in_cv : ℕ → Supply → Bool
in_cv m s = on_of s && not (in_limit m s)

abbrev pub in_cc : ℕ → Supply → Bool
in_cc m s = on_of s && in_limit m s

-- FEVE is 0
abbrev pub no_fault : Supply → Bool
no_fault s = eqb s.feve 0

-- MODE is local
abbrev pub is_local : Supply → Bool
is_local s = eqb s.mode 0

-- STAT: CV at bit 0, CC 1, FEVE is 0 at 2, FEVE is not 0 at 3, AST 4, ARMED 5, MODE 0 at 7; bit 6 is not used
unfoldable pub stat_of : ℕ → Supply → ℕ
stat_of m s =
    bit_or
    (bit_or
    (bit_or
    (bit_or
    (bit_or
    (bit_or (bit (in_cv m s)) (shift 1 (bit (in_cc m s))))
    (shift 2 (bit (no_fault s))))
    (shift 3 (bit (not (no_fault s)))))
    (shift 4 (bit s.ast)))
    (shift 5 (bit s.armed)))
    (shift 7 (bit (is_local s)))

-- STAT BIT BY BIT, each in terms of the state itself
pub record StatBits (m : ℕ) (s : Supply) : Type 0 where
  pub cv : bit_at 0 (stat_of m s) ≡ (on_of s && not (in_limit m s))
  pub cc : bit_at 1 (stat_of m s) ≡ (on_of s && in_limit m s)
  pub no_fault : bit_at 2 (stat_of m s) ≡ eqb s.feve 0
  pub fault : bit_at 3 (stat_of m s) ≡ not (eqb s.feve 0)
  pub ast : bit_at 4 (stat_of m s) ≡ s.ast
  pub armed : bit_at 5 (stat_of m s) ≡ s.armed
  pub none : bit_at 6 (stat_of m s) ≡ false
  pub local : bit_at 7 (stat_of m s) ≡ eqb s.mode 0
