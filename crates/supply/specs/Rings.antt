-- When a supply sends its service message; s is the supply before a field, t the same supply after it.
use Rattle.std.specs.Prelude.{◌≡◌, ◌⊎◌, Bool, true, not, ◌&&◌, ◌||◌, ℕ, eqb}
use Rattle.supply.specs.declared.Supply.{Supply}

-- a register was 0 and is not
abbrev pub risen : ℕ → ℕ → Bool
risen was is = eqb was 0 && not (eqb is 0)

-- FEVE has risen so, or SEVE has
abbrev pub rings_of : Supply → Supply → Bool
rings_of s t = risen s.feve t.feve || risen s.seve t.seve

abbrev pub Risen : ℕ → ℕ → Type 0
Risen was is = (was ≡ 0) × (is ≡ 0 → ⊥)

-- THE SAME IN PLAIN TERMS
pub record RingsWhen (s t : Supply) : Type 0 where
  -- either register is enough, whatever the other holds
  pub by_feve : Risen s.feve t.feve → rings_of s t ≡ true
  pub by_seve : Risen s.seve t.seve → rings_of s t ≡ true
  -- and nothing else is
  pub only : rings_of s t ≡ true → Risen s.feve t.feve ⊎ Risen s.seve t.seve
