-- THE CV MEMORY OVER WHOLE LISTS OF ENTRIES: it is set exactly if a sample was judged CV since the output came on.
use Rattle.std.specs.Prelude.{ℕ, ◌≡◌, Bool, true, false, not, ◌&&◌, leb, eqb}
use mathlib.Core.List.{List, [], ◌∷◌, ◌++◌, foldl}
use Rattle.wire.specs.Wire.{Entry, field, line}
use Rattle.wire.specs.Rack.{plain}
use Rattle.models.specs.Models.{amp_reading}
use Rattle.supply.specs.declared.Supply.{Supply}
use Rattle.supply.specs.State.{fresh}
use Rattle.supply.specs.Flt.{on_of}
use Rattle.guarantees.specs.Releases.{fold, is_set}
use Rattle.guarantees.specs.Trips.{FoldNeeds}
use Rattle.field.specs.Fields.{pair_at}
use Rattle.plain.specs.Plain.{step_of, plain_supply}

-- the entry is a sample, which is a field of tag 5, and its own ampere reading is below PC; a line is none
abbrev pub samples_below_pc : ℕ → Supply → Entry → Bool
samples_below_pc m s (field t p) = eqb t 5 && not (leb s.pc (amp_reading m (pair_at p 3)))
samples_below_pc m s (line kept spoiled) = false

-- it is judged CV: it also leaves the output on, so it found it on and set no trip
abbrev pub cv_sample : ℕ → Supply → Entry → Bool
cv_sample m s e = samples_below_pc m s e && on_of (step_of m s e)

-- the output is on before the entries and after each of them
abbrev pub stays_on : ℕ → Supply → List Entry → Bool
stays_on m s [] = on_of s
stays_on m s (e ∷ es) = on_of s && stays_on m (step_of m s e) es

-- one of the entries, taken by a supply from its start on, is a sample judged CV, and the output has been on ever since
pub record CvSince (m : ℕ) (start : Supply) (es : List Entry) : Type 0 where
  pub before : List Entry
  pub entry : Entry
  pub later : List Entry
  pub splits : es ≡ before ++ entry ∷ later
  pub judged : cv_sample m (foldl (step_of m) start before) entry ≡ true
  pub on_since : stays_on m (step_of m (foldl (step_of m) start before) entry) later ≡ true

-- what a fresh supply remembers after the entries
pub record Remembers (m : ℕ) (es : List Entry) : Type 0 where
  pub seen : (plain plain_supply m es).cv_seen ≡ true → CvSince m (fresh m) es
  pub since : CvSince m (fresh m) es → (plain plain_supply m es).cv_seen ≡ true
  -- so it is never set with the output off
  pub on : (plain plain_supply m es).cv_seen ≡ true → on_of (plain plain_supply m es) ≡ true
  -- and the next entry, whatever it is, sets the FOLD trip only after such a sample
  pub folds : (e : Entry) → is_set fold (plain plain_supply m es) ≡ false
      → is_set fold (step_of m (plain plain_supply m es) e) ≡ true → CvSince m (fresh m) es
  -- which a sample at PC does, if foldback is armed, the output on and the volts below OVP
  pub folds_when : (p : List ℕ) → FoldNeeds m (plain plain_supply m es) (pair_at p 1) (pair_at p 3)
      → is_set fold (step_of m (plain plain_supply m es) (field 5 p)) ≡ true
