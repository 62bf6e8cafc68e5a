-- Any machine that goes from state to state by inputs, and what it means for it to be tripped; and functions on lists
-- of inputs.
use Rattle.std.specs.Prelude.{◌≡◌, Bool, true, not, ◌&&◌}
use mathlib.Core.List.{List, [], ◌∷◌, ◌++◌, foldl}
use Rattle.base.specs.Choice.{pick}

-- x alone if the test holds, otherwise nothing
abbrev pub given : {D : Type 0} → Bool → D → List D
given t x = pick t (x ∷ []) []

-- the inputs that pass a test, in order
abbrev pub keep : {D : Type 0} → (D → Bool) → List D → List D
keep t [] = []
keep t (d ∷ ds) = pick (t d) (d ∷ keep t ds) (keep t ds)

-- what f makes of each input, in order
abbrev pub flat : {D E : Type 0} → (D → List E) → List D → List E
flat f [] = []
flat f (d ∷ ds) = f d ++ flat f ds

-- P holds for every input of the list
abbrev pub Every : {D : Type 0} → (D → Type 0) → List D → Type 0
Every P [] = Unit
Every P (d ∷ ds) = P d × Every P ds

-- no input of the list is a release in the state in which it arrives
abbrev pub no_release : {X E : Type 0} → (X → E → X) → (X → E → Bool) → X → List E → Bool
no_release act rel x [] = true
no_release act rel x (e ∷ es) = not (rel x e) && no_release act rel (act x e) es

-- The list es trips the machine and does not release it: one of its inputs leaves the trip's flag set, and no later
-- input is a release.
pub record Tripped {X E : Type 0}
    (act : X → E → X) (start : X) (flag : X → Bool) (rel : X → E → Bool) (es : List E) : Type 0 where
  pub before : List E
  pub entry : E
  pub mid : List E
  pub splits : es ≡ before ++ entry ∷ mid
  pub trips : flag (act (foldl act start before) entry) ≡ true
  pub unreleased : no_release act rel (act (foldl act start before) entry) mid ≡ true
