-- A refusal that further bytes may mend: there were too few for a header (2), or for the payload (5).
use Rattle.std.specs.Prelude.{ℕ, Bool, ◌||◌, eqb}

abbrev pub mendable : ℕ → Bool
mendable code = eqb code 2 || eqb code 5
