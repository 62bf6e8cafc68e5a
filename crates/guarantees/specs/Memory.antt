-- THE CV MEMORY, after an act on any supply.
use Rattle.std.specs.Prelude.{ℕ, ◌≡◌, Bool, true, false, not, ◌&&◌, ◌||◌, leb}
use Rattle.models.specs.Models.{amp_reading}
use Rattle.supply.specs.declared.Supply.{Supply}
use Rattle.supply.specs.declared.Act.{Act}
use Rattle.supply.specs.declared.Act.TheVariants.{Lines, Sample, Press, Turn, Obey, Ask, Nothing}
use Rattle.supply.specs.Flt.{on_of}
use Rattle.acts.specs.Acts.{code_of, performed}

-- the memory is set only while the output is on
abbrev pub SeenOn : Supply → Type 0
SeenOn s = s.cv_seen ≡ true → on_of s ≡ true

-- the act is a sample, and its own ampere reading is below PC
abbrev pub reads_below_pc : ℕ → Supply → Act → Bool
reads_below_pc m s (Sample v a) = not (leb s.pc (amp_reading m a))
reads_below_pc m s (Lines b) = false
reads_below_pc m s (Press k) = false
reads_below_pc m s (Turn t raw) = false
reads_below_pc m s (Obey o) = false
reads_below_pc m s (Ask q) = false
reads_below_pc m s Nothing = false

-- the memory after an event: clear if the event ends with the output off; otherwise set if it was set before, or if the
-- event is a sample that reads below PC
abbrev pub seen_after : ℕ → Supply → Act → Bool
seen_after m s a = on_of (performed m s a) && (s.cv_seen || reads_below_pc m s a)

pub record MemoryAfter (m : ℕ) (s : Supply) (a : Act) : Type 0 where
  pub event : code_of m s a ≡ 0 → (performed m s a).cv_seen ≡ seen_after m s a
  -- the same after a refused order, which changes nothing, if the memory was set only with the output on
  pub always : SeenOn s → (performed m s a).cv_seen ≡ seen_after m s a
  -- and so it stays
  pub seen_on : SeenOn s → SeenOn (performed m s a)
