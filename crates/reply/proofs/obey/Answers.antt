use mathlib.Core.Path.{◌≡◌, refl}
use Prim.Native.Nat.{ℕ}
use Rattle.supply.specs.declared.Supply.{Supply}
use Rattle.supply.specs.declared.Query.{Query}
use Rattle.supply.specs.declared.Act.{Act}
use Rattle.supply.specs.declared.Act.TheVariants.{Lines, Sample, Press, Turn, Obey, Ask, Nothing}
use Rattle.acts.specs.Acts.{code_of}
use Rattle.texts.specs.Texts.{code_text}
use Rattle.reply.specs.Obeying.{said_of}
use Rattle.reply.proofs.obey.Goals as goal

pub returns-in-Obey-clause-says : goal.returns-in-Obey-clause-says
unfolding said_of code_of
returns-in-Obey-clause-says c = rw (c.in-Obey.is, ← c.obey_order.ensures.0) c.say_code.ensures.says

-- what is said to an act that is no query
no_query : (m : ℕ) (s : Supply) (a : Act) → ((q : Query) → a ≡ Ask q → ⊥) → code_text (code_of m s a) ≡ said_of m s a
unfolding said_of
no_query m s (Ask q) n = absurd (n q refl)
no_query m s (Obey o) n = refl
no_query m s (Lines b) n = refl
no_query m s (Sample v a) n = refl
no_query m s (Press k) n = refl
no_query m s (Turn t raw) n = refl
no_query m s Nothing n = refl

pub returns-in_default-clause-says : goal.returns-in_default-clause-says
returns-in_default-clause-says c =
    rw (← no_query c.args.model c.args.s c.args.a c.in_default.not-Ask, ← c.perform.ensures.0) c.say_code-in_default.ensures.says
