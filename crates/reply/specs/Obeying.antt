-- What a supply says in reply to an act.
use Rattle.std.specs.Prelude.{ℕ, List}
use Rattle.supply.specs.declared.Supply.{Supply}
use Rattle.supply.specs.declared.Act.{Act}
use Rattle.supply.specs.declared.Act.TheVariants.{Lines, Sample, Press, Turn, Obey, Ask, Nothing}
use Rattle.acts.specs.Acts.{code_of}
use Rattle.answers.specs.Answers.{answer_of}
use Rattle.texts.specs.Texts.{code_text, answer_text}

-- a query is answered from the supply as it stands before it; the reply to any other act is OK or an error code
unfoldable pub said_of : ℕ → Supply → Act → List ℕ
said_of m s (Ask q) = answer_text (answer_of m s q)
said_of m s (Obey o) = code_text (code_of m s (Obey o))
said_of m s (Lines b) = code_text (code_of m s (Lines b))
said_of m s (Sample v a) = code_text (code_of m s (Sample v a))
said_of m s (Press k) = code_text (code_of m s (Press k))
said_of m s (Turn t raw) = code_text (code_of m s (Turn t raw))
said_of m s Nothing = code_text (code_of m s Nothing)
