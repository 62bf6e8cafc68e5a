-- The words of the status registers; STT? and the six queries that it gathers.
use Rattle.std.specs.Prelude.{ℕ, ◌≡◌, List, ◌++◌, false}
use Rattle.base.specs.Text.{codes}
use Rattle.supply.specs.declared.Supply.{Supply}
use Rattle.supply.specs.declared.Order.TheVariants as order
use Rattle.supply.specs.declared.Query.{Query}
use Rattle.supply.specs.declared.Query.TheVariants.{Mv, Pv, Mc, Pc, Stt, Stat, Flt, Sena, Seve}
use Rattle.supply.specs.declared.Act.TheVariants.{Obey, Ask}
use Rattle.supply.specs.State.{fresh}
use Rattle.answers.specs.Answers.{answer_of}
use Rattle.texts.specs.Texts.{answer_text}
use Rattle.asks.specs.Asks.{One}
use Rattle.command.specs.Lines.{heard_as, heard_of}
use Rattle.protocol.specs.Sent.{replied_to}

-- THE FIVE WORDS, as lines
pub record StatusWords : Type 0 where
  pub stt : heard_of (codes "STT?") false ≡ heard_as (One (Ask Stt)) false
  pub stat : heard_of (codes "STAT?") false ≡ heard_as (One (Ask Stat)) false
  pub sena : heard_of (codes "SENA?") false ≡ heard_as (One (Ask Sena)) false
  pub seve : heard_of (codes "SEVE?") false ≡ heard_as (One (Ask Seve)) false
  pub enabling : heard_of (codes "SENA 8F") false ≡ heard_as (One (Obey (order.Sena 0x8F))) false

-- the text that answers a query, without checksum and CR
abbrev pub text_for : ℕ → Supply → Query → List ℕ
text_for m s q = answer_text (answer_of m s q)

-- STT? GATHERS the answers to six other queries, each in parentheses behind its name
abbrev pub Gathers : ℕ → Supply → Type 0
Gathers m s =
    text_for m s Stt
    ≡ (codes "MV(" ++ text_for m s Mv) ++
    (codes "),PV(" ++ text_for m s Pv) ++
    (codes "),MC(" ++ text_for m s Mc) ++
    (codes "),PC(" ++ text_for m s Pc) ++
    (codes "),SR(" ++ text_for m s Stat) ++
    (codes "),FR(" ++ text_for m s Flt) ++
    codes ")"

-- what a fresh supply of the model replies to a line
abbrev pub fresh_reply : ℕ → List ℕ → List ℕ
fresh_reply m line = replied_to m (fresh m) (heard_of line false).asks false

-- A FRESH SUPPLY, of any model, and its whole reply to STT?, SENA? and SEVE?
pub record FreshStatus (m : ℕ) : Type 0 where
  pub stt : fresh_reply m (codes "STT?") ≡ codes "MV(0.0000),PV(0.0000),MC(0.000),PC(0.000),SR(84),FR(40)\r"
  pub sena : fresh_reply m (codes "SENA?") ≡ codes "00\r"
  pub seve : fresh_reply m (codes "SEVE?") ≡ codes "00\r"
