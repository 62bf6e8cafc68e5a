-- A plain supply and one line of text: the supply after it, and the whole reply.
use Rattle.std.specs.Prelude.{ℕ, List, [], Bool}
use Rattle.supply.specs.declared.Supply.{Supply}
use Rattle.supply.specs.declared.Act.TheVariants.{Obey}
use Rattle.asks.specs.Asks.{Asks}
use Rattle.asks.specs.Asks.{Select, BadSelect, Everyone, Nobody, One, Error}
use Rattle.acts.specs.Acts.{performed}
use Rattle.texts.specs.Texts.{code_text, reply_of}
use Rattle.reply.specs.Obeying.{said_of}

-- what a line does to a supply that takes it; a global line does what its order does
unfoldable pub obeyed : ℕ → Supply → Asks → Supply
obeyed m s (One a) = performed m s a
obeyed m s (Everyone o) = performed m s (Obey o)
obeyed m s (Select n) = s
obeyed m s (BadSelect c) = s
obeyed m s Nobody = s
obeyed m s (Error c) = s

-- the reply that a line draws from the selected supply, with a checksum if the line had one; global lines draw none
unfoldable pub replied_to : ℕ → Supply → Asks → Bool → List ℕ
replied_to m s (One a) checksummed = reply_of checksummed (said_of m s a)
replied_to m s (Error c) checksummed = reply_of checksummed (code_text c)
replied_to m s (Select n) checksummed = reply_of checksummed (code_text 0)
replied_to m s (BadSelect c) checksummed = reply_of checksummed (code_text c)
replied_to m s (Everyone o) checksummed = []
replied_to m s Nobody checksummed = []
