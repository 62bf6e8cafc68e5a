-- A line without its checksum: its word, its parameter, and what it asks.
use Rattle.std.specs.Prelude.{ℕ, ◌+◌, List, take, drop}
use Rattle.base.specs.Choice.{pick}
use Rattle.figures.specs.Number.{first_at}
use Rattle.words.specs.Words.{upper_all}
use Rattle.supply.specs.declared.Act.TheVariants.{Nothing}
use Rattle.parameters.specs.Parameters.{is_empty}
use Rattle.asks.specs.Asks.{Asks}
use Rattle.asks.specs.Asks.{One}
use Rattle.asks.specs.Words.{command_of, asked_by}

-- the word is everything up to the first space (32), and the parameter everything after it
abbrev pub word_of : List ℕ → List ℕ
word_of t = take (first_at 32 t) t

abbrev pub parameter_text : List ℕ → List ℕ
parameter_text t = drop (first_at 32 t + 1) t

-- what a line without its checksum asks; an empty line asks nothing and draws OK
unfoldable pub asks_of : List ℕ → Asks
asks_of t = pick (is_empty t) (One Nothing) (asked_by (command_of (upper_all (word_of t))) (parameter_text t))
