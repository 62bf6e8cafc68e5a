-- The plain supply on entries, and the grammar of lines and fields: what the isolation of a rack is stated about.
use Rattle.std.specs.Prelude.{ℕ, List, [], Bool, false}
use Rattle.wire.specs.Wire.{Entry, field, line, Class, select, faulty, global, other, Grammar}
use Rattle.wire.specs.Rack.{Plain}
use Rattle.wire.specs.Laws.{Trips}
use Rattle.supply.specs.declared.Supply.{Supply}
use Rattle.supply.specs.declared.Act.TheVariants.{Obey}
use Rattle.supply.specs.State.{fresh}
use Rattle.supply.specs.Flt.{on_of}
use Rattle.supply.specs.Rings.{rings_of}
use Rattle.acts.specs.Acts.{performed}
use Rattle.guarantees.specs.Releases.{Trip, is_set, releases}
use Rattle.asks.specs.Asks.{Asks}
use Rattle.asks.specs.Asks.{Select, BadSelect, Everyone, Nobody, One, Error}
use Rattle.command.specs.Lines.{heard_of}
use Rattle.texts.specs.Texts.{code_text, reply_of}
use Rattle.protocol.specs.Sent.{obeyed, replied_to}
use Rattle.field.specs.Fields.{act_of, read_field}

-- what an entry does to a supply of the model
unfoldable pub step_of : ℕ → Supply → Entry → Supply
step_of m s (field t p) = performed m s (act_of t p)
step_of m s (line kept spoiled) = obeyed m s (heard_of kept spoiled).asks

-- and what it draws in reply; a field of tags 2 to 5 draws none
unfoldable pub reply_to : ℕ → Supply → Entry → List ℕ
reply_to m s (field t p) = []
reply_to m s (line kept spoiled) = replied_to m s (heard_of kept spoiled).asks (heard_of kept spoiled).checksummed

-- the class of a line, from what it asks; the line's own replies carry its checksum
abbrev pub class_by : Asks → Bool → Class
class_by (Select n) checksummed = select n (reply_of checksummed (code_text 0))
class_by (BadSelect c) checksummed = faulty (reply_of checksummed (code_text c))
class_by (Everyone o) checksummed = global
class_by Nobody checksummed = faulty []
class_by (One a) checksummed = other
class_by (Error c) checksummed = other

unfoldable pub class_of : List ℕ → Bool → Class
class_of kept spoiled = class_by (heard_of kept spoiled).asks (heard_of kept spoiled).checksummed

-- the shortest reply buffer that a call accepts
abbrev pub least_reply : ℕ
least_reply = 512

abbrev pub grammar : Grammar
grammar = record { class_of = class_of; least = least_reply; read = read_field }

abbrev pub plain_supply : Plain
plain_supply =
    record { State = Supply; step = step_of; reply = reply_to; fresh = fresh; grammar = grammar; rings = rings_of }

-- whether what a line asks releases the trip, if a supply in this state takes it; GOUT 1 and GRST count as OUT 1 and
-- RST
abbrev pub releases_by : ℕ → Trip → Supply → Asks → Bool
releases_by m k s (One a) = releases m k s a
releases_by m k s (Everyone o) = releases m k s (Obey o)
releases_by m k s (Select n) = false
releases_by m k s (BadSelect c) = false
releases_by m k s Nobody = false
releases_by m k s (Error c) = false

unfoldable pub releases_of : ℕ → Trip → Supply → Entry → Bool
releases_of m k s (field t p) = releases m k s (act_of t p)
releases_of m k s (line kept spoiled) = releases_by m k s (heard_of kept spoiled).asks

abbrev pub trips : Trips plain_supply
trips = record { Trip = Trip; is_set = is_set; is_on = on_of; releases = releases_of }
