-- The verdicts on a line as a list of stages: the first stage that applies decides.
use Rattle.std.specs.Prelude.{ℕ, ◌≡◌, List, [], ◌∷◌, Bool, true, false, not, ◌&&◌, ltb}
use Rattle.base.specs.Choice.{pick}
use Rattle.words.specs.Words.{upper_all}
use Rattle.supply.specs.declared.Supply.{Supply}
use Rattle.supply.specs.declared.Act.TheVariants.{Nothing}
use Rattle.supply.specs.State.{c05}
use Rattle.asks.specs.Asks.{Asks}
use Rattle.asks.specs.Asks.{Select, BadSelect, Everyone, Nobody, One, Error}
use Rattle.parameters.specs.Parameters.{Kind, bare, number, switch, hex, address, unknown, c01, c02, c03, c04, read_as, is_empty}
use Rattle.asks.specs.Words.{Command, kind_of, fails_with, command_of}
use Rattle.asks.specs.Asked.{word_of, parameter_text}
use Rattle.command.specs.Lines.{has_checksum, right_checksum, before_checksum, heard_of}
use Rattle.texts.specs.Texts.{code_text, reply_of}
use Rattle.reply.specs.Obeying.{said_of}
use Rattle.protocol.specs.Sent.{replied_to}

-- a stage: whether it applies, and what the line asks if it does
abbrev pub Stage : Type 0
Stage = Bool × Asks

-- the verdict of the first stage that applies, or what the line asks if none does
abbrev pub first_of : List Stage → Asks → Asks
first_of [] a = a
first_of (e ∷ es) a = pick e.0 e.1 (first_of es a)

-- the line without its checksum, its word in capitals, its command, what that command takes, and the parameter given
abbrev pub body_of : List ℕ → List ℕ
body_of t = pick (has_checksum t) (before_checksum t) t

abbrev pub word_in : List ℕ → List ℕ
word_in t = upper_all (word_of (body_of t))

abbrev pub command_in : List ℕ → Command
command_in t = command_of (word_in t)

abbrev pub kind_in : List ℕ → Kind
kind_in t = kind_of (command_in t)

abbrev pub given_in : List ℕ → List ℕ
given_in t = parameter_text (body_of t)

abbrev pub is_unknown : Kind → Bool
is_unknown unknown = true
is_unknown bare = false
is_unknown (number k) = false
is_unknown (switch n) = false
is_unknown hex = false
is_unknown address = false

-- a parameter is required, and is absent or empty
abbrev pub is_absent : Kind → List ℕ → Bool
is_absent unknown x = false
is_absent bare x = false
is_absent (number k) x = is_empty x
is_absent (switch n) x = is_empty x
is_absent hex x = is_empty x
is_absent address x = is_empty x

-- the parameter is malformed, or given where none belongs
abbrev pub is_malformed : Kind → List ℕ → Bool
is_malformed unknown x = false
is_malformed bare x = not (is_empty x)
is_malformed (number k) x = not (read_as (number k) x).good
is_malformed (switch n) x = not (read_as (switch n) x).good
is_malformed hex x = not (read_as hex x).good
is_malformed address x = not (read_as address x).good

-- the parameter is an address above 30
abbrev pub is_beyond : Kind → List ℕ → Bool
is_beyond unknown x = false
is_beyond bare x = false
is_beyond (number k) x = false
is_beyond (switch n) x = false
is_beyond hex x = false
is_beyond address x = ltb 30 (read_as address x).value

-- the line has a checksum, and it is wrong
abbrev pub has_wrong_checksum : List ℕ → Bool
has_wrong_checksum t = has_checksum t && not (right_checksum t)

-- the reply carries a checksum: the line has a right one, and it is not spoiled
abbrev pub draws_checksum : List ℕ → Bool → Bool
draws_checksum t spoiled = not spoiled && (has_checksum t && right_checksum t)

-- the value of a good parameter
abbrev pub value_of : Kind → List ℕ → ℕ
value_of k x = (read_as k x).value

-- a spoiled line C01; a wrong checksum C04; an empty line OK; an unknown word C01; an absent parameter C02; a malformed
-- one C03; and an address above 30 C05
abbrev pub stages : List ℕ → Bool → List Stage
stages t spoiled =
    (spoiled, Error c01) ∷
    (has_wrong_checksum t, Error c04) ∷
    (is_empty (body_of t), One Nothing) ∷
    (is_unknown (kind_in t), fails_with (command_in t) c01) ∷
    (is_absent (kind_in t) (given_in t), fails_with (command_in t) c02) ∷
    (is_malformed (kind_in t) (given_in t), fails_with (command_in t) c03) ∷
    (is_beyond (kind_in t) (given_in t), fails_with (command_in t) c05) ∷
    []

-- the text of the reply to a line, without checksum and CR
abbrev pub text_of : ℕ → Supply → Asks → List ℕ
text_of m s (One a) = said_of m s a
text_of m s (Error c) = code_text c
text_of m s (Select n) = code_text 0
text_of m s (BadSelect c) = code_text c
text_of m s (Everyone o) = []
text_of m s Nobody = []

-- a global line draws no reply, in error or not
abbrev pub is_silent : Asks → Bool
is_silent (Everyone o) = true
is_silent Nobody = true
is_silent (One a) = false
is_silent (Error c) = false
is_silent (Select n) = false
is_silent (BadSelect c) = false

-- THE REPLY TO A LINE, errors included: its text, with a checksum exactly if the line has a right one and is not spoiled
pub record Replied (m : ℕ) (s : Supply) (t : List ℕ) (spoiled : Bool) : Type 0 where
  pub silent : is_silent (heard_of t spoiled).asks ≡ true
      → replied_to m s (heard_of t spoiled).asks (heard_of t spoiled).checksummed ≡ []
  pub carries : is_silent (heard_of t spoiled).asks ≡ false
      → replied_to m s (heard_of t spoiled).asks (heard_of t spoiled).checksummed
      ≡ reply_of (draws_checksum t spoiled) (text_of m s (heard_of t spoiled).asks)
