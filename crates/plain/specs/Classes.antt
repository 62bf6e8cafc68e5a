-- The class of a line, from its own characters: which lines are an ADR, which are a global, and what follows from that.
-- Share and rack take the class from the same function, so this file states a second time, part by part, what that
-- function must return.
use Rattle.std.specs.Prelude.{ℕ, ◌≤◌, ◌≡◌, List, [], ◌∷◌, Bool, true, false, not, ◌&&◌, ◌||◌}
use Rattle.base.specs.Choice.{pick}
use Rattle.base.specs.Text.{codes}
use Rattle.words.specs.Words.{is_one_of}
use Rattle.wire.specs.Wire.{Class, select, faulty, global, other}
use Rattle.supply.specs.declared.Supply.{Supply}
use Rattle.supply.specs.State.{c05}
use Rattle.parameters.specs.Parameters.{c02, c03}
use Rattle.command.specs.Lines.{has_checksum, right_checksum, heard_of}
use Rattle.texts.specs.Texts.{code_text, reply_of}
use Rattle.protocol.specs.Sent.{replied_to}
use Rattle.protocol.specs.Verdicts.{word_in, kind_in, given_in, is_absent, is_malformed, is_beyond}
use Rattle.protocol.specs.Verdicts.{has_wrong_checksum, draws_checksum, value_of}
use Rattle.plain.specs.Plain.{class_of}

-- a spoiled line, or one with a wrong checksum, counts neither as an ADR nor as a global, whatever its word
abbrev pub counts : List ℕ → Bool → Bool
counts kept spoiled = not spoiled && not (has_wrong_checksum kept)

abbrev pub adr_word : List (List ℕ)
adr_word = codes "ADR" ∷ []

abbrev pub global_words : List (List ℕ)
global_words = codes "GPV" ∷ codes "GPC" ∷ codes "GOUT" ∷ codes "GRST" ∷ []

abbrev pub is_adr : List ℕ → Bool → Bool
is_adr kept spoiled = counts kept spoiled && is_one_of adr_word (word_in kept)

abbrev pub is_global : List ℕ → Bool → Bool
is_global kept spoiled = counts kept spoiled && is_one_of global_words (word_in kept)

-- C02: the parameter is absent or empty; C03: it is malformed, or given where none belongs
abbrev pub is_c02 : List ℕ → Bool
is_c02 kept = is_absent (kind_in kept) (given_in kept)

abbrev pub is_c03 : List ℕ → Bool
is_c03 kept = is_malformed (kind_in kept) (given_in kept)

-- the address that an ADR names, and whether it is above 30
abbrev pub address_in : List ℕ → ℕ
address_in kept = value_of (kind_in kept) (given_in kept)

abbrev pub is_c05 : List ℕ → Bool
is_c05 kept = is_beyond (kind_in kept) (given_in kept)

-- the reply with an error code, with a checksum if the line draws one; code 0 is OK
abbrev pub says : ℕ → List ℕ → Bool → List ℕ
says c kept spoiled = reply_of (draws_checksum kept spoiled) (code_text c)

-- an ADR selects its address, and OK is that slot's reply; no supply takes an ADR in error, which draws its error code
abbrev pub adr_class : List ℕ → Bool → Class
adr_class kept spoiled =
    pick (is_c02 kept) (faulty (says c02 kept spoiled))
    (pick (is_c03 kept) (faulty (says c03 kept spoiled))
    (pick (is_c05 kept) (faulty (says c05 kept spoiled))
    (select (address_in kept) (says 0 kept spoiled))))

-- EVERY LINE: an ADR; a global, which no supply takes if it is ill-formed and which then draws nothing; or any other
-- line, which goes to the selected slot: the empty line, every order and query of one supply, correct or in error, an
-- unknown word, and every line that is spoiled or has a wrong checksum
abbrev pub class_for : List ℕ → Bool → Class
class_for kept spoiled =
    pick (is_adr kept spoiled) (adr_class kept spoiled)
    (pick (is_global kept spoiled) (pick (is_c02 kept || is_c03 kept) (faulty []) global)
    other)

pub record Classes (kept : List ℕ) (spoiled : Bool) : Type 0 where
  pub class_is : class_of kept spoiled ≡ class_for kept spoiled
  -- a spoiled line, or one with a wrong checksum, is neither an ADR nor a global
  pub spoiled_other : spoiled ≡ true → class_of kept spoiled ≡ other
  pub wrong_checksum_other : has_checksum kept ≡ true → right_checksum kept ≡ false → class_of kept spoiled ≡ other
  -- an ADR selects an address of the rack; its reply is the one that a supply's reply function gives, with its checksum
  pub select_inside : (n : ℕ) (t : List ℕ) → class_of kept spoiled ≡ select n t → n ≤ 30
  pub select_reply :
      (n : ℕ) (t : List ℕ) → class_of kept spoiled ≡ select n t → (m : ℕ) (s : Supply)
      → t ≡ replied_to m s (heard_of kept spoiled).asks (heard_of kept spoiled).checksummed
  -- an ADR in error draws its error code, with its checksum; a global in error draws nothing
  pub faulty_reply :
      (t : List ℕ) → class_of kept spoiled ≡ faulty t → (m : ℕ) (s : Supply)
      → t ≡ replied_to m s (heard_of kept spoiled).asks (heard_of kept spoiled).checksummed
