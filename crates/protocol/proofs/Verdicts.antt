-- A line is what the first stage that applies says, so a line that deserves two verdicts gets the earlier one.
use mathlib.Core.Path.{◌≡◌, refl, ap, ◌∙◌}
use mathlib.Core.List.{List, [], ◌∷◌, ◌++◌}
use mathlib.Core.Bool.{Bool, true, false, not, ◌&&◌, true≢false, false≢true}
use Prim.Native.Nat.{ℕ}
use lib.Dec.{ltb}
use Rattle.base.specs.Choice.{pick}
use Rattle.supply.specs.declared.Supply.{Supply}
use Rattle.supply.specs.declared.Act.TheVariants.{Nothing}
use Rattle.supply.specs.State.{c05}
use Rattle.asks.specs.Asks.{Asks}
use Rattle.asks.specs.Asks.{Select, BadSelect, Everyone, Nobody, One, Error}
use Rattle.parameters.specs.Parameters.{Kind, bare, number, switch, hex, address, unknown, c01, c02, c03, c04, read_as, is_empty, value_is, refused_by, within30, parameter_of}
use Rattle.words.specs.Words.{upper_all}
use Rattle.asks.specs.Words.{Command, kind_of, asks_with, fails_with, command_of, asked_with, asked_by}
use Rattle.asks.specs.Asked.{word_of, parameter_text, asks_of}
use Rattle.command.specs.Lines.{has_checksum, right_checksum, before_checksum, heard_as, heard_of}
use Rattle.protocol.specs.Verdicts.{Stage, first_of, command_in, kind_in, given_in, is_unknown, is_absent, is_malformed, is_beyond, draws_checksum, value_of, stages, text_of, is_silent, Replied}
use Rattle.protocol.specs.Sent.{replied_to}
use Rattle.texts.specs.Texts.{reply_of}

module _ (k : Command) where
  -- a required parameter: absent, malformed, or read
  need_cases : (v : ℕ) (e g : Bool) → asked_with k (pick e (refused_by c02) (pick g (value_is v) (refused_by c03))) ≡ pick e (fails_with k c02) (pick (not g) (fails_with k c03) (asks_with k v))
  need_cases v true g = refl
  need_cases v false true = refl
  need_cases v false false = refl

  -- and an address, above 30 or not
  address_cases :
      (v : ℕ) (e g b : Bool) → ltb 30 v ≡ b
      → asked_with k (within30 (pick e (refused_by c02) (pick g (value_is v) (refused_by c03)))) ≡ pick e (fails_with k c02) (pick (not g) (fails_with k c03) (pick b (fails_with k c05) (asks_with k v)))
  address_cases v true g b q = refl
  address_cases v false true true q = rw q refl
  address_cases v false true false q = rw q refl
  address_cases v false false b q = refl

  bare_cases : (e : Bool) → asked_with k (pick e (value_is 0) (refused_by c03)) ≡ pick (not e) (fails_with k c03) (asks_with k 0)
  bare_cases true = refl
  bare_cases false = refl

  abbrev own_stages : Kind → List ℕ → List Stage
  own_stages d x =
      (is_unknown d, fails_with k c01) ∷ (is_absent d x, fails_with k c02) ∷ (is_malformed d x, fails_with k c03) ∷ (is_beyond d x, fails_with k c05) ∷ []

  by_kind : (d : Kind) (x : List ℕ) → asked_with k (parameter_of d x) ≡ first_of (own_stages d x) (asks_with k (value_of d x))
  unfolding parameter_of read_as
  by_kind bare x = bare_cases (is_empty x)
  by_kind (number n) x = need_cases (read_as (number n) x).value (is_empty x) (read_as (number n) x).good
  by_kind (switch n) x = need_cases (read_as (switch n) x).value (is_empty x) (read_as (switch n) x).good
  by_kind hex x = need_cases (read_as hex x).value (is_empty x) (read_as hex x).good
  by_kind address x = address_cases (read_as address x).value (is_empty x) (read_as address x).good (ltb 30 (read_as address x).value) refl
  by_kind unknown x = refl

-- the stages after the checksum, for a line without its checksum
body_stages : (u : List ℕ) → asks_of u ≡ pick (is_empty u) (One Nothing) (first_of (own_stages (command_of (upper_all (word_of u))) (kind_of (command_of (upper_all (word_of u)))) (parameter_text u)) (asks_with (command_of (upper_all (word_of u))) (value_of (kind_of (command_of (upper_all (word_of u)))) (parameter_text u))))
unfolding asks_of asked_by
body_stages u = ap (pick (is_empty u) (One Nothing)) (by_kind (command_of (upper_all (word_of u))) (kind_of (command_of (upper_all (word_of u)))) (parameter_text u))

-- THE VERDICTS IN TURN
pub verdicts : (t : List ℕ) (spoiled : Bool) → (heard_of t spoiled).asks ≡ first_of (stages t spoiled) (asks_with (command_in t) (value_of (kind_in t) (given_in t)))
unfolding heard_of
verdicts t true = refl
verdicts t false = by_checksum (has_checksum t) (right_checksum t) refl
  where
    by_checksum : (h r : Bool) → has_checksum t ≡ h
        → (pick h (pick r (heard_as (asks_of (before_checksum t)) true) (heard_as (Error c04) false)) (heard_as (asks_of t) false)).asks
        ≡ pick (h && not r) (Error c04) (pick (is_empty (pick h (before_checksum t) t)) (One Nothing) (first_of (own_stages (command_of (upper_all (word_of (pick h (before_checksum t) t)))) (kind_of (command_of (upper_all (word_of (pick h (before_checksum t) t))))) (parameter_text (pick h (before_checksum t) t))) (asks_with (command_of (upper_all (word_of (pick h (before_checksum t) t)))) (value_of (kind_of (command_of (upper_all (word_of (pick h (before_checksum t) t))))) (parameter_text (pick h (before_checksum t) t))))))
    by_checksum true true e = body_stages (before_checksum t)
    by_checksum true false e = refl
    by_checksum false r e = body_stages t

-- A REPLY CARRIES A CHECKSUM exactly if the line has a right one and is not spoiled
pub checksummed_when : (t : List ℕ) (spoiled : Bool) → (heard_of t spoiled).checksummed ≡ draws_checksum t spoiled
unfolding heard_of
checksummed_when t true = refl
checksummed_when t false = by_checksum (has_checksum t) (right_checksum t)
  where
    by_checksum : (h r : Bool)
        → (pick h (pick r (heard_as (asks_of (before_checksum t)) true) (heard_as (Error c04) false)) (heard_as (asks_of t) false)).checksummed
        ≡ (h && r)
    by_checksum true true = refl
    by_checksum true false = refl
    by_checksum false r = refl

module _ (m : ℕ) (s : Supply) where
  silent_reply : (a : Asks) (c : Bool) → is_silent a ≡ true → replied_to m s a c ≡ []
  unfolding replied_to
  silent_reply (Everyone o) c e = refl
  silent_reply Nobody c e = refl
  silent_reply (One a) c e = absurd (false≢true e)
  silent_reply (Error k) c e = absurd (false≢true e)
  silent_reply (Select n) c e = absurd (false≢true e)
  silent_reply (BadSelect k) c e = absurd (false≢true e)

  text_reply : (a : Asks) (c : Bool) → is_silent a ≡ false → replied_to m s a c ≡ reply_of c (text_of m s a)
  unfolding replied_to
  text_reply (One a) c e = refl
  text_reply (Error k) c e = refl
  text_reply (Select n) c e = refl
  text_reply (BadSelect k) c e = refl
  text_reply (Everyone o) c e = absurd (true≢false e)
  text_reply Nobody c e = absurd (true≢false e)

  -- THE REPLY TO A LINE, errors included
  pub replied : (t : List ℕ) (spoiled : Bool) → Replied m s t spoiled
  replied t spoiled =
      record {
        silent = silent_reply (heard_of t spoiled).asks (heard_of t spoiled).checksummed;
        carries = λ e.
            text_reply (heard_of t spoiled).asks (heard_of t spoiled).checksummed e
            ∙ ap (λ (c : Bool). reply_of c (text_of m s (heard_of t spoiled).asks)) (checksummed_when t spoiled);
      }

-- the first stage that applies decides, whatever comes after it
abbrev pub NoneApplies : List Stage → Type 0
NoneApplies [] = Unit
NoneApplies (e ∷ es) = (e.0 ≡ false) × NoneApplies es

pub earlier_wins : (before : List Stage) (a : Asks) (after : List Stage) (d : Asks) → NoneApplies before → first_of (before ++ (true, a) ∷ after) d ≡ a
earlier_wins [] a after d n = refl
earlier_wins (e ∷ es) a after d n = rw n.0 (earlier_wins es a after d n.1)
