-- The class of a line, part by part.
use Prim.Native.Nat.{ℕ, ◌≤◌}
use mathlib.Core.Path.{◌≡◌, refl, sym, ap, ◌∙◌}
use mathlib.Core.List.{List, [], ◌∷◌}
use mathlib.Core.Bool.{Bool, true, false, not, ◌&&◌, ◌||◌, true≢false}
use native.Mathlib.Omega.{arith}
use lib.Dec.{eqb, ltb}
use lib.ListN.{length}
use lib.Seq.{take-nil}
use borrow.Author.Tests.{eqb-true, ltb-false}
use Rattle.base.specs.Choice.{pick}
use Rattle.base.proofs.Choice.{pick_keeps}
use Rattle.words.specs.Words.{upper_all, is_one_of, find_word}
use Rattle.words.proofs.Table.{find_where}
use Rattle.wire.specs.Wire.{Class, select, faulty, global, other}
use Rattle.supply.specs.declared.Act.TheVariants.{Nothing}
use Rattle.supply.specs.State.{c05}
use Rattle.parameters.specs.Parameters.{Parameter}
use Rattle.asks.specs.Asks.{Asks}
use Rattle.asks.specs.Asks.{Select, BadSelect, Everyone, Nobody, One, Error}
use Rattle.parameters.specs.Parameters.{bare, address, c01, c02, c03, c04, is_empty, needed, within30, read_as, refused_by, parameter_of}
use Rattle.asks.specs.Words.{OrderWord, set, ovm, out, fld, ast, rmt, fena, sena, cls, rst, kind_of_order}
use Rattle.asks.specs.Words.{Command, to_one, of_one, to_all, selecting, unknown_word, kind_of, asks_with, fails_with}
use Rattle.asks.specs.Words.{commands, command_of, asked_by}
use Rattle.asks.specs.Asked.{word_of}
use Rattle.command.specs.Lines.{has_checksum, right_checksum, heard_of}
use Rattle.texts.specs.Texts.{code_text, reply_of}
use Rattle.protocol.specs.Verdicts.{Stage, first_of, body_of, word_in, command_in, given_in, is_unknown, is_absent, is_malformed, is_beyond}
use Rattle.protocol.specs.Verdicts.{has_wrong_checksum, draws_checksum, value_of}
use Rattle.protocol.proofs.Verdicts.{verdicts, checksummed_when}
use Rattle.plain.specs.Plain.{class_by, class_of}
use Rattle.plain.specs.Classes.{adr_word, global_words, class_for, Classes}
use Rattle.plain.proofs.Heard.{heard_has}
use Rattle.plain.proofs.OwnReplies.{bytes_of, is_own, own_reply}

-- the address that a class selects
abbrev address_of : Class → ℕ
address_of (select n t) = n
address_of (faulty t) = 0
address_of global = 0
address_of other = 0

-- a line that selects asks for an address of the rack
abbrev selects_inside : Asks → Type 0
selects_inside (Select n) = n ≤ 30
selects_inside (BadSelect c) = Unit
selects_inside (Everyone o) = Unit
selects_inside Nobody = Unit
selects_inside (One a) = Unit
selects_inside (Error c) = Unit

inside_30 : (p : Parameter) → (within30 p).value ≤ 30
inside_30 p = by_test (ltb 30 p.value) refl
  where
    by_test : (b : Bool) → ltb 30 p.value ≡ b → (pick b (refused_by c05) p).value ≤ 30
    by_test true e = omega arith
    by_test false e = omega (arith, ltb-false 30 p.value e)

-- only ADR selects, and an address above 30 does not exist
word_inside : (k : Command) (x : List ℕ) → selects_inside (asked_by k x)
unfolding asked_by parameter_of
word_inside (to_one o) x = pick_keeps selects_inside (eqb (parameter_of (kind_of_order o) x).code 0) _ _ tt tt
word_inside (of_one q) x = pick_keeps selects_inside (eqb (parameter_of bare x).code 0) _ _ tt tt
word_inside (to_all o) x = pick_keeps selects_inside (eqb (parameter_of (kind_of_order o) x).code 0) _ _ tt tt
word_inside selecting x =
    pick_keeps selects_inside (eqb (within30 (needed (read_as address x) x)).code 0)
    (Select (within30 (needed (read_as address x) x)).value)
    (BadSelect (within30 (needed (read_as address x) x)).code)
    (inside_30 (needed (read_as address x) x)) tt
word_inside unknown_word x = tt

heard_inside : (kept : List ℕ) (spoiled : Bool) → selects_inside (heard_of kept spoiled).asks
heard_inside = heard_has selects_inside tt (λ c. tt) word_inside

class_inside : (a : Asks) (t : Bool) → selects_inside a → address_of (class_by a t) ≤ 30
class_inside (Select n) t h = h
class_inside (BadSelect c) t h = omega arith
class_inside (Everyone o) t h = omega arith
class_inside Nobody t h = omega arith
class_inside (One a) t h = omega arith
class_inside (Error c) t h = omega arith

module _ (kept : List ℕ) where
  spoiled_class : class_of kept true ≡ other
  unfolding class_of heard_of
  spoiled_class = refl

  wrong_checksum_class : (spoiled : Bool) → has_checksum kept ≡ true → right_checksum kept ≡ false → class_of kept spoiled ≡ other
  unfolding class_of heard_of
  wrong_checksum_class true h r = refl
  wrong_checksum_class false h r = rw (h, r) refl

-- ADR is the one word that selects, and the four globals are the words that go to all
abbrev selects : Command → Bool
selects selecting = true
selects (to_one o) = false
selects (of_one q) = false
selects (to_all o) = false
selects unknown_word = false

abbrev reaches_all : Command → Bool
reaches_all (to_all o) = true
reaches_all (to_one o) = false
reaches_all (of_one q) = false
reaches_all selecting = false
reaches_all unknown_word = false

adr_word_lem : (w : List ℕ) → selects (command_of w) ≡ is_one_of adr_word w
adr_word_lem w = find_where unknown_word selects refl commands refl w

global_word : (w : List ℕ) → reaches_all (command_of w) ≡ is_one_of global_words w
global_word w = find_where unknown_word reaches_all refl commands refl w

-- an empty line has no word
empty_word : (u : List ℕ) → is_empty u ≡ true → command_of (upper_all (word_of u)) ≡ unknown_word
unfolding find_word
empty_word [] e = rw take-nil refl
empty_word (x ∷ u) e = let z : length (x ∷ u) ≡ 0 = eqb-true (length (x ∷ u)) 0 e in absurd (omega arith)

-- an order's word is known, and its parameter is not an address
order_known : (o : OrderWord) → is_unknown (kind_of_order o) ≡ false
order_known (set t) = refl
order_known ovm = refl
order_known out = refl
order_known fld = refl
order_known ast = refl
order_known rmt = refl
order_known fena = refl
order_known sena = refl
order_known cls = refl
order_known rst = refl

order_within : (o : OrderWord) (x : List ℕ) → is_beyond (kind_of_order o) x ≡ false
order_within (set t) x = refl
order_within ovm x = refl
order_within out x = refl
order_within fld x = refl
order_within ast x = refl
order_within rmt x = refl
order_within fena x = refl
order_within sena x = refl
order_within cls x = refl
order_within rst x = refl

-- what holds for all stages, and for what is asked if none applies, holds for the first that applies
abbrev EachHas : (Asks → Type 0) → List Stage → Type 0
EachHas P [] = Unit
EachHas P (e ∷ es) = P e.1 × EachHas P es

first_has : (P : Asks → Type 0) (es : List Stage) (a : Asks) → EachHas P es → P a → P (first_of es a)
first_has P [] a h p = p
first_has P (e ∷ es) a h p = pick_keeps P e.0 e.1 (first_of es a) h.0 (first_has P es a h.1 p)

module _ (x : List ℕ) (s : Bool) where
  -- the stages of a command from the empty line on, and what is asked if none applies
  abbrev later_stages : Bool → Command → List Stage
  later_stages e k =
      (e, One Nothing) ∷
      (is_unknown (kind_of k), fails_with k c01) ∷
      (is_absent (kind_of k) x, fails_with k c02) ∷
      (is_malformed (kind_of k) x, fails_with k c03) ∷
      (is_beyond (kind_of k) x, fails_with k c05) ∷
      []

  abbrev asks_then : Command → Asks
  asks_then k = asks_with k (value_of (kind_of k) x)

  -- what an ADR must be, and what a global must be
  abbrev adr_with : Command → Class
  adr_with k =
      pick (is_absent (kind_of k) x) (faulty (reply_of s (code_text c02)))
      (pick (is_malformed (kind_of k) x) (faulty (reply_of s (code_text c03)))
      (pick (is_beyond (kind_of k) x) (faulty (reply_of s (code_text c05)))
      (select (value_of (kind_of k) x) (reply_of s (code_text 0)))))

  abbrev global_with : Command → Class
  global_with k = pick (is_absent (kind_of k) x || is_malformed (kind_of k) x) (faulty []) global

  to_one_lem : (e : Bool) (k : Command) → EachHas (λ a. class_by a s ≡ other) (later_stages e k)
      → class_by (asks_then k) s ≡ other → class_by (first_of (later_stages e k) (asks_then k)) s ≡ other
  to_one_lem e k h p = first_has (λ a. class_by a s ≡ other) (later_stages e k) (asks_then k) h p

  to_all_lem : (o : OrderWord) (a m : Bool)
      → class_by
      (pick (is_unknown (kind_of_order o)) (fails_with (to_all o) c01)
      (pick a (fails_with (to_all o) c02)
      (pick m (fails_with (to_all o) c03)
      (pick (is_beyond (kind_of_order o) x) (fails_with (to_all o) c05) (asks_then (to_all o)))))) s
      ≡ pick (a || m) (faulty []) global
  to_all_lem o true m = rw (order_known o) refl
  to_all_lem o false true = rw (order_known o) refl
  to_all_lem o false false = rw (order_known o, order_within o x) refl

  to_select : (a m b : Bool)
      → class_by
      (pick a (fails_with selecting c02) (pick m (fails_with selecting c03) (pick b (fails_with selecting c05) (asks_then selecting)))) s
      ≡ pick a (faulty (reply_of s (code_text c02)))
      (pick m (faulty (reply_of s (code_text c03)))
      (pick b (faulty (reply_of s (code_text c05)))
      (select (value_of address x) (reply_of s (code_text 0)))))
  to_select true m b = refl
  to_select false true b = refl
  to_select false false true = refl
  to_select false false false = refl

  abbrev Classed : Command → Bool → Type 0
  Classed k e =
      class_by (first_of (later_stages e k) (asks_then k)) s
      ≡ pick (selects k) (adr_with k) (pick (reaches_all k) (global_with k) other)

  classed : (k : Command) (e : Bool) → (e ≡ true → k ≡ unknown_word) → Classed k e
  classed (to_one o) e h = to_one_lem e (to_one o) (refl, (refl, (refl, (refl, (refl, tt))))) refl
  classed (of_one q) e h = to_one_lem e (of_one q) (refl, (refl, (refl, (refl, (refl, tt))))) refl
  classed unknown_word e h = to_one_lem e unknown_word (refl, (refl, (refl, (refl, (refl, tt))))) refl
  classed (to_all o) true h = absurd (true≢false (ap reaches_all (h refl)))
  classed (to_all o) false h = to_all_lem o (is_absent (kind_of_order o) x) (is_malformed (kind_of_order o) x)
  classed selecting true h = absurd (true≢false (ap selects (h refl)))
  classed selecting false h = to_select (is_absent address x) (is_malformed address x) (is_beyond address x)

  -- a line that is spoiled or has a wrong checksum goes to the selected slot, whatever its word
  any_classed : (spoiled wrong e : Bool) (k : Command) → Classed k e
      → class_by (first_of ((spoiled, Error c01) ∷ (wrong, Error c04) ∷ later_stages e k) (asks_then k)) s
      ≡ pick ((not spoiled && not wrong) && selects k) (adr_with k)
      (pick ((not spoiled && not wrong) && reaches_all k) (global_with k) other)
  any_classed true wrong e k h = refl
  any_classed false true e k h = refl
  any_classed false false e k h = h

-- THE CLASS OF EVERY LINE
pub class_for_lem : (kept : List ℕ) (spoiled : Bool) → class_of kept spoiled ≡ class_for kept spoiled
unfolding class_of
class_for_lem kept spoiled =
    let x = given_in kept in
    let s = draws_checksum kept spoiled in
    let k = command_in kept in
    let e = is_empty (body_of kept) in
    rw (verdicts kept spoiled, checksummed_when kept spoiled, ← adr_word_lem (word_in kept), ← global_word (word_in kept))
    (any_classed x s spoiled (has_wrong_checksum kept) e k (classed x s k e (empty_word (body_of kept))))

-- EACH PART
pub classes : (kept : List ℕ) (spoiled : Bool) → Classes kept spoiled
unfolding class_of
classes kept spoiled =
    record {
      class_is = class_for_lem kept spoiled;
      spoiled_other = λ e. rw e (spoiled_class kept);
      wrong_checksum_other = wrong_checksum_class kept spoiled;
      select_inside = λ n t e. rw (ap address_of e) at (class_inside (heard_of kept spoiled).asks (heard_of kept spoiled).checksummed (heard_inside kept spoiled));
      select_reply = λ n t e m s. sym (ap bytes_of e) ∙ own_reply m s (heard_of kept spoiled).checksummed (heard_of kept spoiled).asks (ap is_own e);
      faulty_reply = λ t e m s. sym (ap bytes_of e) ∙ own_reply m s (heard_of kept spoiled).checksummed (heard_of kept spoiled).asks (ap is_own e);
    }
