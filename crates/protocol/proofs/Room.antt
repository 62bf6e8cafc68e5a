-- A line draws at most fifteen bytes of reply for each of its characters and for its CR.
use Prim.Native.Nat.{ℕ, ◌+◌, ◌-◌, ◌*◌, ◌^◌, ◌<◌, ◌≤◌}
use mathlib.Core.Path.{◌≡◌, refl}
use mathlib.Core.List.{List}
use mathlib.Core.Bool.{Bool, true, false, and-eq-true_iff}
use native.Mathlib.Nat.{lt_of_lt_of_le}
use native.Mathlib.Omega.{arith}
use lib.Dec.{leb, eqb, lit<, lit≤}
use lib.ListN.{length, get_or, length-append, length-take, length-map}
use borrow.Author.Tests.{leb-true}
use Rattle.base.specs.Choice.{pick}
use Rattle.base.proofs.Choice.{pick_keeps}
use Rattle.models.specs.Models.{volt_reading, amp_reading}
use Rattle.models.proofs.Rules.{volts_small, amps_small}
use Rattle.prints.specs.Figure.{figure}
use Rattle.hexadecimal.specs.Hex.{hex_pair}
use Rattle.prints.proofs.Print.{length_figure}
use Rattle.words.specs.Words.{upper, upper_all}
use Rattle.words.proofs.Table.{find_passes}
use Rattle.supply.specs.declared.Supply.{Supply}
use Rattle.supply.specs.declared.Target.TheVariants.{Pv, Pc, Ovp, Uvl}
use Rattle.supply.specs.declared.Query.{Query}
use Rattle.supply.specs.declared.Query.TheVariants as query
use Rattle.supply.specs.declared.Word.{Word}
use Rattle.supply.specs.declared.Word.TheVariants.{On, Off, Loc, Rem, Llo, Cc, Cv}
use Rattle.supply.specs.declared.QueryAnswer.{QueryAnswer}
use Rattle.supply.specs.declared.QueryAnswer.TheVariants.{Figure, Says, Hex, Tells}
use Rattle.supply.specs.declared.Act.TheVariants.{Lines, Sample, Press, Turn, Obey, Ask, Nothing}
use Rattle.supply.specs.Flt.{on_of}
use Rattle.settings.specs.Settings.{setting_of}
use Rattle.acts.specs.Acts.{code_of}
use Rattle.answers.specs.Answers.{switch_of, mode_word, running, status_of, answer_of}
use Rattle.asks.specs.Asks.{Asks}
use Rattle.asks.specs.Asks.{Select, BadSelect, Everyone, Nobody, One, Error}
use Rattle.parameters.specs.Parameters.{c01, c04, is_empty, parameter_of}
use Rattle.asks.specs.Words.{Command, to_one, of_one, to_all, selecting, unknown_word, kind_of, asks_with, fails_with}
use Rattle.asks.specs.Words.{commands, command_of, asked_with, asked_by}
use Rattle.asks.specs.Asked.{word_of, parameter_text, asks_of}
use Rattle.command.specs.Lines.{has_checksum, right_checksum, before_checksum, heard_as, heard_of}
use Rattle.texts.specs.Texts.{code_text, word_text, status_text, answer_text, ending}
use Rattle.reply.specs.Obeying.{said_of}
use Rattle.protocol.specs.Sent.{replied_to}
use Rattle.protocol.specs.SentBack.{Sized, rate, longest, Room}

code_short : (c : ℕ) → length (code_text c) ≤ 3
unfolding code_text
code_short c = pick_keeps (λ (t : List ℕ). length t ≤ 3) (eqb c 0) _ _ (lit≤ tt) (lit≤ tt)

word_short : (w : Word) → length (word_text w) ≤ 3
unfolding word_text
word_short On = lit≤ tt
word_short Off = lit≤ tt
word_short Loc = lit≤ tt
word_short Rem = lit≤ tt
word_short Llo = lit≤ tt
word_short Cc = lit≤ tt
word_short Cv = lit≤ tt

-- 32-bit figures take at most 11 characters
volts_short : (v : ℕ) → v < 2 ^ 32 → length (figure 4 v) ≤ 11
volts_short v h = length_figure 6 4 v (lit< tt) (lt_of_lt_of_le h (lit≤ tt))

amps_short : (v : ℕ) → v < 2 ^ 32 → length (figure 3 v) ≤ 11
amps_short v h = length_figure 7 3 v (lit< tt) (lt_of_lt_of_le h (lit≤ tt))

-- readings take at most 8 characters for volts and 7 for amperes
volt_reading_short : (m count : ℕ) → count < 2 ^ 16 → length (figure 4 (volt_reading m count)) ≤ 8
volt_reading_short m count h = length_figure 3 4 _ (lit< tt) (volts_small m count h)

amp_reading_short : (m count : ℕ) → count < 2 ^ 16 → length (figure 3 (amp_reading m count)) ≤ 7
amp_reading_short m count h = length_figure 3 3 _ (lit< tt) (amps_small m count h)

-- the most characters of an answer
abbrev most : QueryAnswer → ℕ
most (Figure k v) = 11
most (Says w) = 11
most (Hex b) = 11
most (Tells t) = 70

most_70 : (a : QueryAnswer) → most a ≤ 70
most_70 (Figure k v) = lit≤ tt
most_70 (Says w) = lit≤ tt
most_70 (Hex b) = lit≤ tt
most_70 (Tells t) = lit≤ tt

status_short : (m : ℕ) (s : Supply) → Sized s → length (status_text (status_of m s)) ≤ 70
unfolding status_text setting_of hex_pair
status_short m s z =
    simp length-append
    (omega (
      arith,
      volt_reading_short m s.volt_count z.volt_count,
      volts_short s.pv (z.setting Pv),
      amp_reading_short m s.amp_count z.amp_count,
      amps_short s.pc (z.setting Pc),
    ))

answer_short : (m : ℕ) (s : Supply) → Sized s → (q : Query) → length (answer_text (answer_of m s q)) ≤ most (answer_of m s q)
unfolding answer_of answer_text setting_of hex_pair
answer_short m s z query.Pv = volts_short s.pv (z.setting Pv)
answer_short m s z query.Pc = amps_short s.pc (z.setting Pc)
answer_short m s z query.Ovp = volts_short s.ovp (z.setting Ovp)
answer_short m s z query.Uvl = volts_short s.uvl (z.setting Uvl)
answer_short m s z query.Mv = omega (arith, volt_reading_short m s.volt_count z.volt_count)
answer_short m s z query.Mc = omega (arith, amp_reading_short m s.amp_count z.amp_count)
answer_short m s z query.Out = omega (arith, word_short (switch_of (on_of s)))
answer_short m s z query.Fld = omega (arith, word_short (switch_of s.armed))
answer_short m s z query.Ast = omega (arith, word_short (switch_of s.ast))
answer_short m s z query.Rmt = omega (arith, word_short (mode_word s.mode))
answer_short m s z query.Mode = omega (arith, word_short (running m s))
answer_short m s z query.Flt = lit≤ tt
answer_short m s z query.Fena = lit≤ tt
answer_short m s z query.Feve = lit≤ tt
answer_short m s z query.Stt = status_short m s z
answer_short m s z query.Stat = lit≤ tt
answer_short m s z query.Sena = lit≤ tt
answer_short m s z query.Seve = lit≤ tt

-- the most characters that a line draws, by what it asks: an answer, or else OK or an error code
abbrev most_said : ℕ → Supply → Asks → ℕ
most_said m s (One (Ask q)) = most (answer_of m s q)
most_said m s (One (Lines b)) = 3
most_said m s (One (Sample v a)) = 3
most_said m s (One (Press k)) = 3
most_said m s (One (Turn t raw)) = 3
most_said m s (One (Obey o)) = 3
most_said m s (One Nothing) = 3
most_said m s (Select n) = 3
most_said m s (BadSelect c) = 3
most_said m s (Everyone o) = 3
most_said m s Nobody = 3
most_said m s (Error c) = 3

-- the reply is that text and CR
abbrev SaidShort : ℕ → Supply → Asks → Type 0
SaidShort m s a = (length (replied_to m s a false) ≤ most_said m s a + 1) × (most_said m s a ≤ 70)

said_short : (m : ℕ) (s : Supply) → Sized s → (a : Asks) → SaidShort m s a
unfolding replied_to said_of ending
said_short m s z (One (Ask q)) = (rw length-append (omega (arith, answer_short m s z q)), most_70 (answer_of m s q))
said_short m s z (One (Lines b)) = (rw length-append (omega (arith, code_short (code_of m s (Lines b)))), lit≤ tt)
said_short m s z (One (Sample v a)) = (rw length-append (omega (arith, code_short (code_of m s (Sample v a)))), lit≤ tt)
said_short m s z (One (Press k)) = (rw length-append (omega (arith, code_short (code_of m s (Press k)))), lit≤ tt)
said_short m s z (One (Turn k raw)) = (rw length-append (omega (arith, code_short (code_of m s (Turn k raw)))), lit≤ tt)
said_short m s z (One (Obey o)) = (rw length-append (omega (arith, code_short (code_of m s (Obey o)))), lit≤ tt)
said_short m s z (One Nothing) = (rw length-append (omega (arith, code_short (code_of m s Nothing))), lit≤ tt)
said_short m s z (Select k) = (rw length-append (omega (arith, code_short 0)), lit≤ tt)
said_short m s z (BadSelect c) = (rw length-append (omega (arith, code_short c)), lit≤ tt)
said_short m s z (Error c) = (rw length-append (omega (arith, code_short c)), lit≤ tt)
said_short m s z (Everyone o) = (lit≤ tt, lit≤ tt)
said_short m s z Nobody = (lit≤ tt, lit≤ tt)

-- a checksum adds three bytes
checksummed_longer : (m : ℕ) (s : Supply) (a : Asks) → length (replied_to m s a true) ≤ length (replied_to m s a false) + 3
unfolding replied_to ending hex_pair
checksummed_longer m s (One a) = rw (length-append, length-append) (omega arith)
checksummed_longer m s (Select k) = rw (length-append, length-append) (omega arith)
checksummed_longer m s (BadSelect c) = rw (length-append, length-append) (omega arith)
checksummed_longer m s (Error c) = rw (length-append, length-append) (omega arith)
checksummed_longer m s (Everyone o) = omega arith
checksummed_longer m s Nobody = omega arith

error_reply : (m : ℕ) (s : Supply) → length (replied_to m s (Error c01) false) ≡ 4
unfolding replied_to code_text ending
error_reply m s = refl

-- a query's word is long enough for its answer
abbrev long_enough : ℕ → Supply → ℕ → Command → Bool
long_enough m s n (of_one q) = leb (most (answer_of m s q) + 1) (rate * (n + 1))
long_enough m s n (to_one o) = true
long_enough m s n (to_all o) = true
long_enough m s n selecting = true
long_enough m s n unknown_word = true

word_long : (m : ℕ) (s : Supply) (w : List ℕ) → long_enough m s (length w) (command_of w) ≡ true
unfolding answer_of
word_long m s w = find_passes unknown_word (long_enough m s) commands refl w refl

asked_long : (m : ℕ) (s : Supply) (k : Command) (n v : ℕ) → long_enough m s n k ≡ true
    → most_said m s (asks_with k v) + 1 ≤ rate * (n + 1)
asked_long m s (of_one q) n v h = leb-true (most (answer_of m s q) + 1) (rate * (n + 1)) h
asked_long m s (to_one o) n v h = omega arith
asked_long m s (to_all o) n v h = omega arith
asked_long m s selecting n v h = omega arith
asked_long m s unknown_word n v h = omega arith

-- and an error code needs no more room than an empty line has
fails_long : (m : ℕ) (s : Supply) (k : Command) (c : ℕ) → most_said m s (fails_with k c) ≡ 3
fails_long m s (to_one o) c = refl
fails_long m s (of_one q) c = refl
fails_long m s (to_all o) c = refl
fails_long m s selecting c = refl
fails_long m s unknown_word c = refl

word_of_length : (u : List ℕ) → length (upper_all (word_of u)) ≤ length u
word_of_length u = rw (length-map (word_of u) upper, length-take) (omega arith)

line_long : (m : ℕ) (s : Supply) (u : List ℕ)
    → most_said m s (asked_by (command_of (upper_all (word_of u))) (parameter_text u)) + 1 ≤ rate * (length u + 1)
unfolding asked_by
line_long m s u = by_code (command_of (upper_all (word_of u))) (word_long m s (upper_all (word_of u)))
  where
    by_code : (k : Command) → long_enough m s (length (upper_all (word_of u))) k ≡ true
        → most_said m s (asked_with k (parameter_of (kind_of k) (parameter_text u))) + 1 ≤ rate * (length u + 1)
    by_code k l = by_test (eqb (parameter_of (kind_of k) (parameter_text u)).code 0)
      where
        by_test : (b : Bool)
            → most_said m s (pick b (asks_with k (parameter_of (kind_of k) (parameter_text u)).value) (fails_with k (parameter_of (kind_of k) (parameter_text u)).code)) + 1
            ≤ rate * (length u + 1)
        by_test true = omega (arith, asked_long m s k (length (upper_all (word_of u))) (parameter_of (kind_of k) (parameter_text u)).value l, word_of_length u)
        by_test false = omega (arith, fails_long m s k (parameter_of (kind_of k) (parameter_text u)).code)

body_short : (m : ℕ) (s : Supply) → Sized s → (u : List ℕ) → length (replied_to m s (asks_of u) false) ≤ rate * (length u + 1)
unfolding asks_of
body_short m s z u = by_empty (is_empty u)
  where
    by_empty : (b : Bool) → length (replied_to m s (pick b (One Nothing) (asked_by (command_of (upper_all (word_of u))) (parameter_text u))) false) ≤ rate * (length u + 1)
    by_empty true = omega (arith, (said_short m s z (One Nothing)).0)
    by_empty false = omega (arith, (said_short m s z (asked_by (command_of (upper_all (word_of u))) (parameter_text u))).0, line_long m s u)

-- whatever a line asks
any_short : (m : ℕ) (s : Supply) → Sized s → (a : Asks) (b : Bool) → length (replied_to m s a b) ≤ longest
any_short m s z a false = omega (arith, said_short m s z a)
any_short m s z a true = omega (arith, said_short m s z a, checksummed_longer m s a)

-- ROOM
pub room : (m : ℕ) (s : Supply) → Sized s → (t : List ℕ) → Room m s t
unfolding heard_of
room m s z t = record { fair = by_checksum (has_checksum t) (right_checksum t) refl; short = any_short m s z _ _; spoiled = error_reply m s }
  where
    by_checksum : (h r : Bool) → has_checksum t ≡ h
        → length (replied_to m s (pick h (pick r (heard_as (asks_of (before_checksum t)) true) (heard_as (Error c04) false)) (heard_as (asks_of t) false)).asks (pick h (pick r (heard_as (asks_of (before_checksum t)) true) (heard_as (Error c04) false)) (heard_as (asks_of t) false)).checksummed) ≤ rate * (length t + 1)
    by_checksum true true e =
        let l = leb-true 3 (length t) ((and-eq-true_iff (leb 3 (length t)) (eqb (get_or t (length t - 3) 0) 36)).0 e).0 in
        omega (arith, body_short m s z (before_checksum t), checksummed_longer m s (asks_of (before_checksum t)), length-take (length t - 3) t)
    by_checksum true false e =
        let l = leb-true 3 (length t) ((and-eq-true_iff (leb 3 (length t)) (eqb (get_or t (length t - 3) 0) 36)).0 e).0 in
        omega (arith, (said_short m s z (Error c04)).0)
    by_checksum false r e = body_short m s z t
