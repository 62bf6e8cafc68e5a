-- A printed setting reads back as itself, and the supply that has it accepts it.
use Prim.Native.Nat.{ℕ, suc, ◌+◌, ◌-◌, ◌/◌, ◌^◌, ◌<◌, ◌≤◌}
use mathlib.Core.Path.{◌≡◌, refl, sym, ap, ◌∙◌}
use mathlib.Core.List.{List, [], ◌∷◌, ◌++◌}
use mathlib.Core.Bool.{Bool, true, false, ◌&&◌}
use native.Mathlib.Omega.{arith}
use lib.Dec.{leb, lit<}
use lib.ListN.{length, get_or, length-append}
use lib.Seq.{get_or-append-add}
use borrow.Author.Tests.{ne_eqb}
use Rattle.figures.specs.Number.{first_at}
use Rattle.prints.specs.Figure.{fixed, shortest, decimals, figure}
use Rattle.prints.proofs.Print.{length_fixed}
use Rattle.prints.proofs.RoundTrip.{read_short}
use Rattle.words.specs.Words.{find_word}
use Rattle.models.specs.Models.{limits_of}
use Rattle.supply.specs.declared.Supply.{Supply}
use Rattle.supply.specs.declared.Target.{Target}
use Rattle.supply.specs.declared.Target.TheVariants.{Pv, Pc, Ovp, Uvl}
use Rattle.supply.specs.declared.Order.TheVariants.{Set}
use Rattle.supply.specs.declared.Act.TheVariants.{Obey, Ask}
use Rattle.settings.specs.Settings.{setting_of}
use Rattle.settings.specs.Lawful.{Lawful}
use Rattle.settings.proofs.Knob.{same_setting}
use Rattle.codes.specs.Codes.{order_code}
use Rattle.acts.specs.Acts.{code_of, performed}
use Rattle.answers.specs.Answers.{answer_of}
use Rattle.guarantees.proofs.Keeps.{admissible_accepted}
use Rattle.asks.specs.Asks.{One}
use Rattle.parameters.specs.Parameters.{number, is_empty, read_as, parameter_of}
use Rattle.asks.specs.Words.{set, to_one, asked_with, asked_by}
use Rattle.asks.specs.Asked.{asks_of}
use Rattle.command.specs.Lines.{has_checksum, heard_as, heard_of}
use Rattle.texts.specs.Texts.{answer_text, ending}
use Rattle.reply.specs.Obeying.{said_of}
use Rattle.protocol.specs.Sent.{replied_to}
use Rattle.protocol.specs.SentBack.{query_of, query_word, order_word, SentBack}
use Rattle.protocol.proofs.Entered.{set_taken}

-- a figure with decimals is not empty, and its third character from the end is a digit
figure_length : (k v : ℕ) → length (figure (suc k) v) ≡ length (shortest 20 (v / 10 ^ suc k)) + suc (suc k)
unfolding figure decimals
figure_length k v = length-append (shortest 20 (v / 10 ^ suc k)) (46 ∷ fixed (suc k) v) ∙ ap (λ (n : ℕ). length (shortest 20 (v / 10 ^ suc k)) + suc n) (length_fixed (suc k) v)

figure_at : (k v i : ℕ) → get_or (figure k v) (length (shortest 20 (v / 10 ^ k)) + i) 0 ≡ get_or (decimals k v) i 0
unfolding figure
figure_at k v i = get_or-append-add (shortest 20 (v / 10 ^ k)) (decimals k v) i 0

third_3 : (v : ℕ) → get_or (figure 3 v) (length (figure 3 v) - 3) 0 ≡ 36 → ⊥
unfolding decimals fixed
third_3 v e =
    let l = figure_length 2 v in
    let i : length (figure 3 v) - 3 ≡ length (shortest 20 (v / 10 ^ 3)) + 1 = omega arith in
    let d : get_or (decimals 3 v) 1 0 ≡ 36 = sym (figure_at 3 v 1) ∙ rw i at e in
    omega arith

third_4 : (v : ℕ) → get_or (figure 4 v) (length (figure 4 v) - 3) 0 ≡ 36 → ⊥
unfolding decimals fixed
third_4 v e =
    let l = figure_length 3 v in
    let i : length (figure 4 v) - 3 ≡ length (shortest 20 (v / 10 ^ 4)) + 2 = omega arith in
    let d : get_or (decimals 4 v) 2 0 ≡ 36 = sym (figure_at 4 v 2) ∙ rw i at e in
    omega arith

-- a word, a space and such a figure have no checksum
no_checksum : (w xs : List ℕ) → 3 ≤ length xs → (get_or xs (length xs - 3) 0 ≡ 36 → ⊥) → has_checksum (w ++ (32 ∷ xs)) ≡ false
no_checksum w xs h n =
    let l = length-append w (32 ∷ xs) in
    let i : length (w ++ (32 ∷ xs)) - 3 ≡ length w + suc (length xs - 3) = omega arith in
    let g : get_or (w ++ (32 ∷ xs)) (length (w ++ (32 ∷ xs)) - 3) 0 ≡ get_or xs (length xs - 3) 0 = rw i (get_or-append-add w (32 ∷ xs) (suc (length xs - 3)) 0) in
    rw (g, ne_eqb (get_or xs (length xs - 3) 0) 36 n) (and_false (leb 3 (length (w ++ (32 ∷ xs)))))
  where
    and_false : (b : Bool) → (b && false) ≡ false
    and_false true = refl
    and_false false = refl

not_empty : (w xs : List ℕ) → is_empty (w ++ (32 ∷ xs)) ≡ false
not_empty w xs = ne_eqb (length (w ++ (32 ∷ xs))) 0 (λ e. omega (arith, length-append w (32 ∷ xs)))

-- the order for a setting, given its own print
number_asked : (t : Target) (k v : ℕ) → suc k < 10 → v < 2 ^ 32 → asked_with (to_one (set t)) (parameter_of (number (suc k)) (figure (suc k) v)) ≡ One (Obey (Set t v))
unfolding parameter_of read_as
number_asked t k v h l =
    rw (read_short (suc k) v h l, ne_eqb (length (figure (suc k) v)) 0 (λ e. omega (arith, figure_length k v))) refl

read_back : (m : ℕ) (s : Supply) (t : Target) → setting_of t s < 2 ^ 32 → heard_of (order_word t ++ (32 ∷ answer_text (answer_of m s (query_of t)))) false ≡ heard_as (One (Obey (Set t (setting_of t s)))) false
unfolding heard_of asks_of asked_by answer_of answer_text find_word first_at setting_of
read_back m s Pv l = rw (no_checksum (order_word Pv) (figure 4 s.pv) (omega (arith, figure_length 3 s.pv)) (third_4 s.pv), not_empty (order_word Pv) (figure 4 s.pv)) (ap (λ a. heard_as a false) (number_asked Pv 3 s.pv (lit< tt) l))
read_back m s Pc l = rw (no_checksum (order_word Pc) (figure 3 s.pc) (omega (arith, figure_length 2 s.pc)) (third_3 s.pc), not_empty (order_word Pc) (figure 3 s.pc)) (ap (λ a. heard_as a false) (number_asked Pc 2 s.pc (lit< tt) l))
read_back m s Ovp l = rw (no_checksum (order_word Ovp) (figure 4 s.ovp) (omega (arith, figure_length 3 s.ovp)) (third_4 s.ovp), not_empty (order_word Ovp) (figure 4 s.ovp)) (ap (λ a. heard_as a false) (number_asked Ovp 3 s.ovp (lit< tt) l))
read_back m s Uvl l = rw (no_checksum (order_word Uvl) (figure 4 s.uvl) (omega (arith, figure_length 3 s.uvl)) (third_4 s.uvl), not_empty (order_word Uvl) (figure 4 s.uvl)) (ap (λ a. heard_as a false) (number_asked Uvl 3 s.uvl (lit< tt) l))

-- sending back the present setting is accepted, and the setting stays
sent_accepted : (m : ℕ) (s : Supply) (t : Target) → Lawful m s → code_of m s (Obey (Set t (setting_of t s))) ≡ 0
unfolding code_of order_code
sent_accepted m s t h = admissible_accepted (limits_of m) s t (setting_of t s) (rw (same_setting s t) h)

sent_leaves : (m : ℕ) (s : Supply) (t : Target) → Lawful m s → setting_of t (performed m s (Obey (Set t (setting_of t s)))) ≡ setting_of t s
sent_leaves m s t h = set_taken m s t (setting_of t s) (sent_accepted m s t h)

query_asked : (t : Target) → heard_of (query_word t) false ≡ heard_as (One (Ask (query_of t))) false
unfolding heard_of asks_of asked_by parameter_of find_word first_at
query_asked Pv = refl
query_asked Pc = refl
query_asked Ovp = refl
query_asked Uvl = refl

query_printed : (m : ℕ) (s : Supply) (t : Target) → replied_to m s (One (Ask (query_of t))) false ≡ answer_text (answer_of m s (query_of t)) ++ (13 ∷ [])
unfolding replied_to said_of ending
query_printed m s t = refl

-- EACH PRINTED SETTING, SENT BACK, READS AS THE SAME VALUE
pub sent_back : (m : ℕ) (s : Supply) (t : Target) → setting_of t s < 2 ^ 32 → SentBack m s t (answer_text (answer_of m s (query_of t)))
sent_back m s t l =
    record {
      asked = query_asked t;
      printed = query_printed m s t;
      read = read_back m s t l;
      accepted = sent_accepted m s t;
      leaves = sent_leaves m s t;
    }
