-- A number sent with an order is rounded, then checked, and what was checked is what is set.
use Prim.Native.Nat.{ℕ}
use mathlib.Core.Path.{◌≡◌, refl, ◌∙◌}
use mathlib.Core.List.{List, [], ◌∷◌}
use mathlib.Core.Bool.{Bool, true, false, false≢true}
use native.Mathlib.Omega.{arith}
use lib.ListN.{length}
use borrow.Author.Tests.{ne_eqb}
use Rattle.base.specs.Choice.{pick}
use Rattle.figures.specs.Number.{first_at, well_formed, read_number}
use Rattle.figures.specs.Digits.{all_digits}
use Rattle.figures.proofs.Laws.{spelled, number_good, number_rounded, rounded_number}
use Rattle.models.specs.Models.{limits_of}
use Rattle.supply.specs.declared.Supply.{Supply}
use Rattle.supply.specs.declared.Target.{Target}
use Rattle.supply.specs.declared.Target.TheVariants.{Pv, Pc, Ovp, Uvl}
use Rattle.supply.specs.declared.Order.TheVariants.{Set}
use Rattle.supply.specs.declared.Act.TheVariants.{Obey}
use Rattle.supply.specs.Memory.{cv_forgotten}
use Rattle.supply.specs.Registers.{feve_gained, seve_gained, settled}
use Rattle.settings.specs.Settings.{setting_of, with_setting}
use Rattle.codes.specs.Codes.{set_code, order_code}
use Rattle.orders.specs.Orders.{remote, remote_by, ordered}
use Rattle.acts.specs.Acts.{code_of, clearing_order, clearing_act, acted, performed}
use Rattle.acts.proofs.Idle.{unmoved}
use Rattle.parameters.specs.Parameters.{number, is_empty, read_as}
use Rattle.asks.specs.Words.{set, decimals_of, kind_of, asks_with}
use Rattle.asks.specs.Asked.{parameter_text}
use Rattle.command.specs.Lines.{heard_of}
use Rattle.reply.specs.Obeying.{said_of}
use Rattle.texts.specs.Texts.{code_text, reply_of}
use Rattle.protocol.specs.Sent.{obeyed, replied_to}
use Rattle.protocol.specs.Verdicts.{body_of, command_in, given_in, has_wrong_checksum, draws_checksum}
use Rattle.protocol.specs.Entered.{order_to, Entered, SixWords}
use Rattle.protocol.proofs.Verdicts.{verdicts, checksummed_when}

remote_setting : (t : Target) (s : Supply) → setting_of t (remote s) ≡ setting_of t s
unfolding remote setting_of
remote_setting Pv s = refl
remote_setting Pc s = refl
remote_setting Ovp s = refl
remote_setting Uvl s = refl

remote_by_setting : (t : Target) (s : Supply) → setting_of t (remote_by t s) ≡ setting_of t s
unfolding remote_by
remote_by_setting Pv s = remote_setting Pv s
remote_by_setting Pc s = remote_setting Pc s
remote_by_setting Ovp s = refl
remote_by_setting Uvl s = refl

settled_setting : (t : Target) (m : ℕ) (s u : Supply) → setting_of t (settled m s u) ≡ setting_of t u
unfolding settled seve_gained feve_gained setting_of
settled_setting Pv m s u = refl
settled_setting Pc m s u = refl
settled_setting Ovp m s u = refl
settled_setting Uvl m s u = refl

forgotten_setting : (t : Target) (s : Supply) → setting_of t (cv_forgotten s) ≡ setting_of t s
unfolding cv_forgotten setting_of
forgotten_setting Pv s = refl
forgotten_setting Pc s = refl
forgotten_setting Ovp s = refl
forgotten_setting Uvl s = refl

with_setting_lem : (t : Target) (n : ℕ) (s : Supply) → setting_of t (with_setting t n s) ≡ n
unfolding with_setting setting_of
with_setting_lem Pv n s = refl
with_setting_lem Pc n s = refl
with_setting_lem Ovp n s = refl
with_setting_lem Uvl n s = refl

-- an accepted figure is the setting afterwards
pub set_taken : (m : ℕ) (s : Supply) (t : Target) (n : ℕ) → code_of m s (Obey (Set t n)) ≡ 0 → setting_of t (performed m s (Obey (Set t n))) ≡ n
unfolding performed acted ordered clearing_act clearing_order
set_taken m s t n e =
    rw e
    (forgotten_setting t (settled m s (remote_by t (with_setting t n s)))
    ∙ settled_setting t m s (remote_by t (with_setting t n s)) ∙ remote_by_setting t (with_setting t n s) ∙ with_setting_lem t n s)

filled : (y : ℕ) (ys : List ℕ) → is_empty (y ∷ ys) ≡ false
filled y ys = ne_eqb (length (y ∷ ys)) 0 (λ n. omega arith)

-- a well-formed number is not empty, nor is a line that has one
some_number : (x : List ℕ) → well_formed x ≡ true → is_empty x ≡ false
unfolding well_formed first_at all_digits
some_number [] e = absurd (false≢true e)
some_number (y ∷ ys) e = filled y ys

some_line : (u : List ℕ) → well_formed (parameter_text u) ≡ true → is_empty u ≡ false
unfolding first_at
some_line [] e = some_number [] e
some_line (y ∷ ys) e = filled y ys

number_kind : (all : Bool) (t : Target) → kind_of (order_to all (set t)) ≡ number (decimals_of t)
number_kind true t = refl
number_kind false t = refl

module _ (m : ℕ) (s : Supply) (line : List ℕ) (all : Bool) (t : Target) where
  -- to every supply or to one, a supply that takes the order does the same
  both_obey : (n : ℕ) → obeyed m s (asks_with (order_to all (set t)) n) ≡ performed m s (Obey (Set t n))
  unfolding obeyed
  both_obey n = by_whom all
    where
      by_whom : (b : Bool) → obeyed m s (asks_with (order_to b (set t)) n) ≡ performed m s (Obey (Set t n))
      by_whom true = refl
      by_whom false = refl

  one_replies : (n : ℕ) (c : Bool) → replied_to m s (asks_with (order_to all (set t)) n) c ≡ pick all [] (reply_of c (code_text (set_code (limits_of m) s t n)))
  unfolding replied_to said_of code_of order_code
  one_replies n c = by_whom all
    where
      by_whom : (b : Bool) → replied_to m s (asks_with (order_to b (set t)) n) c ≡ pick b [] (reply_of c (code_text (set_code (limits_of m) s t n)))
      by_whom true = refl
      by_whom false = refl

  module _ (word : command_in line ≡ order_to all (set t)) (sound : has_wrong_checksum line ≡ false) (good : well_formed (given_in line) ≡ true) where
    asked : (heard_of line false).asks ≡ asks_with (order_to all (set t)) (read_number (decimals_of t) (given_in line)).value
    unfolding read_as
    asked =
        verdicts line false
        ∙ rw (sound, some_line (body_of line) good, word, number_kind all t, some_number (given_in line) good, number_good (decimals_of t) (given_in line) good)
        refl

    -- ROUNDED, THEN CHECKED
    pub entered : Entered m s line all t (read_number (decimals_of t) (given_in line)).value
    unfolding code_of order_code
    entered =
        let n = (read_number (decimals_of t) (given_in line)).value in
        record {
          spelled = spelled (given_in line);
          rounded = number_rounded (decimals_of t) (given_in line) good;
          only = rounded_number (decimals_of t) (given_in line) good;
          accepted = λ e. rw (asked, both_obey n) (set_taken m s t n e);
          refused = λ e. rw (asked, both_obey n) (unmoved m s (Obey (Set t n)) e);
          told = rw (asked, checksummed_when line false) (one_replies n (draws_checksum line false));
        }

-- WHICH WORDS TAKE A NUMBER
pub six_words : SixWords
six_words = refl
