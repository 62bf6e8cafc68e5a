-- A number sent with the order for a setting: it is rounded, then checked, and what was checked is what is set.
use Rattle.std.specs.Prelude.{ℕ, ◌≡◌, List, [], ◌∷◌, Bool, true, false}
use Rattle.base.specs.Choice.{pick}
use Rattle.base.specs.Text.{codes}
use Rattle.figures.specs.Rounded.{RoundedTo, Spelled}
use Rattle.models.specs.Models.{limits_of}
use Rattle.words.specs.Words.{Row}
use Rattle.supply.specs.declared.Supply.{Supply}
use Rattle.supply.specs.declared.Target.{Target}
use Rattle.supply.specs.declared.Target.TheVariants.{Pv, Pc, Ovp, Uvl}
use Rattle.settings.specs.Settings.{setting_of}
use Rattle.codes.specs.Codes.{set_code}
use Rattle.parameters.specs.Parameters.{Kind, bare, number, switch, hex, address, unknown}
use Rattle.asks.specs.Words.{OrderWord, set, Command, to_one, to_all, decimals_of, kind_of, commands}
use Rattle.command.specs.Lines.{heard_of}
use Rattle.texts.specs.Texts.{code_text, reply_of}
use Rattle.protocol.specs.Sent.{obeyed, replied_to}
use Rattle.protocol.specs.Verdicts.{given_in, draws_checksum}

-- an order to every fitted supply, or to the selected one
abbrev pub order_to : Bool → OrderWord → Command
order_to true o = to_all o
order_to false o = to_one o

-- ROUNDED, THEN CHECKED: a line with the order to set t, to every supply or to one, and n, the number that it gives.
-- s is a supply that takes the line, and m its model
pub record Entered (m : ℕ) (s : Supply) (line : List ℕ) (all : Bool) (t : Target) (n : ℕ) : Type 0 where
  -- the parameter spells a number, and n, n alone, is that number rounded to a whole tick or mA
  pub spelled : Spelled (given_in line)
  pub rounded : RoundedTo (decimals_of t) (given_in line) n
  pub only : (v : ℕ) → RoundedTo (decimals_of t) (given_in line) v → v ≡ n
  -- n is judged: either the setting becomes n, or nothing changes; and the selected supply tells the verdict on n
  pub accepted : set_code (limits_of m) s t n ≡ 0 → setting_of t (obeyed m s (heard_of line false).asks) ≡ n
  pub refused : (set_code (limits_of m) s t n ≡ 0 → ⊥) → obeyed m s (heard_of line false).asks ≡ s
  pub told :
      replied_to m s (heard_of line false).asks (heard_of line false).checksummed
      ≡ pick all [] (reply_of (draws_checksum line false) (code_text (set_code (limits_of m) s t n)))

-- the rows of a table whose word takes a number, each with the decimals of that number
abbrev pub with_number : Kind → Row Command → List (Row Command × ℕ) → List (Row Command × ℕ)
with_number (number k) r rs = (r, k) ∷ rs
with_number bare r rs = rs
with_number (switch most) r rs = rs
with_number hex r rs = rs
with_number address r rs = rs
with_number unknown r rs = rs

abbrev pub number_rows : List (Row Command) → List (Row Command × ℕ)
number_rows [] = []
number_rows (r ∷ rs) = with_number (kind_of r.1) r (number_rows rs)

-- WHICH WORDS TAKE A NUMBER, for which setting and with how many decimals: these six and no other
abbrev pub SixWords : Type 0
SixWords =
    number_rows commands
    ≡ ((codes "PV", to_one (set Pv)), 4) ∷
    ((codes "PC", to_one (set Pc)), 3) ∷
    ((codes "OVP", to_one (set Ovp)), 4) ∷
    ((codes "UVL", to_one (set Uvl)), 4) ∷
    ((codes "GPV", to_all (set Pv)), 4) ∷
    ((codes "GPC", to_all (set Pc)), 3) ∷
    []
