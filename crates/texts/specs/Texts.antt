-- The text of a reply: OK, an error code or an answer, then a checksum if the line had one, and CR.
use Rattle.std.specs.Prelude.{ℕ, ◌/◌, ◌%◌, List, [], ◌∷◌, ◌++◌, Bool, true, false, eqb}
use Rattle.base.specs.Choice.{pick}
use Rattle.base.specs.Text.{codes}
use Rattle.prints.specs.Figure.{figure}
use Rattle.hexadecimal.specs.Hex.{hex_digit, hex_pair, checksum}
use Rattle.supply.specs.declared.Word.{Word}
use Rattle.supply.specs.declared.Word.TheVariants.{On, Off, Loc, Rem, Llo, Cc, Cv}
use Rattle.supply.specs.declared.Status.{Status}
use Rattle.supply.specs.declared.QueryAnswer.{QueryAnswer}
use Rattle.supply.specs.declared.QueryAnswer.TheVariants.{Figure, Says, Hex, Tells}

-- error code 0 reads OK; any other reads as its two digits with a 0 between them, so 0xC5 is C05
unfoldable pub code_text : ℕ → List ℕ
code_text c = pick (eqb c 0) (codes "OK") (hex_digit (c / 16) ∷ 48 ∷ hex_digit (c % 16) ∷ [])

unfoldable pub word_text : Word → List ℕ
word_text On = codes "ON"
word_text Off = codes "OFF"
word_text Loc = codes "LOC"
word_text Rem = codes "REM"
word_text Llo = codes "LLO"
word_text Cc = codes "CC"
word_text Cv = codes "CV"

-- what STT? tells, each value in parentheses behind its name: the reading and the setting in volts and in amperes, then
-- STAT as SR and FLT as FR
unfoldable pub status_text : Status → List ℕ
status_text t =
    (codes "MV(" ++ figure 4 t.volts) ++
    (codes "),PV(" ++ figure 4 t.pv) ++
    (codes "),MC(" ++ figure 3 t.amps) ++
    (codes "),PC(" ++ figure 3 t.pc) ++
    (codes "),SR(" ++ hex_pair t.stat) ++
    (codes "),FR(" ++ hex_pair t.flt) ++
    codes ")"

unfoldable pub answer_text : QueryAnswer → List ℕ
answer_text (Figure k v) = figure k v
answer_text (Says w) = word_text w
answer_text (Hex b) = hex_pair b
answer_text (Tells t) = status_text t

-- what ends the reply xs: $ (36) and its checksum if the line had a right one, then CR (13)
unfoldable pub ending : Bool → List ℕ → List ℕ
ending true xs = 36 ∷ (hex_pair (checksum xs) ++ (13 ∷ []))
ending false xs = 13 ∷ []

abbrev pub reply_of : Bool → List ℕ → List ℕ
reply_of checksummed xs = xs ++ ending checksummed xs
