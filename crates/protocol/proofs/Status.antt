-- The words of the status registers; STT? gathers the answers to six other queries; and what a fresh supply replies to it.
use Prim.Native.Nat.{ℕ}
use mathlib.Core.Path.{◌≡◌, refl}
use native.Mathlib.Nat.{zero-mul}
use Rattle.models.specs.Models.{volt_reading, amp_reading}
use Rattle.hexadecimal.specs.Hex.{is_hex, hex_of, read_hex, hex_pair}
use Rattle.prints.specs.Figure.{fixed, shortest, decimals, figure}
use Rattle.supply.specs.declared.Supply.{Supply}
use Rattle.supply.specs.State.{fresh}
use Rattle.supply.specs.Flt.{flt_of, on_of}
use Rattle.supply.specs.Stat.{stat_of}
use Rattle.answers.specs.Answers.{answer_of}
use Rattle.texts.specs.Texts.{status_text, answer_text, ending}
use Rattle.reply.specs.Obeying.{said_of}
use Rattle.figures.specs.Number.{first_at}
use Rattle.words.specs.Words.{find_word}
use Rattle.parameters.specs.Parameters.{read_as, parameter_of}
use Rattle.asks.specs.Words.{asked_by}
use Rattle.asks.specs.Asked.{asks_of}
use Rattle.command.specs.Lines.{right_checksum, heard_of}
use Rattle.protocol.specs.Sent.{replied_to}
use Rattle.protocol.specs.Status.{StatusWords, Gathers, FreshStatus}

-- STT? GATHERS
pub gathers : (m : ℕ) (s : Supply) → Gathers m s
unfolding answer_of answer_text status_text
gathers m s = refl

-- a count of 0 reads as 0
no_volts : (m : ℕ) → volt_reading m 0 ≡ 0
unfolding volt_reading
no_volts m = rw zero-mul refl

no_amps : (m : ℕ) → amp_reading m 0 ≡ 0
unfolding amp_reading
no_amps m = rw zero-mul refl

-- THE FIVE WORDS
pub status_words : StatusWords
unfolding heard_of asks_of right_checksum asked_by parameter_of read_as find_word first_at read_hex hex_of is_hex
status_words = record { stt = refl; stat = refl; sena = refl; seve = refl; enabling = refl }

-- STT?, SENA? AND SEVE? OF A FRESH SUPPLY
pub fresh_status : (m : ℕ) → FreshStatus m
unfolding replied_to said_of ending answer_of answer_text status_text stat_of on_of flt_of fresh figure decimals shortest fixed hex_pair
fresh_status m =
    record {
      stt = rw (status_words.stt, no_volts m, no_amps m) refl;
      sena = rw status_words.sena refl;
      seve = rw status_words.seve refl;
    }
