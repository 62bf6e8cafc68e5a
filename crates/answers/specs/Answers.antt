-- The answers to queries, by meaning.
use Rattle.std.specs.Prelude.{ℕ, ◌≡◌, Bool, true, false, eqb}
use Rattle.base.specs.Choice.{pick}
use Rattle.base.specs.Bits.{bit_at}
use Rattle.models.specs.Models.{volt_reading, amp_reading}
use Rattle.supply.specs.declared.Supply.{Supply}
use Rattle.supply.specs.declared.Query.{Query}
use Rattle.supply.specs.declared.Query.TheVariants.{Pv, Pc, Ovp, Uvl, Mv, Mc, Out, Fld, Ast, Rmt, Mode, Flt, Fena, Feve}
use Rattle.supply.specs.declared.Query.TheVariants.{Stt, Stat, Sena, Seve}
use Rattle.supply.specs.declared.Word.{Word}
use Rattle.supply.specs.declared.Word.TheVariants.{On, Off, Loc, Rem, Llo, Cc, Cv}
use Rattle.supply.specs.declared.Status.{Status}
use Rattle.supply.specs.declared.QueryAnswer.{QueryAnswer}
use Rattle.supply.specs.declared.QueryAnswer.TheVariants.{Figure, Says, Hex, Tells}
use Rattle.supply.specs.Flt.{flt_of, on_of, in_limit}
use Rattle.supply.specs.Stat.{stat_of}

-- a switch is ON or OFF
abbrev pub switch_of : Bool → Word
switch_of true = On
switch_of false = Off

-- MODE 0 is LOC, 1 REM, 2 LLO
unfoldable pub mode_word : ℕ → Word
mode_word k = pick (eqb k 0) Loc (pick (eqb k 1) Rem Llo)

-- OFF if the output is off; otherwise CC if the current is in limit, and CV if it is not
unfoldable pub running : ℕ → Supply → Word
running m s = pick (on_of s) (pick (in_limit m s) Cc Cv) Off

-- what STT? tells: MV?, PV?, MC?, PC?, STAT? and FLT? at once
abbrev pub status_of : ℕ → Supply → Status
status_of m s =
    record {
      volts = volt_reading m s.volt_count;
      pv = s.pv;
      amps = amp_reading m s.amp_count;
      pc = s.pc;
      stat = stat_of m s;
      flt = flt_of s;
    }

-- a figure has four decimals for volts and three for amperes; OUT? reports the output, not WANT
unfoldable pub answer_of : ℕ → Supply → Query → QueryAnswer
answer_of m s Pv = Figure 4 s.pv
answer_of m s Pc = Figure 3 s.pc
answer_of m s Ovp = Figure 4 s.ovp
answer_of m s Uvl = Figure 4 s.uvl
answer_of m s Mv = Figure 4 (volt_reading m s.volt_count)
answer_of m s Mc = Figure 3 (amp_reading m s.amp_count)
answer_of m s Out = Says (switch_of (on_of s))
answer_of m s Fld = Says (switch_of s.armed)
answer_of m s Ast = Says (switch_of s.ast)
answer_of m s Rmt = Says (mode_word s.mode)
answer_of m s Mode = Says (running m s)
answer_of m s Flt = Hex (flt_of s)
answer_of m s Fena = Hex s.fena
answer_of m s Feve = Hex s.feve
answer_of m s Stt = Tells (status_of m s)
answer_of m s Stat = Hex (stat_of m s)
answer_of m s Sena = Hex s.sena
answer_of m s Seve = Hex s.seve

abbrev pub is_cv : Word → Bool
is_cv On = false
is_cv Off = false
is_cv Loc = false
is_cv Rem = false
is_cv Llo = false
is_cv Cc = false
is_cv Cv = true

abbrev pub is_cc : Word → Bool
is_cc On = false
is_cc Off = false
is_cc Loc = false
is_cc Rem = false
is_cc Llo = false
is_cc Cc = true
is_cc Cv = false

-- STAT AND MODE? AGREE: bit 0 is set exactly if MODE? answers CV, and bit 1 exactly if it answers CC
pub record StatAsMode (m : ℕ) (s : Supply) : Type 0 where
  pub cv : bit_at 0 (stat_of m s) ≡ is_cv (running m s)
  pub cc : bit_at 1 (stat_of m s) ≡ is_cc (running m s)
