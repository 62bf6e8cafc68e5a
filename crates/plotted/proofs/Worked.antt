-- The worked cells, by computation.
use mathlib.Core.Path.{refl}
use lib.Ieee.{round, to_bits}
use Rattle.quotients.specs.Quotient.{rounded}
use Rattle.models.specs.Models.{table, limits_of, volt_reading, amp_reading}
use Rattle.figures.specs.Digits.{all_digits, run_value}
use Rattle.figures.specs.Number.{first_at, well_formed, whole_units, scaled_value, read_number}
use Rattle.prints.specs.Figure.{fixed, shortest, decimals, figure}
use Rattle.supply.specs.State.{fresh}
use Rattle.supply.specs.Flt.{flt_of, on_of, lines_clear, in_limit}
use Rattle.supply.specs.Stat.{stat_of}
use Rattle.supply.specs.Memory.{cv_forgotten}
use Rattle.supply.specs.Registers.{feve_gained, seve_gained, settled}
use Rattle.settings.specs.Settings.{setting_of, with_setting}
use Rattle.samples.specs.Samples.{sampled}
use Rattle.events.specs.Events.{turned_on}
use Rattle.codes.specs.Codes.{set_code, order_code}
use Rattle.orders.specs.Orders.{remote, remote_by, out_done, ordered}
use Rattle.acts.specs.Acts.{code_of, after_query, clearing_order, clearing_act, acted, performed}
use Rattle.answers.specs.Answers.{answer_of}
use Rattle.words.specs.Words.{find_word}
use Rattle.parameters.specs.Parameters.{read_as, parameter_of}
use Rattle.asks.specs.Words.{asked_by}
use Rattle.asks.specs.Asked.{asks_of}
use Rattle.command.specs.Lines.{heard_of}
use Rattle.texts.specs.Texts.{answer_text, ending}
use Rattle.reply.specs.Obeying.{said_of}
use Rattle.protocol.specs.Sent.{obeyed, replied_to}
use Rattle.field.specs.Fields.{act_of}
use Rattle.plain.specs.Plain.{step_of, reply_to}
use Rattle.resistance.specs.Cells.{resistance_of, metered_of, cell_of}
use Rattle.plotted.specs.Worked.{supply_after, cell_after, in_use, turned_off, then_on, Worked}

pub worked : Worked
unfolding supply_after cell_after in_use turned_off then_on round to_bits rounded resistance_of metered_of cell_of step_of reply_to act_of obeyed replied_to said_of answer_text ending heard_of asks_of asked_by parameter_of read_as find_word answer_of performed acted after_query clearing_order clearing_act code_of ordered out_done remote remote_by order_code set_code sampled turned_on with_setting setting_of settled cv_forgotten seve_gained feve_gained stat_of on_of lines_clear in_limit flt_of fresh figure decimals shortest fixed read_number scaled_value whole_units well_formed first_at run_value all_digits volt_reading amp_reading limits_of table
worked =
    record {
      ohms = refl;
      volts = refl;
      amps = refl;
      mv = refl;
      mc = refl;
      off = refl;
      off_volts = refl;
      off_amps = refl;
      at_38 = refl;
      at_38_volts = refl;
      at_38_amps = refl;
      at_39 = refl;
      at_39_ohms = refl;
      fresh = refl;
    }
