-- The two senders, by computation.
use mathlib.Core.Path.{refl}
use Rattle.base.specs.Bits.{bit_at}
use Rattle.models.specs.Models.{table, limits_of, volt_reading, amp_reading}
use Rattle.figures.specs.Digits.{all_digits, run_value}
use Rattle.figures.specs.Number.{first_at, well_formed, whole_units, scaled_value, read_number}
use Rattle.hexadecimal.specs.Hex.{is_hex, hex_of, read_hex, hex_pair, total, checksum}
use Rattle.prints.specs.Figure.{fixed, shortest, decimals, figure}
use Rattle.supply.specs.State.{fresh}
use Rattle.supply.specs.Flt.{flt_of, on_of, lines_clear, in_limit}
use Rattle.supply.specs.Stat.{stat_of}
use Rattle.supply.specs.Memory.{cv_forgotten}
use Rattle.supply.specs.Registers.{feve_gained, seve_gained, settled}
use Rattle.settings.specs.Settings.{setting_of, with_setting, least_of, most_of, signed_of, nearest_in, stepped}
use Rattle.samples.specs.Samples.{sampled}
use Rattle.events.specs.Events.{any_rises, falls, lines_changed, turned_on, disarmed, pressed, turned}
use Rattle.codes.specs.Codes.{set_code, order_code}
use Rattle.orders.specs.Orders.{remote, remote_by, out_done, fld_done, reset, ordered}
use Rattle.acts.specs.Acts.{code_of, after_query, clearing_order, clearing_act, acted, performed}
use Rattle.answers.specs.Answers.{mode_word, answer_of}
use Rattle.words.specs.Words.{find_word}
use Rattle.parameters.specs.Parameters.{read_as, parameter_of}
use Rattle.asks.specs.Words.{asked_by}
use Rattle.asks.specs.Asked.{asks_of}
use Rattle.command.specs.Lines.{right_checksum, heard_of}
use Rattle.texts.specs.Texts.{code_text, word_text, status_text, answer_text, ending}
use Rattle.reply.specs.Obeying.{said_of}
use Rattle.protocol.specs.Sent.{obeyed, replied_to}
use Rattle.field.specs.Fields.{length_fits, header_code, values_fit, press_of, act_of, read_field}
use Rattle.wire.specs.Wire.{char_on, byte_on, parse}
use Rattle.wire.specs.Rack.{call_of}
use Rattle.plain.specs.Plain.{step_of, reply_to, class_of}
use Rattle.example.specs.Senders.{list_of_two, turned_off, TwoSend}

pub two_send : TwoSend
unfolding list_of_two turned_off call_of byte_on char_on parse read_field header_code length_fits values_fit class_of heard_of asks_of right_checksum asked_by parameter_of read_as find_word read_number scaled_value whole_units well_formed first_at run_value all_digits read_hex hex_of is_hex step_of reply_to obeyed replied_to said_of code_text word_text answer_text status_text ending answer_of mode_word press_of act_of performed acted after_query clearing_order clearing_act code_of ordered reset out_done fld_done remote remote_by order_code set_code sampled lines_changed any_rises falls bit_at pressed disarmed turned_on turned stepped nearest_in signed_of least_of most_of with_setting setting_of settled cv_forgotten feve_gained seve_gained stat_of on_of lines_clear in_limit flt_of fresh figure decimals shortest fixed checksum total hex_pair volt_reading amp_reading limits_of table
two_send = refl
