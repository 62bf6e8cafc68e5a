-- The ten bench figures, and those of rounding, by computation.
use mathlib.Core.Path.{refl}
use Rattle.models.specs.Models.{table, limits_of, volt_reading, amp_reading}
use Rattle.figures.specs.Digits.{all_digits, run_value}
use Rattle.figures.specs.Number.{first_at, well_formed, whole_units, scaled_value, read_number}
use Rattle.hexadecimal.specs.Hex.{is_hex, hex_of, read_hex, hex_pair, total, checksum}
use Rattle.prints.specs.Figure.{fixed, shortest, decimals, figure}
use Rattle.supply.specs.State.{fresh}
use Rattle.supply.specs.Flt.{flt_of, on_of, lines_clear, in_limit}
use Rattle.supply.specs.Stat.{stat_of}
use Rattle.supply.specs.Memory.{cv_forgotten}
use Rattle.supply.specs.Registers.{feve_gained, seve_gained, settled}
use Rattle.settings.specs.Settings.{setting_of, with_setting, least_of, most_of, signed_of, nearest_in, stepped}
use Rattle.samples.specs.Samples.{sampled}
use Rattle.events.specs.Events.{turned_on, turned}
use Rattle.codes.specs.Codes.{set_code, order_code}
use Rattle.orders.specs.Orders.{remote, remote_by, out_done, fld_done, ordered}
use Rattle.acts.specs.Acts.{code_of, after_query, clearing_order, clearing_act, acted, performed}
use Rattle.answers.specs.Answers.{running, answer_of}
use Rattle.words.specs.Words.{find_word}
use Rattle.parameters.specs.Parameters.{read_as, parameter_of}
use Rattle.asks.specs.Words.{asked_by}
use Rattle.asks.specs.Asked.{asks_of}
use Rattle.command.specs.Lines.{right_checksum, heard_of}
use Rattle.texts.specs.Texts.{code_text, word_text, answer_text, ending}
use Rattle.reply.specs.Obeying.{said_of}
use Rattle.protocol.specs.Sent.{obeyed, replied_to}
use Rattle.protocol.specs.Bench.{bench_figures, BenchFigures, rounded_figures, RoundedFigures, charging_cell, ChargingCell}

pub bench : BenchFigures
unfolding bench_figures obeyed replied_to said_of code_text answer_text ending heard_of asks_of right_checksum asked_by parameter_of read_as find_word answer_of performed acted after_query clearing_order clearing_act code_of ordered out_done remote remote_by order_code set_code sampled turned_on turned stepped nearest_in signed_of least_of most_of with_setting setting_of settled cv_forgotten seve_gained feve_gained stat_of on_of lines_clear in_limit flt_of fresh figure decimals shortest fixed checksum total hex_pair read_hex hex_of is_hex read_number scaled_value whole_units well_formed first_at run_value all_digits volt_reading amp_reading limits_of table
bench = refl

pub rounded_figures_lem : RoundedFigures
unfolding rounded_figures obeyed replied_to said_of code_text answer_text ending heard_of asks_of asked_by parameter_of read_as find_word answer_of performed acted after_query clearing_order clearing_act code_of ordered remote remote_by order_code set_code with_setting settled cv_forgotten seve_gained feve_gained fresh figure decimals shortest fixed read_number scaled_value whole_units well_formed first_at run_value all_digits limits_of table
rounded_figures_lem = refl

pub charging_cell_lem : ChargingCell
unfolding charging_cell obeyed replied_to said_of code_text word_text answer_text ending heard_of asks_of asked_by parameter_of read_as find_word running answer_of performed acted after_query clearing_order clearing_act code_of ordered out_done fld_done remote remote_by order_code set_code sampled turned_on turned stepped nearest_in signed_of least_of most_of with_setting setting_of settled cv_forgotten seve_gained feve_gained stat_of on_of lines_clear in_limit flt_of fresh hex_pair read_number scaled_value whole_units well_formed first_at run_value all_digits volt_reading amp_reading limits_of table
charging_cell_lem = refl
