-- The worked list of calls, by computation; and what demand 3 says about it.
use mathlib.Core.Path.{◌≡◌, refl, sym, ap, ◌∙◌}
use mathlib.Core.List.{[], ◌∷◌, ◌++◌}
use mathlib.Core.Bool.{true}
use Rattle.base.specs.Bits.{bit_at}
use Rattle.models.specs.Models.{table, limits_of, volt_reading, amp_reading}
use Rattle.figures.specs.Digits.{all_digits, run_value}
use Rattle.figures.specs.Number.{first_at, well_formed, whole_units, scaled_value, read_number}
use Rattle.hexadecimal.specs.Hex.{is_hex, hex_of, read_hex, hex_pair, total, checksum}
use Rattle.prints.specs.Figure.{fixed, shortest, decimals, figure}
use Rattle.supply.specs.State.{fresh}
use Rattle.supply.specs.Flt.{flt_of, on_of, lines_clear, in_limit}
use Rattle.supply.specs.Stat.{stat_of}
use Rattle.supply.specs.Memory.{cv_forgotten}
use Rattle.supply.specs.Registers.{feve_gained, seve_gained, settled}
use Rattle.settings.specs.Settings.{setting_of, with_setting, least_of, most_of, signed_of, nearest_in, stepped}
use Rattle.samples.specs.Samples.{sampled}
use Rattle.events.specs.Events.{any_rises, falls, lines_changed, turned_on, disarmed, pressed, turned}
use Rattle.codes.specs.Codes.{set_code, order_code}
use Rattle.orders.specs.Orders.{remote, remote_by, out_done, fld_done, reset, ordered}
use Rattle.acts.specs.Acts.{code_of, after_query, clearing_order, clearing_act, acted, performed}
use Rattle.answers.specs.Answers.{mode_word, answer_of}
use Rattle.guarantees.specs.Releases.{ovp, releases}
use Rattle.words.specs.Words.{find_word}
use Rattle.parameters.specs.Parameters.{read_as, parameter_of}
use Rattle.asks.specs.Words.{asked_by}
use Rattle.asks.specs.Asked.{asks_of}
use Rattle.command.specs.Lines.{right_checksum, heard_of}
use Rattle.texts.specs.Texts.{code_text, word_text, answer_text, ending}
use Rattle.reply.specs.Obeying.{said_of}
use Rattle.protocol.specs.Sent.{obeyed, replied_to}
use Rattle.field.specs.Fields.{length_fits, header_code, values_fit, press_of, act_of, read_field}
use Rattle.wire.specs.Wire.{field, char_on, byte_on, parse}
use Rattle.wire.specs.Demand3.{TrippedBy}
use Rattle.wire.specs.Share as share
use Rattle.wire.specs.Share.{brought, share_of}
use Rattle.wire.specs.Rack.{call_of, fresh_rack, plain}
use Rattle.plain.specs.Plain.{plain_supply, grammar, trips, step_of, reply_to, class_of, releases_of}
use Rattle.isolation.specs.Demand3.{setup_of, supply_at}
use Rattle.fitting.specs.Fitting.{all_allowed}
use Rattle.isolation.proofs.Isolation.{isolated_code}
use Rattle.isolation.proofs.Existence.{some_run}
use Rattle.example.specs.Worked.{fitting_list, tripping, tripped, released, calls, list_alone, alone, answers, worked_answers, line_entry, share_tripping, share_tripped, share_released, share_neighbour, end_state, WorkedOut}

-- the unfoldings: lists and fields; lines; the supply and its replies
share_6 : share_of grammar (setup_of fitting_list) calls 6 ≡ share_tripping ++ share_tripped ++ share_released
unfolding fitting_list calls tripping tripped released share_tripping share_tripped share_released brought share.typed parse read_field header_code length_fits values_fit class_of heard_of asks_of right_checksum asked_by parameter_of read_as find_word read_number scaled_value whole_units well_formed first_at run_value all_digits read_hex hex_of is_hex checksum total
share_6 = refl

-- up to the release
share_6_tripped : share_of grammar (setup_of fitting_list) (tripping ++ tripped) 6 ≡ share_tripping ++ share_tripped
unfolding fitting_list calls tripping tripped released share_tripping share_tripped share_released brought share.typed parse read_field header_code length_fits values_fit class_of heard_of asks_of right_checksum asked_by parameter_of read_as find_word read_number scaled_value whole_units well_formed first_at run_value all_digits read_hex hex_of is_hex checksum total
share_6_tripped = refl

share_alone : share_of grammar (setup_of list_alone) alone 6 ≡ share_tripping ++ share_tripped ++ share_released
unfolding list_alone alone share_tripping share_tripped share_released brought share.typed parse read_field header_code length_fits values_fit class_of heard_of asks_of right_checksum asked_by parameter_of read_as find_word read_number scaled_value whole_units well_formed first_at run_value all_digits read_hex hex_of is_hex checksum total
share_alone = refl

replies : answers (fresh_rack plain_supply (setup_of fitting_list)) calls ≡ worked_answers
unfolding fitting_list calls tripping tripped released worked_answers call_of byte_on char_on parse read_field header_code length_fits values_fit class_of heard_of asks_of right_checksum asked_by parameter_of read_as find_word read_number scaled_value whole_units well_formed first_at run_value all_digits read_hex hex_of is_hex step_of reply_to obeyed replied_to said_of code_text word_text answer_text ending answer_of mode_word press_of act_of performed acted after_query clearing_order clearing_act code_of ordered reset out_done fld_done remote remote_by order_code set_code sampled lines_changed any_rises falls bit_at pressed disarmed turned_on turned stepped nearest_in signed_of least_of most_of with_setting setting_of settled cv_forgotten feve_gained seve_gained stat_of on_of lines_clear in_limit flt_of fresh figure decimals shortest fixed checksum total hex_pair volt_reading amp_reading limits_of table
replies = refl

end_6 : plain plain_supply 0 (share_tripping ++ share_tripped ++ share_released) ≡ end_state
unfolding share_tripping share_tripped share_released end_state class_of heard_of asks_of right_checksum asked_by parameter_of read_as find_word read_number scaled_value whole_units well_formed first_at run_value all_digits read_hex hex_of is_hex step_of reply_to obeyed replied_to said_of code_text word_text answer_text ending answer_of mode_word press_of act_of performed acted after_query clearing_order clearing_act code_of ordered reset out_done fld_done remote remote_by order_code set_code sampled lines_changed any_rises falls bit_at pressed disarmed turned_on turned stepped nearest_in signed_of least_of most_of with_setting setting_of settled cv_forgotten feve_gained seve_gained stat_of on_of lines_clear in_limit flt_of fresh figure decimals shortest fixed checksum total hex_pair volt_reading amp_reading limits_of table
end_6 = refl

on_6 : on_of end_state ≡ true
unfolding end_state on_of flt_of
on_6 = refl

tripped_6 : TrippedBy plain_supply trips 0 ovp (share_tripping ++ share_tripped)
unfolding share_tripping share_tripped releases_of releases class_of heard_of asks_of right_checksum asked_by parameter_of read_as find_word read_number scaled_value whole_units well_formed first_at run_value all_digits read_hex hex_of is_hex step_of reply_to obeyed replied_to said_of code_text word_text answer_text ending answer_of mode_word press_of act_of performed acted after_query clearing_order clearing_act code_of ordered reset out_done fld_done remote remote_by order_code set_code sampled lines_changed any_rises falls bit_at pressed disarmed turned_on turned stepped nearest_in signed_of least_of most_of with_setting setting_of settled cv_forgotten feve_gained seve_gained stat_of on_of lines_clear in_limit flt_of fresh figure decimals shortest fixed checksum total hex_pair volt_reading amp_reading limits_of table
tripped_6 =
    record {
      before =
          line_entry "FENA 5A" ∷ line_entry "SENA F3" ∷ line_entry "PV 4" ∷ line_entry "RST" ∷ line_entry "PV?" ∷
          line_entry "PV 5" ∷ line_entry "OVP 5.5" ∷ line_entry "OUT 1" ∷ line_entry "FENA?" ∷ field 5 (6 ∷ 179 ∷ 9 ∷ 0 ∷ 0 ∷ []) ∷ [];
      entry = field 5 (6 ∷ 179 ∷ 10 ∷ 0 ∷ 0 ∷ []);
      mid = share_tripped;
      splits = refl;
      trips = refl;
      unreleased = refl;
    }

share_9 : share_of grammar (setup_of fitting_list) (tripping ++ tripped) 9 ≡ share_neighbour
unfolding fitting_list calls tripping tripped released share_neighbour brought share.typed parse read_field header_code length_fits values_fit class_of heard_of asks_of right_checksum asked_by parameter_of read_as find_word read_number scaled_value whole_units well_formed first_at run_value all_digits read_hex hex_of is_hex checksum total
share_9 = refl

end_9 : (on_of (plain plain_supply 3 share_neighbour) ≡ true) × ((plain plain_supply 3 share_neighbour).pv ≡ 53000)
unfolding share_neighbour class_of heard_of asks_of right_checksum asked_by parameter_of read_as find_word read_number scaled_value whole_units well_formed first_at run_value all_digits read_hex hex_of is_hex step_of reply_to obeyed replied_to said_of code_text word_text answer_text ending answer_of mode_word press_of act_of performed acted after_query clearing_order clearing_act code_of ordered reset out_done fld_done remote remote_by order_code set_code sampled lines_changed any_rises falls bit_at pressed disarmed turned_on turned stepped nearest_in signed_of least_of most_of with_setting setting_of settled cv_forgotten feve_gained seve_gained stat_of on_of lines_clear in_limit flt_of fresh figure decimals shortest fixed checksum total hex_pair volt_reading amp_reading limits_of table
end_9 = (refl, refl)

pub worked_out : WorkedOut
unfolding fitting_list list_alone calls all_allowed
worked_out =
    record {
      answers_are = replies;
      share_is = share_6;
      share_beside = share_9;
      there_is_one = some_run fitting_list calls refl;
      ends_as = λ r g. (isolated_code (setup_of fitting_list) calls 6 refl).ends r g ∙ ap (plain plain_supply 0) share_6 ∙ end_6;
      ends_on = on_6;
      stays_off = λ r g. (isolated_code (setup_of fitting_list) calls 6 refl).calls_off ovp (tripping ++ tripped) released r refl g (rw share_6_tripped tripped_6);
      neighbour_runs = λ r g.
          let e : supply_at r 9 ≡ plain plain_supply 3 share_neighbour = (isolated_code (setup_of fitting_list) (tripping ++ tripped) 9 refl).ends r g ∙ ap (plain plain_supply 3) share_9 in
          rw e end_9;
      repeated = λ r r₂ g g₂. (isolated_code (setup_of fitting_list) calls 6 refl).alike r g (setup_of list_alone) alone r₂ 6 g₂ refl (share_6 ∙ sym share_alone);
    }
