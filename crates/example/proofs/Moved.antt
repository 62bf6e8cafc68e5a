-- The list of specs/Moved.antt at its two addresses, by computation.
use Prim.Native.Nat.{ℕ}
use mathlib.Core.Path.{◌≡◌, refl, sym, ap, ◌∙◌}
use mathlib.Core.List.{List, [], ◌∷◌, map}
use mathlib.Core.Bool.{false}
use native.Mathlib.Omega.{arith}
use lib.ListN.{get_or}
use Rattle.base.specs.Text.{codes}
use Rattle.models.specs.Models.{table, limits_of, volt_reading, amp_reading}
use Rattle.figures.specs.Digits.{all_digits, run_value}
use Rattle.figures.specs.Number.{first_at, well_formed, whole_units, scaled_value, read_number}
use Rattle.hexadecimal.specs.Hex.{is_hex, hex_of, read_hex}
use Rattle.supply.specs.State.{fresh}
use Rattle.supply.specs.Flt.{flt_of, on_of, lines_clear, in_limit}
use Rattle.supply.specs.Stat.{stat_of}
use Rattle.supply.specs.Memory.{cv_forgotten}
use Rattle.supply.specs.Registers.{feve_gained, seve_gained, settled}
use Rattle.settings.specs.Settings.{setting_of, with_setting, least_of, most_of, signed_of, nearest_in, stepped}
use Rattle.samples.specs.Samples.{sampled}
use Rattle.events.specs.Events.{turned_on, disarmed, pressed, turned}
use Rattle.acts.specs.Acts.{code_of, after_query, clearing_order, clearing_act, acted, performed}
use Rattle.words.specs.Words.{find_word}
use Rattle.parameters.specs.Parameters.{read_as, parameter_of}
use Rattle.asks.specs.Words.{asked_by}
use Rattle.asks.specs.Asked.{asks_of}
use Rattle.command.specs.Lines.{right_checksum, heard_of}
use Rattle.protocol.specs.Sent.{obeyed}
use Rattle.field.specs.Fields.{length_fits, header_code, values_fit, press_of, turn_of, act_of, read_field}
use Rattle.wire.specs.Wire.{Entry, field, line, parse}
use Rattle.wire.specs.Share as share
use Rattle.wire.specs.Share.{brought, share_of}
use Rattle.wire.specs.Rack.{plain}
use Rattle.plain.specs.Plain.{plain_supply, grammar, step_of, class_of}
use Rattle.plain.specs.Unaddressed.{unaddressed}
use Rattle.isolation.specs.Demand3.{setup_of}
use Rattle.fitting.specs.Fitting.{all_allowed}
use Rattle.isolation.proofs.Isolation.{isolated_code}
use Rattle.isolation.proofs.Existence.{some_run}
use Rattle.example.specs.Worked.{fitting_list}
use Rattle.example.specs.Moved.{here, list_there, there, charging_again, MovedRun}

-- the share, at any address
share_at : ℕ → List Entry
share_at a =
    field 3 (a ∷ 0 ∷ 0 ∷ 0 ∷ 195 ∷ 80 ∷ []) ∷ field 3 (a ∷ 1 ∷ 0 ∷ 0 ∷ 39 ∷ 16 ∷ []) ∷ field 2 (a ∷ 1 ∷ []) ∷
    field 2 (a ∷ 0 ∷ []) ∷ field 5 (a ∷ 78 ∷ 32 ∷ 19 ∷ 136 ∷ []) ∷ field 5 (a ∷ 156 ∷ 64 ∷ 19 ∷ 135 ∷ []) ∷
    field 5 (a ∷ 156 ∷ 64 ∷ 19 ∷ 136 ∷ []) ∷ field 2 (a ∷ 0 ∷ []) ∷ field 5 (a ∷ 78 ∷ 32 ∷ 19 ∷ 136 ∷ []) ∷
    line (codes "FLT?") false ∷ []

share_here : share_of grammar (setup_of fitting_list) here 6 ≡ share_at 6
unfolding share_at fitting_list here brought share.typed parse read_field header_code length_fits values_fit class_of heard_of asks_of right_checksum asked_by parameter_of read_as find_word read_number scaled_value whole_units well_formed first_at run_value all_digits read_hex hex_of is_hex
share_here = refl

share_there : share_of grammar (setup_of list_there) there 9 ≡ share_at 9
unfolding share_at list_there there brought share.typed parse read_field header_code length_fits values_fit class_of heard_of asks_of right_checksum asked_by parameter_of read_as find_word read_number scaled_value whole_units well_formed first_at run_value all_digits read_hex hex_of is_hex
share_there = refl

addresses_only : map unaddressed (share_at 6) ≡ map unaddressed (share_at 9)
unfolding share_at
addresses_only = refl

end_here : plain plain_supply 0 (share_at 6) ≡ charging_again
unfolding share_at charging_again step_of act_of press_of turn_of heard_of asks_of right_checksum asked_by parameter_of read_as find_word obeyed performed acted after_query clearing_order clearing_act code_of sampled turned_on disarmed pressed turned stepped nearest_in signed_of least_of most_of with_setting setting_of settled cv_forgotten feve_gained seve_gained stat_of on_of lines_clear in_limit flt_of fresh volt_reading amp_reading limits_of table first_at
end_here = refl

-- the address in the first entry of a share
abbrev first_address : List Entry → ℕ
first_address [] = 0
first_address (line kept spoiled ∷ es) = 0
first_address (field t p ∷ es) = get_or p 0 0

addresses_differ : share_at 6 ≡ share_at 9 → ⊥
unfolding share_at
addresses_differ e = omega (arith, ap first_address e)

pub moved : MovedRun
unfolding fitting_list list_there all_allowed
moved =
    record {
      shares_differ = λ e. addresses_differ (sym share_here ∙ e ∙ share_there);
      runs_here = some_run fitting_list here refl;
      runs_there = some_run list_there there refl;
      repeated = λ r r₂ g g₂.
          (isolated_code (setup_of fitting_list) here 6 refl).alike_unaddressed r g (setup_of list_there) there r₂ 9 g₂ refl
          (ap (map unaddressed) share_here ∙ addresses_only ∙ sym (ap (map unaddressed) share_there));
      ends_as = λ r g.
          (isolated_code (setup_of fitting_list) here 6 refl).ends r g ∙ ap (plain plain_supply 0) share_here ∙ end_here;
    }
