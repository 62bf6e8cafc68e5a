-- What lines and fields ask is checked, and so the plain supply is coherent on every share.
use Prim.Native.Nat.{ℕ, ◌+◌}
use mathlib.Core.Path.{◌≡◌, refl}
use mathlib.Core.List.{List, [], ◌∷◌, map}
use mathlib.Core.Bool.{Bool, true, false, not}
use lib.Bits.{bit_and}
use lib.Dec.{eqb}
use lib.ListN.{get_or}
use borrow.Author.Tests.{eqb-true}
use Rattle.base.specs.Choice.{pick}
use Rattle.base.proofs.Choice.{pick_keeps}
use Rattle.wire.specs.Machine.{Every}
use Rattle.wire.specs.Wire.{Entry, field, line, byte, event, Parsed, refuse, accept, Call}
use Rattle.wire.specs.declared.Setup.{Setup}
use Rattle.wire.specs.Share.{items, share_of}
use Rattle.wire.specs.Rack.{plain}
use Rattle.wire.specs.Entries.{in_item, SharesHold}
use Rattle.wire.proofs.Machine.{holds_along}
use Rattle.wire.proofs.Entries.{shares_hold}
use Rattle.supply.specs.declared.Supply.{Supply}
use Rattle.supply.specs.declared.Act.TheVariants.{Lines, Sample, Obey, Nothing}
use Rattle.supply.specs.State.{fresh}
use Rattle.guarantees.specs.Coherent.{Listed, Coherent, CheckedOrder, Checked}
use Rattle.guarantees.proofs.Coherent.{fresh_coherent, performed_coherent}
use Rattle.parameters.specs.Parameters.{parameter_of}
use Rattle.parameters.proofs.Bounds.{switch_most}
use Rattle.asks.specs.Asks.{Asks}
use Rattle.asks.specs.Asks.{Select, BadSelect, Everyone, Nobody, One, Error}
use Rattle.asks.specs.Words.{OrderWord, set, ovm, out, fld, ast, rmt, fena, sena, cls, rst, Command, to_one, of_one, to_all, selecting, unknown_word, kind_of, kind_of_order, order_with, asks_with, fails_with, asked_by}
use Rattle.command.specs.Lines.{heard_of}
use Rattle.protocol.specs.Sent.{obeyed}
use Rattle.field.specs.Fields.{pair_at, tag_of, length_of, payload_of, header_code, values_fit, act_of, read_field, press_of, turn_of}
use Rattle.plain.specs.Plain.{step_of, grammar, plain_supply}
use Rattle.plain.specs.Reached.{CheckedAsks, Passed, SharesCoherent}
use Rattle.plain.proofs.Heard.{heard_has}

-- RMT takes 0, 1 or 2; the other orders need no check
order_checked : (o : OrderWord) (x : List ℕ) → CheckedOrder (order_with o (parameter_of (kind_of_order o) x).value)
order_checked rmt x = switch_most 2 x
order_checked (set t) x = tt
order_checked ovm x = tt
order_checked out x = tt
order_checked fld x = tt
order_checked ast x = tt
order_checked fena x = tt
order_checked sena x = tt
order_checked cls x = tt
order_checked rst x = tt

word_checked : (k : Command) (x : List ℕ) → CheckedAsks (asked_by k x)
unfolding asked_by
word_checked k x =
    pick_keeps CheckedAsks (eqb (parameter_of (kind_of k) x).code 0)
    (asks_with k (parameter_of (kind_of k) x).value) (fails_with k (parameter_of (kind_of k) x).code)
    (asks k) (fails k (parameter_of (kind_of k) x).code)
  where
    asks : (k : Command) → CheckedAsks (asks_with k (parameter_of (kind_of k) x).value)
    asks (to_one o) = order_checked o x
    asks (of_one q) = tt
    asks (to_all o) = order_checked o x
    asks selecting = tt
    asks unknown_word = tt

    fails : (k : Command) (c : ℕ) → CheckedAsks (fails_with k c)
    fails (to_one o) c = tt
    fails (of_one q) c = tt
    fails (to_all o) c = tt
    fails selecting c = tt
    fails unknown_word c = tt

lines_checked : (kept : List ℕ) (spoiled : Bool) → CheckedAsks (heard_of kept spoiled).asks
lines_checked = heard_has CheckedAsks tt (λ c. tt) word_checked

lines_value : (t : ℕ) (p : List ℕ) → eqb t 4 ≡ true → values_fit t p ≡ true → Listed (get_or p 1 0)
unfolding values_fit
lines_value t p f e = eqb-true (bit_and (get_or p 1 0) 0x59) 0 (rw (eqb-true t 4 f) at e)

-- keys and knob steps need no check
press_checked : (n : ℕ) → Checked (press_of n)
unfolding press_of
press_checked n = pick_keeps Checked (eqb n 0) _ _ tt (pick_keeps Checked (eqb n 1) _ _ tt (pick_keeps Checked (eqb n 2) _ _ tt tt))

turn_checked : (n step : ℕ) → Checked (turn_of n step)
unfolding turn_of
turn_checked n step =
    pick_keeps Checked (eqb n 0) _ _ tt (pick_keeps Checked (eqb n 1) _ _ tt (pick_keeps Checked (eqb n 2) _ _ tt (pick_keeps Checked (eqb n 3) _ _ tt tt)))

fields_checked : (t : ℕ) (p : List ℕ) → values_fit t p ≡ true → Checked (act_of t p)
unfolding act_of
fields_checked t p e =
    pick_keeps Checked (eqb t 2) _ _ (press_checked _)
    (pick_keeps Checked (eqb t 3) _ _ (turn_checked _ _) (by_lines (eqb t 4) refl))
  where
    by_lines : (four : Bool) → eqb t 4 ≡ four
        → Checked (pick four (Lines (get_or p 1 0)) (pick (eqb t 5) (Sample (pair_at p 1) (pair_at p 3)) Nothing))
    by_lines true f = lines_value t p f e
    by_lines false f = pick_keeps Checked (eqb t 5) _ _ tt tt

-- a call brings serial bytes, or a field that passed refusal 7
bytes_passed : (bs : List ℕ) → Every (in_item Passed) (map byte bs)
bytes_passed [] = tt
bytes_passed (b ∷ bs) = (tt, bytes_passed bs)

read_passed : (fits : ℕ → Bool) (b : List ℕ) → Every (in_item Passed) (items (read_field fits b))
unfolding read_field
read_passed fits b =
    pick_keeps P (not (eqb (header_code b) 0)) (refuse (header_code b)) _ tt
    (pick_keeps P (eqb (tag_of b) 1) (accept (3 + length_of b) (map byte (payload_of b))) _ (bytes_passed (payload_of b))
    (pick_keeps P (not (fits (get_or (payload_of b) 0 0))) (refuse 6) _ tt
    (by_values (values_fit (tag_of b) (payload_of b)) refl)))
  where
    P : Parsed → Type 0
    P p = Every (in_item Passed) (items p)

    by_values : (t : Bool) → values_fit (tag_of b) (payload_of b) ≡ t
        → P (pick (not t) (refuse 7)
        (accept (3 + length_of b) (event (get_or (payload_of b) 0 0) (field (tag_of b) (payload_of b)) ∷ [])))
    by_values true e = (e, tt)
    by_values false e = tt

entries_passed : SharesHold grammar Passed
entries_passed = shares_hold grammar Passed (record { lines = λ kept spoiled. tt; fields = read_passed })

module _ (m : ℕ) where
  obeyed_coherent : (s : Supply) (a : Asks) → CheckedAsks a → Coherent s → Coherent (obeyed m s a)
  unfolding obeyed
  obeyed_coherent s (One a) c h = performed_coherent m s a c h
  obeyed_coherent s (Everyone o) c h = performed_coherent m s (Obey o) c h
  obeyed_coherent s (Select n) c h = h
  obeyed_coherent s (BadSelect n) c h = h
  obeyed_coherent s Nobody c h = h
  obeyed_coherent s (Error n) c h = h

  step_coherent : (s : Supply) (e : Entry) → Passed e → Coherent s → Coherent (step_of m s e)
  unfolding step_of
  step_coherent s (field t p) v h = performed_coherent m s (act_of t p) (fields_checked t p v) h
  step_coherent s (line kept spoiled) v h =
      obeyed_coherent s (heard_of kept spoiled).asks (lines_checked kept spoiled) h

  coherent : (u : Setup) (calls : List Call) (a : ℕ) → Coherent (plain plain_supply m (share_of grammar u calls a))
  coherent u calls a =
      holds_along (step_of m) Passed Coherent step_coherent (fresh m) (share_of grammar u calls a)
      (entries_passed u calls a) (fresh_coherent m)

-- EVERY SHARE
pub shares_coherent : SharesCoherent
shares_coherent =
    record {
      lines_checked = lines_checked;
      fields_checked = fields_checked;
      entries_passed = entries_passed;
      coherent = coherent;
    }
