-- What a list of calls does to a rack: the whole stream moves it once.
use mathlib.Core.Path.{◌≡◌, refl, sym, ap, ◌∙◌}
use mathlib.Core.Bool.{true, not, false≢true}
use mathlib.Core.List.{List, [], ◌∷◌, foldl, foldl-append}
use Prim.Native.Nat.{ℕ, zero, suc, ◌<◌}
use native.Mathlib.Omega.{arith}
use lib.Dec.{eqb}
use lib.ListN.{length, get_or}
use Rattle.base.proofs.Lists.{length_tabulate}
use Rattle.wire.specs.Wire.{Delivery, fitted, Sent, followed, Call, Item, Parsed, refuse, accept, parse, scan}
use Rattle.wire.specs.Share.{items, stream}
use Rattle.wire.specs.Rack.{Plain, Rack, next, state_at, deliver, moved, result_of, call_of, after, run_from}
use Rattle.wire.specs.declared.Setup.{Setup}
use Rattle.wire.proofs.Stream.{scan_append}

-- a fitted address is that of a slot
pub fitted_below : (u : Setup) (a : ℕ) → fitted u a ≡ true → a < length u.models
fitted_below u a f = go u.models a f
  where
    go : (ms : List ℕ) (a : ℕ) → not (eqb (get_or ms a 255) 255) ≡ true → a < length ms
    go [] a f = absurd (false≢true f)
    go (m ∷ ms) zero f = omega arith
    go (m ∷ ms) (suc a) f = omega (arith, go ms a f)

module _ (M : Plain) where
  open M use {State, step, reply, fresh, grammar}

  -- a refused call leaves the rack as it was, an accepted one moves it by its items
  after_moved : (r : Rack State) (p : Parsed) → after M r (result_of M r p) ≡ moved M r (scan grammar r.setup r.wire (items p))
  after_moved r (refuse n) = refl
  after_moved r (accept used is) = refl

  -- what is handed out in two parts moves the rack twice
  pub moved_twice : (r : Rack State) (s t : Sent) → moved M r (followed s t) ≡ moved M (moved M r s) t
  moved_twice r s t = rw (foldl-append (deliver M r.setup) r.slots s.sent t.sent)

  -- a list of calls is one move by the whole stream
  pub run_moved : (r : Rack State) (calls : List Call) → run_from M r calls ≡ moved M r (scan grammar r.setup r.wire (stream grammar r.setup calls))
  unfolding call_of
  run_moved r [] = refl
  run_moved r (c ∷ cs) =
      let is : List Item = items (parse grammar r.setup c) in
      let s : Sent = scan grammar r.setup r.wire is in
      ap (λ (q : Rack State). run_from M q cs) (after_moved r (parse grammar r.setup c))
      ∙ run_moved (moved M r s) cs
      ∙ sym (moved_twice r s (scan grammar r.setup s.wire (stream grammar r.setup cs)))
      ∙ ap (moved M r) (sym (scan_append grammar r.setup r.wire is (stream grammar r.setup cs)))

  -- the setup stays the same for the rack's whole life
  pub run_setup : (r : Rack State) (calls : List Call) → (run_from M r calls).setup ≡ r.setup
  run_setup r calls = ap (λ (q : Rack State). q.setup) (run_moved r calls)

  pub deliver_size : (u : Setup) (ss : List State) (ds : List Delivery) → length (foldl (deliver M u) ss ds) ≡ length ss
  deliver_size u ss [] = refl
  deliver_size u ss (d ∷ ds) = deliver_size u (deliver M u ss d) ds ∙ length_tabulate (length ss) (next M u (state_at M ss) d)
