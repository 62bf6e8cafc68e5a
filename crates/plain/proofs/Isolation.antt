-- Demand 3 for the plain supply on real lines and fields: the laws that it has to satisfy, and the theorem for every
-- setup and list of calls.
use Prim.Native.Nat.{ℕ}
use mathlib.Core.Path.{◌≡◌}
use mathlib.Core.List.{List}
use mathlib.Core.Bool.{true, false, false≢true}
use Rattle.wire.specs.declared.Setup.{Setup}
use Rattle.wire.specs.Wire.{Entry, field, line, Call, model_at}
use Rattle.wire.specs.Laws.{Laws}
use Rattle.wire.specs.Demand3.{Demand3}
use Rattle.wire.proofs.Demand3.{demand3}
use Rattle.supply.specs.declared.Supply.{Supply}
use Rattle.supply.specs.declared.Act.TheVariants.{Obey}
use Rattle.settings.specs.Lawful.{Lawful}
use Rattle.guarantees.specs.Releases.{Trip, is_set}
use Rattle.guarantees.proofs.Keeps.{fresh_lawful, performed_lawful}
use Rattle.guarantees.proofs.Trips.{shut, held, frees}
use Rattle.asks.specs.Asks.{Asks}
use Rattle.asks.specs.Asks.{Select, BadSelect, Everyone, Nobody, One, Error}
use Rattle.command.specs.Lines.{heard_of}
use Rattle.protocol.specs.Sent.{obeyed}
use Rattle.field.specs.Fields.{act_of}
use Rattle.plain.specs.Plain.{step_of, releases_by, releases_of, plain_supply, trips}

module _ (m : ℕ) where
  obeyed_keeps : (s : Supply) (a : Asks) → Lawful m s → Lawful m (obeyed m s a)
  unfolding obeyed
  obeyed_keeps s (One a) h = performed_lawful m s a h
  obeyed_keeps s (Everyone o) h = performed_lawful m s (Obey o) h
  obeyed_keeps s (Select n) h = h
  obeyed_keeps s (BadSelect c) h = h
  obeyed_keeps s Nobody h = h
  obeyed_keeps s (Error c) h = h

  obeyed_held : (k : Trip) (s : Supply) (a : Asks) → is_set k s ≡ true → releases_by m k s a ≡ false → is_set k (obeyed m s a) ≡ true
  unfolding obeyed
  obeyed_held k s (One a) e r = held m k s a e r
  obeyed_held k s (Everyone o) e r = held m k s (Obey o) e r
  obeyed_held k s (Select n) e r = e
  obeyed_held k s (BadSelect c) e r = e
  obeyed_held k s Nobody e r = e
  obeyed_held k s (Error c) e r = e

  obeyed_frees : (k : Trip) (s : Supply) (a : Asks) → releases_by m k s a ≡ true → is_set k (obeyed m s a) ≡ false
  unfolding obeyed
  obeyed_frees k s (One a) r = frees m k s a r
  obeyed_frees k s (Everyone o) r = frees m k s (Obey o) r
  obeyed_frees k s (Select n) r = absurd (false≢true r)
  obeyed_frees k s (BadSelect c) r = absurd (false≢true r)
  obeyed_frees k s Nobody r = absurd (false≢true r)
  obeyed_frees k s (Error c) r = absurd (false≢true r)

  step_keeps : (s : Supply) (e : Entry) → Lawful m s → Lawful m (step_of m s e)
  unfolding step_of
  step_keeps s (field t p) h = performed_lawful m s (act_of t p) h
  step_keeps s (line kept spoiled) h = obeyed_keeps s (heard_of kept spoiled).asks h

  step_held : (k : Trip) (s : Supply) (e : Entry) → is_set k s ≡ true → releases_of m k s e ≡ false → is_set k (step_of m s e) ≡ true
  unfolding step_of releases_of
  step_held k s (field t p) e r = held m k s (act_of t p) e r
  step_held k s (line kept spoiled) e r = obeyed_held k s (heard_of kept spoiled).asks e r

  step_frees : (k : Trip) (s : Supply) (e : Entry) → releases_of m k s e ≡ true → is_set k (step_of m s e) ≡ false
  unfolding step_of releases_of
  step_frees k s (field t p) r = frees m k s (act_of t p) r
  step_frees k s (line kept spoiled) r = obeyed_frees k s (heard_of kept spoiled).asks r

  -- the laws that the plain supply of any model has to satisfy
  pub laws : Laws plain_supply trips Lawful m
  laws = record { starts = fresh_lawful m; keeps = step_keeps; shut = shut; held = step_held; frees = step_frees }

-- DEMAND 3 for the plain supply, real lines and real fields
pub isolated : (u : Setup) (calls : List Call) → Demand3 plain_supply trips Lawful u calls
isolated u calls = demand3 plain_supply trips Lawful u (λ a f. laws (model_at u a)) calls
