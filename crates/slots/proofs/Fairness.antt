-- Room for replies: what the end of a line draws, and what a character draws.
use Prim.Native.Nat.{ℕ, ◌+◌, ◌*◌, ◌^◌, ◌≤◌, ◌<◌, min}
use mathlib.Core.Path.{◌≡◌, refl, sym}
use mathlib.Core.List.{List, [], append-nil}
use mathlib.Core.Bool.{Bool, true, false}
use native.Mathlib.Omega.{arith}
use lib.ListN.{length, get_or}
use Rattle.base.specs.Choice.{bit}
use Rattle.wire.specs.Wire.{Class, Wire, line, one, say, model_at, fitted, select, faulty, global, other, by_class}
use Rattle.wire.specs.Machine.{given}
use Rattle.wire.specs.Rack.{replies}
use Rattle.supply.specs.declared.Supply.{Supply}
use Rattle.supply.specs.declared.Target.{Target}
use Rattle.supply.specs.declared.Target.TheVariants.{Pv, Pc, Ovp, Uvl}
use Rattle.supply.specs.State.{fresh}
use Rattle.settings.specs.Settings.{setting_of}
use Rattle.command.specs.Lines.{heard_of}
use Rattle.protocol.specs.Sent.{replied_to}
use Rattle.protocol.specs.SentBack.{Sized, rate, longest}
use Rattle.protocol.proofs.Room.{room}
use Rattle.serial.specs.View.{wire_of}
use Rattle.plain.specs.Plain.{plain_supply, reply_to, class_of}
use Rattle.plain.proofs.Classes.{classes}
use Rattle.slots.specs.declared.Rack.{Rack}
use Rattle.slots.specs.View.{due, Fair, ended_by}

-- a supply within its widths
pub sized : (s : Supply) → s.pv < 2 ^ 32 → s.pc < 2 ^ 32 → s.ovp < 2 ^ 32 → s.uvl < 2 ^ 32 → s.volt_count < 2 ^ 16 → s.amp_count < 2 ^ 16 → Sized s
unfolding setting_of
sized s p c o l v a = record { setting = each; volt_count = v; amp_count = a }
  where
    each : (t : Target) → setting_of t s < 2 ^ 32
    each Pv = p
    each Pc = c
    each Ovp = o
    each Uvl = l

-- a line of either kind, as one bound
line_room : (m : ℕ) (s : Supply) → Sized s → (kept : List ℕ) (spoiled : Bool) → length (replied_to m s (heard_of kept spoiled).asks (heard_of kept spoiled).checksummed) ≤ min longest (rate * length kept + bit spoiled) + rate
line_room m s z kept true = omega (arith, (room m s z kept).spoiled)
line_room m s z kept false = omega (arith, (room m s z kept).fair, (room m s z kept).short)

module _ (r : Rack) (s : Supply) (z : Sized s) (here : fitted r.setup r.line.selected ≡ true → s ≡ get_or r.slots r.line.selected (fresh 255)) where
  abbrev w : Wire
  w = wire_of r.line

  -- by the class of the line
  by_class_lem : (c : Class) → c ≡ class_of w.kept w.spoiled
      → length (replies plain_supply r.setup r.slots (by_class r.setup w c).sent) ≤ due w + rate
  unfolding reply_to
  by_class_lem (select a t) e = by_fit (fitted r.setup a)
    where
      by_fit : (f : Bool) → length (replies plain_supply r.setup r.slots (given f (say t))) ≤ due w + rate
      by_fit true = rw append-nil (rw ((classes w.kept w.spoiled).select_reply a t (sym e) 0 s) (line_room 0 s z w.kept w.spoiled))
      by_fit false = omega arith
  by_class_lem (faulty t) e = by_fit (fitted r.setup w.sel)
    where
      by_fit : (f : Bool) → length (replies plain_supply r.setup r.slots (given f (say t))) ≤ due w + rate
      by_fit true = rw append-nil (rw ((classes w.kept w.spoiled).faulty_reply t (sym e) 0 s) (line_room 0 s z w.kept w.spoiled))
      by_fit false = omega arith
  by_class_lem global e = omega arith
  by_class_lem other e = by_fit (fitted r.setup w.sel) refl
    where
      by_fit : (f : Bool) → fitted r.setup w.sel ≡ f → length (replies plain_supply r.setup r.slots (given f (one w.sel (line w.kept w.spoiled)))) ≤ due w + rate
      by_fit true f = rw (append-nil, ← here f) (line_room (model_at r.setup w.sel) s z w.kept w.spoiled)
      by_fit false f = omega arith

  class_wire : (c : Class) → ((by_class r.setup w c).wire.kept ≡ []) × ((by_class r.setup w c).wire.spoiled ≡ false)
  class_wire (select a t) = (refl, refl)
  class_wire (faulty t) = (refl, refl)
  class_wire global = (refl, refl)
  class_wire other = (refl, refl)

  -- the end of a line
  pub ended_fair : Fair r (ended_by r) 1
  ended_fair =
      let k = class_wire (class_of w.kept w.spoiled) in
      record { fair = rw (k.0, k.1) (omega (arith, by_class_lem (class_of w.kept w.spoiled) refl)) }
