-- The line of every rack reached by calls is in bounds: at most 64 characters are kept, and nobody or a fitted slot is
-- selected.
use mathlib.Core.Path.{◌≡◌, refl}
use mathlib.Core.Logic.{◌⊎◌, inl, inr}
use mathlib.Core.Bool.{Bool, true, false}
use mathlib.Core.List.{List, [], ◌∷◌}
use Prim.Native.Nat.{ℕ}
use native.Mathlib.Omega.{arith}
use lib.Dec.{eqb, ltb}
use lib.ListN.{length, length-append, length-take}
use borrow.Author.Tests.{ltb-true}
use Rattle.base.specs.Choice.{pick}
use Rattle.wire.specs.Wire.{Class, select, faulty, global, other, Grammar, fitted, Wire, Sent, Call, Item, byte, event, nobody, fresh_wire, by_class, char_on, byte_on, item_on, scan, LawfulWire}
use Rattle.wire.specs.Share.{stream}
use Rattle.wire.specs.Rack.{Plain, Rack, run_from, fresh_rack, run}
use Rattle.wire.specs.declared.Setup.{Setup}
use Rattle.wire.proofs.Calls.{run_moved}

-- what holds for each branch of a choice holds for the choice
pick_has : {A : Type 0} (P : A → Type 0) (t : Bool) {x y : A} → (t ≡ true → P x) → (t ≡ false → P y) → P (pick t x y)
pick_has P true p q = p refl
pick_has P false p q = q refl

module _ (u : Setup) where
  -- a fresh line is in bounds
  pub fresh_lawful : LawfulWire u fresh_wire
  fresh_lawful = record { short = omega arith; chosen = inl refl }

  class_lawful : (w : Wire) (c : Class) → LawfulWire u w → LawfulWire u (by_class u w c).wire
  class_lawful w (select a t) h = record { short = omega arith; chosen = pick_has (λ s. (s ≡ nobody) ⊎ (fitted u s ≡ true)) (fitted u a) inr (λ q. inl refl) }
  class_lawful w (faulty t) h = record { short = omega arith; chosen = h.chosen }
  class_lawful w global h = record { short = omega arith; chosen = h.chosen }
  class_lawful w other h = record { short = omega arith; chosen = h.chosen }

  char_lawful : (w : Wire) (b : ℕ) → LawfulWire u w → LawfulWire u (char_on w b)
  unfolding char_on
  char_lawful w b h =
      pick_has (LawfulWire u) (eqb b 10) (λ q. h) (λ q.
      pick_has (LawfulWire u) (eqb b 8) (λ q. record { short = rw length-take (omega arith); chosen = h.chosen }) (λ q.
      pick_has (LawfulWire u) (ltb (length w.kept) 64)
      (λ q. record { short = rw length-append (omega (arith, ltb-true (length w.kept) 64 q)); chosen = h.chosen })
      (λ q. record { short = h.short; chosen = h.chosen })))

module _ (γ : Grammar) (u : Setup) where
  -- each byte, item and stream leaves a line in bounds
  pub byte_lawful : (w : Wire) (b : ℕ) → LawfulWire u w → LawfulWire u (byte_on γ u w b).wire
  unfolding byte_on
  byte_lawful w b h =
      pick_has (λ (s : Sent). LawfulWire u s.wire) (eqb b 13)
      (λ q. class_lawful u w (γ.class_of w.kept w.spoiled) h)
      (λ q. char_lawful u w b h)

  pub item_lawful : (w : Wire) (i : Item) → LawfulWire u w → LawfulWire u (item_on γ u w i).wire
  item_lawful w (byte b) h = byte_lawful w b h
  item_lawful w (event a e) h = h

  pub scan_lawful : (w : Wire) (is : List Item) → LawfulWire u w → LawfulWire u (scan γ u w is).wire
  scan_lawful w [] h = h
  scan_lawful w (i ∷ is) h = scan_lawful (item_on γ u w i).wire is (item_lawful w i h)

module _ (M : Plain) where
  open M use {State, grammar}

  -- after every list at most 64 characters are kept, and a selected slot is fitted
  pub run_lawful : (r : Rack State) (calls : List Call) → LawfulWire r.setup r.wire → LawfulWire r.setup (run_from M r calls).wire
  run_lawful r calls h = rw (run_moved M r calls) (scan_lawful grammar r.setup r.wire (stream grammar r.setup calls) h)

  pub run_fresh_lawful : (u : Setup) (calls : List Call) → LawfulWire u (run M u calls).wire
  run_fresh_lawful u calls = run_lawful (fresh_rack M u) calls (fresh_lawful u)
