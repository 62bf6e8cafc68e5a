-- The share by the classes of the lines is the share by their characters.
use Prim.Native.Nat.{ℕ}
use mathlib.Core.Path.{◌≡◌, refl, ap}
use mathlib.Core.List.{List, [], ◌∷◌, ◌++◌}
use mathlib.Core.Bool.{Bool, true, false, not, ◌&&◌, ◌||◌}
use lib.Dec.{eqb}
use Rattle.base.specs.Choice.{pick}
use Rattle.wire.specs.declared.Setup.{Setup}
use Rattle.wire.specs.Machine.{given, flat}
use Rattle.wire.specs.Wire.{Entry, line, one, Class, select, faulty, global, other, Call, nobody, fitted}
use Rattle.wire.specs.Share.{Arrival, ended, came, stream, arrivals, handed, selected, routes, brought, for_slot, share_of}
use Rattle.wire.proofs.Machine.{flat_append}
use Rattle.plain.specs.Plain.{class_of, grammar}
use Rattle.plain.specs.Classes.{is_adr, is_global, is_c02, is_c03, is_c05, address_in, class_for}
use Rattle.plain.specs.Shares.{takes, selected_after, entries_of, share_for}
use Rattle.plain.proofs.Classes.{class_for_lem}

given_alone : (b : Bool) (e : Entry) → given b e ++ [] ≡ given b e
given_alone true e = refl
given_alone false e = refl

-- the class of a line from the tests on it
abbrev class_on : ℕ → List ℕ → List ℕ → List ℕ → List ℕ → Bool → Bool → Bool → Bool → Bool → Class
class_on n t₂ t₃ t₅ t₀ adr every c2 c3 c5 =
    pick adr (pick c2 (faulty t₂) (pick c3 (faulty t₃) (pick c5 (faulty t₅) (select n t₀))))
    (pick every (pick (c2 || c3) (faulty []) global) other)

module _ (u : Setup) where
  -- an address takes of a line what is handed to it
  line_taken : (a sel : ℕ) (kept : List ℕ) (spoiled : Bool) (e : Entry)
      → flat (for_slot u a) (handed u sel e (class_for kept spoiled)) ≡ given (takes u a sel kept spoiled) e
  line_taken a sel kept spoiled e = by_tests (address_in kept) _ _ _ _
      (is_adr kept spoiled) (is_global kept spoiled) (is_c02 kept) (is_c03 kept) (is_c05 kept)
    where
      to_one : (f : Bool) → flat (for_slot u a) (given f (one sel e)) ≡ given (f && eqb a sel) e
      to_one true = given_alone (eqb a sel) e
      to_one false = refl

      by_tests : (n : ℕ) (t₂ t₃ t₅ t₀ : List ℕ) (adr every c2 c3 c5 : Bool)
          → flat (for_slot u a) (handed u sel e (class_on n t₂ t₃ t₅ t₀ adr every c2 c3 c5))
          ≡ given (pick adr false (pick every (not (c2 || c3) && fitted u a) (fitted u sel && eqb a sel))) e
      by_tests n t₂ t₃ t₅ t₀ true every true c3 c5 = refl
      by_tests n t₂ t₃ t₅ t₀ true every false true c5 = refl
      by_tests n t₂ t₃ t₅ t₀ true every false false true = refl
      by_tests n t₂ t₃ t₅ t₀ true every false false false = refl
      by_tests n t₂ t₃ t₅ t₀ false true true c3 c5 = refl
      by_tests n t₂ t₃ t₅ t₀ false true false true c5 = refl
      by_tests n t₂ t₃ t₅ t₀ false true false false c5 = given_alone (fitted u a) e
      by_tests n t₂ t₃ t₅ t₀ false false c2 c3 c5 = to_one (fitted u sel)

  line_selects : (sel : ℕ) (kept : List ℕ) (spoiled : Bool)
      → selected u sel (class_for kept spoiled) ≡ selected_after u sel kept spoiled
  line_selects sel kept spoiled = by_tests (address_in kept) _ _ _ _
      (is_adr kept spoiled) (is_global kept spoiled) (is_c02 kept) (is_c03 kept) (is_c05 kept)
    where
      by_tests : (n : ℕ) (t₂ t₃ t₅ t₀ : List ℕ) (adr every c2 c3 c5 : Bool)
          → selected u sel (class_on n t₂ t₃ t₅ t₀ adr every c2 c3 c5)
          ≡ pick (adr && not (c2 || (c3 || c5))) (pick (fitted u n) n nobody) sel
      by_tests n t₂ t₃ t₅ t₀ true every true c3 c5 = refl
      by_tests n t₂ t₃ t₅ t₀ true every false true c5 = refl
      by_tests n t₂ t₃ t₅ t₀ true every false false true = refl
      by_tests n t₂ t₃ t₅ t₀ true every false false false = refl
      by_tests n t₂ t₃ t₅ t₀ false true true c3 c5 = refl
      by_tests n t₂ t₃ t₅ t₀ false true false true c5 = refl
      by_tests n t₂ t₃ t₅ t₀ false true false false c5 = refl
      by_tests n t₂ t₃ t₅ t₀ false false c2 c3 c5 = refl

  entries_routed : (a sel : ℕ) (ps : List Arrival) → flat (for_slot u a) (routes grammar u sel ps) ≡ entries_of u a sel ps
  entries_routed a sel [] = refl
  entries_routed a sel (came b e ∷ ps) = ap (λ (es : List Entry). given (eqb a b) e ++ es) (entries_routed a sel ps)
  entries_routed a sel (ended t ∷ ps) =
      let k = t.kept in
      let s = t.spoiled in
      let c = class_of k s in
      rw (
        flat_append (for_slot u a) (handed u sel (line k s) c) (routes grammar u (selected u sel c) ps),
        entries_routed a (selected u sel c) ps,
        class_for_lem k s,
        line_taken a sel k s (line k s),
        line_selects sel k s,
      )
      refl

  -- THE SHARE, by the characters of its lines
  pub share_by_characters : (calls : List Call) (a : ℕ) → share_of grammar u calls a ≡ share_for u calls a
  unfolding brought
  share_by_characters calls a = entries_routed a nobody (arrivals [] (stream grammar u calls))
