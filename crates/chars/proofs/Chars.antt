-- Characters of a line, one after another: nothing is handed out, and the same slot stays selected.
use Prim.Native.Nat.{ℕ, ◌+◌, ◌-◌, ◌≤◌, ◌<◌}
use mathlib.Core.Path.{◌≡◌, refl, ap, ◌∙◌}
use mathlib.Core.Bool.{false}
use mathlib.Core.List.{List, [], ◌∷◌, map, map-append}
use native.Mathlib.Numerals.{add-one}
use native.Mathlib.Omega.{arith}
use lib.Dec.{eqb}
use lib.ListN.{length, get_or, take, length-append, length-take}
use lib.Seq.{take-suc}
use Rattle.wire.specs.Wire.{Wire, byte, char_on}
use Rattle.wire.proofs.ForCode.{scan_more}
use Rattle.serial.specs.declared.Line.{Line}
use Rattle.serial.specs.View as serial
use Rattle.serial.specs.View.{wire_of, Short}
use Rattle.wire.proofs.Stream.{on_other}
use Rattle.serial.proofs.Chars.{char_keeps}
use Rattle.protocol.specs.SentBack.{rate}
use Rattle.slots.specs.View.{due}
use Rattle.chars.specs.Chars.{Typing}

stays : (w : Wire) (x : ℕ) → (char_on w x).sel ≡ w.sel
stays w x = char_keeps (λ v. v.sel ≡ w.sel) w x refl refl refl refl

char_due : (w : Wire) (x : ℕ) → due (char_on w x) ≤ due w + rate
char_due w x =
    char_keeps (λ v. due v ≤ due w + rate) w x
    (omega arith)
    (omega (arith, length-take (length w.kept - 1) w.kept))
    (omega (arith, length-append w.kept (x ∷ [])))
    (omega arith)

pub typing_none : (l : Line) (p : List ℕ) → Short l → Typing l p 0 l
typing_none l p h = record { small = h; selects = refl; scans = λ γ u. refl; grows = omega arith }

pub typing_more : (l m r : Line) (p : List ℕ) (i : ℕ) → i < length p → eqb (get_or p i 0) 13 ≡ false → Typing l p i m → (Short m → serial.CharTaken m (get_or p i 0) r) → Typing l p (i + 1) r
typing_more l m r p i h n t d =
    let x : ℕ = get_or p i 0 in
    let is : wire_of r ≡ char_on (wire_of m) x = (d t.small).is in
    let same : due (wire_of r) ≡ due (char_on (wire_of m) x) = ap due is in
    record {
      small = (d t.small).small;
      selects = ap (λ (w : Wire). w.sel) is ∙ stays (wire_of m) x ∙ t.selects;
      scans = λ γ u. rw (add-one, take-suc p i 0 h, map-append byte (take i p) (x ∷ []), scan_more γ u (wire_of l) (map byte (take i p)) (byte x), t.scans γ u, on_other γ u (wire_of m) x n, is) refl;
      grows = omega (arith, same, char_due (wire_of m) x, t.grows);
    }
