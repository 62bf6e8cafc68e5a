-- The model of the supply at an address: it is there exactly if the address is fitted.
use Prim.Native.Nat.{ℕ}
use mathlib.Core.Path.{◌≡◌, refl}
use mathlib.Core.Bool.{Bool, true, false}
use lib.Dec.{eqb}
use Rattle.std.specs.Prelude.{Some, None}
use Rattle.wire.specs.declared.Setup.{Setup}
use Rattle.wire.specs.Wire.{model_at, fitted}
use Rattle.serial.specs.View.{fitted_model}

module _ (u : Setup) (a : ℕ) where
  pub model_there : (m : ℕ) → Some m ≡ fitted_model u a → (fitted u a ≡ true) × (m ≡ model_at u a)
  model_there m e = by_test (eqb (model_at u a) 255) refl
    where
      by_test : (t : Bool) → eqb (model_at u a) 255 ≡ t → (fitted u a ≡ true) × (m ≡ model_at u a)
      by_test true q = absurd (let none : Some m ≡ None = rw q at e in cc)
      by_test false q = let some : Some m ≡ Some (model_at u a) = rw q at e in (rw q refl, cc)

  pub none_there : None ≡ fitted_model u a → fitted u a ≡ false
  none_there e = by_test (eqb (model_at u a) 255) refl
    where
      by_test : (t : Bool) → eqb (model_at u a) 255 ≡ t → fitted u a ≡ false
      by_test true q = rw q refl
      by_test false q = absurd (let some : None ≡ Some (model_at u a) = rw q at e in cc)
