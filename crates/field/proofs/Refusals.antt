-- The numbers of the refusals: none is 0. And what `?` passes on of a header that is refused.
use Prim.Native.Nat.{ℕ}
use mathlib.Core.Path.{◌≡◌, ap, ◌∙◌}
use native.Mathlib.Omega.{arith}
use Rattle.std.specs.Prelude.{Result, Err, IsErrAnd}
use Rattle.std.proofs.lemmas.Result.{err_from_is_err_and}
use Rattle.field.specs.declared.Refusal.{Refusal}
use Rattle.field.specs.declared.BadHeader.{BadHeader}
use Rattle.field.specs.declared.Refusal.TheVariants.{ShortBuffer, ShortHeader, UnknownTag, WrongLength, ShortPayload, NoSupply, ValueNotListed, BadList}
use Rattle.field.specs.Refusals.{refusal_number}

pub some_number : (e : Refusal) → refusal_number e ≡ 0 → ⊥
some_number ShortBuffer z = omega (arith, z)
some_number ShortHeader z = omega (arith, z)
some_number UnknownTag z = omega (arith, z)
some_number WrongLength z = omega (arith, z)
some_number ShortPayload z = omega (arith, z)
some_number NoSupply z = omega (arith, z)
some_number ValueNotListed z = omega (arith, z)
some_number BadList z = omega (arith, z)

pub passed_on : {A : Type 0} (r : Result A Refusal) (bad : BadHeader) → IsErrAnd r (λ e. e ≡ bad.refusal) → r ≡ Err bad.refusal
passed_on r bad h = let is = err_from_is_err_and r h in is.1 ∙ ap Err is.2
