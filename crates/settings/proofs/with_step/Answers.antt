use mathlib.Core.Path.{◌≡◌, ◌∙◌}
use Prim.Native.Nat.{◌^◌}
use native.Mathlib.Omega.{arith}
use lib.IntN.{pos, ◌+ℤ◌}
use lib.Signed.{◌<ℤ◌}
use mir.Syntax.{w32, w64}
use mir.Val.{of_z, to_z}
use Rattle.std.proofs.lemmas.Int.{ints}
use Rattle.settings.proofs.Numbers.{signed_is, cut_is}
use Rattle.settings.proofs.with_step.Goals as goal

pub returns : goal.returns
returns c =
    let step : to_z w64 (of_z w64 c.from-2.result) ≡ to_z w32 c.args.raw = omega (arith, ints) in
    let small : (pos c.args.x +ℤ to_z w32 c.args.raw) <ℤ pos (2 ^ 64) = omega (arith, ints) in
    rw (c.from.ensures, step) at c.saturating_add_signed.ensures ∙ cut_is _ small ∙ rw (signed_is c.args.raw)
