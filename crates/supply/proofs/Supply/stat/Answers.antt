use mathlib.Core.Path.{◌≡◌, refl}
use mathlib.Core.Bool.{Bool, true, false, not}
use Prim.Native.Nat.{◌*◌, ◌%◌}
use lib.Bits.{bit_or}
use lib.Dec.{lit<}
use mir.Val.{bool_byte}
use Rattle.base.specs.Choice.{bit}
use Rattle.base.proofs.Bits.{flag}
use Rattle.supply.specs.Stat.{in_cv, in_cc, no_fault, is_local, stat_of}
use Rattle.supply.proofs.Supply.stat.Goals as goal

-- the flag at bit 0 is not shifted
unshifted : (b : Bool) → bool_byte b ≡ bit b
unshifted true = refl
unshifted false = refl

-- each flag shifted to its place
packed : (a b c d e f g : Bool)
    → bit_or (bit_or (bit_or (bit_or (bit_or (bit_or (bool_byte a) (bool_byte b * 2 % 256)) (bool_byte c * 4 % 256)) (bool_byte d * 8 % 256)) (bool_byte e * 16 % 256)) (bool_byte f * 32 % 256)) (bool_byte g * 128 % 256)
    ≡ bit_or (bit_or (bit_or (bit_or (bit_or (bit_or (bit a) (bit b * 2)) (bit c * 4)) (bit d * 8)) (bit e * 16)) (bit f * 32)) (bit g * 128)
packed a b c d e f g =
    rw (unshifted a, flag 2 (lit< tt) b, flag 4 (lit< tt) c, flag 8 (lit< tt) d, flag 16 (lit< tt) e, flag 32 (lit< tt) f, flag 128 (lit< tt) g) refl

pub returns : goal.returns
unfolding stat_of
returns c =
    let m = c.args.model in
    let s = c.args.self in
    rw (c.from.ensures, c.from-2.ensures, c.from-3.ensures, c.from-4.ensures, c.from-5.ensures, c.from-6.ensures, c.from-7.ensures, c.in_limit-limited.ensures, c.is_on-on.ensures)
    (packed (in_cv m s) (in_cc m s) (no_fault s) (not (no_fault s)) s.ast s.armed (is_local s))
