use Rattle.std.proofs.Common.{◌≡◌, ◌/◌, ◌%◌}
use Rattle.base.proofs.Put.{put_then}
use Rattle.hexadecimal.specs.Hex.{hex_digit, hex_pair}
use Rattle.hexadecimal.proofs.put_hex.Goals as goal

pub returns : goal.returns
unfolding hex_pair
returns c =
    let high : c.hex_digit.result ≡ hex_digit (c.args.b / 16) = c.hex_digit.ensures in
    let low : c.hex_digit-2.result ≡ hex_digit (c.args.b % 16) = c.hex_digit-2.ensures in
    rw (← high, ← low) (put_then c.put_byte-p.ensures c.put_byte.ensures)
