-- How a byte of a reply is printed: a CR (13) becomes the line ending in use.
use Rattle.std.specs.Prelude.{ℕ, eqb}
use Rattle.base.specs.Choice.{pick}

unfoldable pub printed : ℕ → ℕ → ℕ
printed ending b = pick (eqb b 13) ending b
