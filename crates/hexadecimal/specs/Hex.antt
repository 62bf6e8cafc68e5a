-- Bytes as two hexadecimal digits, and the checksum of bytes.
use Rattle.std.specs.Prelude.{ℕ, ◌+◌, ◌-◌, ◌*◌, ◌/◌, ◌%◌, List, [], ◌∷◌, Bool, ◌&&◌, ◌||◌, leb, ltb, eqb, length, get_or}
use Rattle.base.specs.Choice.{pick}
use Rattle.figures.specs.Digits.{is_digit}
use Rattle.figures.specs.Number.{number_is, no_number}
use Rattle.figures.specs.Number.{Number}

-- 0 to 9, A to F (65 to 70) or a to f (97 to 102)
unfoldable pub is_hex : ℕ → Bool
is_hex b = is_digit b || ((leb 65 b && leb b 70) || (leb 97 b && leb b 102))

-- the value of a hexadecimal digit in either case
unfoldable pub hex_of : ℕ → ℕ
hex_of b = pick (leb b 57) (b - 48) (pick (leb b 70) (b - 55) (b - 87))

-- the value of two hexadecimal digits, the high one first
unfoldable pub read_hex : List ℕ → Number
read_hex t =
    pick (eqb (length t) 2 && (is_hex (get_or t 0 0) && is_hex (get_or t 1 0)))
    (number_is (hex_of (get_or t 0 0) * 16 + hex_of (get_or t 1 0)))
    no_number

-- a number below 16 as a capital hexadecimal digit, and a byte as two of them
abbrev pub hex_digit : ℕ → ℕ
hex_digit n = pick (ltb n 10) (48 + n) (55 + n)

unfoldable pub hex_pair : ℕ → List ℕ
hex_pair b = hex_digit (b / 16) ∷ hex_digit (b % 16) ∷ []

-- the sum of the bytes of s, and their checksum, which is that sum modulo 256
unfoldable pub total : List ℕ → ℕ
total [] = 0
total (b ∷ bs) = b + total bs

unfoldable pub checksum : List ℕ → ℕ
checksum s = total s % 256
