-- The parameter of a line: absent or empty, malformed, or a value.
use Rattle.std.specs.Prelude.{ℕ, ◌+◌, ◌-◌, List, Bool, ◌&&◌, leb, ltb, eqb, length, get_or}
use Rattle.base.specs.Choice.{pick}
use Rattle.figures.specs.Number.{Number}
use Rattle.figures.specs.Digits.{all_digits, run_value}
use Rattle.figures.specs.Number.{read_number, number_is, no_number}
use Rattle.hexadecimal.specs.Hex.{read_hex}
use Rattle.supply.specs.State.{c05}

-- the error codes that the line alone decides, without a supply; in hexadecimal an error code reads as its name.
-- C05, which an order can draw too, is defined with the error codes of orders
abbrev pub c01 : ℕ
c01 = 0xC1

abbrev pub c02 : ℕ
c02 = 0xC2

abbrev pub c03 : ℕ
c03 = 0xC3

abbrev pub c04 : ℕ
c04 = 0xC4

-- a parameter as read: error code 0 and its value, or the error code of what is wrong with it and value 0
pub record Parameter : Type 0 where
  pub code : ℕ
  pub value : ℕ

abbrev pub value_is : ℕ → Parameter
value_is v = record { code = 0; value = v }

abbrev pub refused_by : ℕ → Parameter
refused_by c = record { code = c; value = 0 }

-- what a word takes: no parameter; a number with k decimals; one digit from 0 to a greatest one; two hexadecimal
-- digits; an address of one or two digits; and the kind of an unknown word
pub data Kind : Type 0 where
  bare : Kind
  number : ℕ → Kind
  switch : ℕ → Kind
  hex : Kind
  address : Kind
  unknown : Kind

-- one digit from 0 to most
abbrev pub read_switch : ℕ → List ℕ → Number
read_switch most x =
    pick (eqb (length x) 1 && (leb 48 (get_or x 0 0) && leb (get_or x 0 0) (48 + most)))
    (number_is (get_or x 0 0 - 48))
    no_number

-- at most two digits
abbrev pub read_address : List ℕ → Number
read_address x = pick (ltb (length x) 3 && all_digits x) (number_is (run_value x (length x))) no_number

-- the text as each kind reads it
unfoldable pub read_as : Kind → List ℕ → Number
read_as bare x = no_number
read_as (number k) x = read_number k x
read_as (switch most) x = read_switch most x
read_as hex x = read_hex x
read_as address x = read_address x
read_as unknown x = no_number

abbrev pub is_empty : List ℕ → Bool
is_empty x = eqb (length x) 0

-- a required parameter: C02 if it is empty, C03 if it is malformed
abbrev pub needed : Number → List ℕ → Parameter
needed n x = pick (is_empty x) (refused_by c02) (pick n.good (value_is n.value) (refused_by c03))

-- an address above 30 draws C05
abbrev pub within30 : Parameter → Parameter
within30 p = pick (ltb 30 p.value) (refused_by c05) p

-- a parameter given to a word that takes none draws C03; an unknown word draws C01
unfoldable pub parameter_of : Kind → List ℕ → Parameter
parameter_of bare x = pick (is_empty x) (value_is 0) (refused_by c03)
parameter_of (number k) x = needed (read_as (number k) x) x
parameter_of (switch most) x = needed (read_as (switch most) x) x
parameter_of hex x = needed (read_as hex x) x
parameter_of address x = within30 (needed (read_as address x) x)
parameter_of unknown x = refused_by c01
