-- A field: its tag, length and payload, the refusals that it can draw, and what it brings.
use Rattle.std.specs.Prelude.{ℕ, ◌+◌, ◌*◌, List, [], ◌∷◌, map, Bool, true, false, not, ◌&&◌, leb, ltb, eqb, length, get_or, take, drop}
use Rattle.std.specs.Int.Bits.{bit_and}
use Rattle.base.specs.Choice.{pick}
use Rattle.wire.specs.Wire.{field, byte, event, Parsed, refuse, accept}
use Rattle.supply.specs.declared.Key.TheVariants.{Output, Fold, Local}
use Rattle.supply.specs.declared.Target.TheVariants.{Pv, Pc, Ovp, Uvl}
use Rattle.supply.specs.declared.Act.{Act}
use Rattle.supply.specs.declared.Act.TheVariants.{Lines, Sample, Press, Turn, Nothing}

-- two or four bytes as one number, high byte first
abbrev pub pair_at : List ℕ → ℕ → ℕ
pair_at s i = get_or s i 0 * 256 + get_or s (i + 1) 0

abbrev pub quad_at : List ℕ → ℕ → ℕ
quad_at s i = pair_at s i * 65536 + pair_at s (i + 2)

-- a tag of one byte, a length of two bytes, and the payload
abbrev pub tag_of : List ℕ → ℕ
tag_of b = get_or b 0 0

abbrev pub length_of : List ℕ → ℕ
length_of b = pair_at b 1

abbrev pub payload_of : List ℕ → List ℕ
payload_of b = take (length_of b) (drop 3 b)

-- tag 1 carries 1 to 16 serial bytes; tag 3 an address, a target and a step; tag 5 an address and two counts; tags 2
-- and 4 two bytes
unfoldable pub length_fits : ℕ → ℕ → Bool
length_fits t n =
    pick (eqb t 1) (leb 1 n && leb n 16)
    (pick (eqb t 3) (eqb n 6)
    (pick (eqb t 5) (eqb n 5) (eqb n 2)))

-- refusals 2 to 5, in the order in which they are tested, or 0
unfoldable pub header_code : List ℕ → ℕ
header_code b =
    pick (ltb (length b) 3) 2
    (pick (not (leb 1 (tag_of b) && leb (tag_of b) 5)) 3
    (pick (not (length_fits (tag_of b) (length_of b))) 4
    (pick (ltb (length b) (3 + length_of b)) 5 0)))

-- a complete field of tag 5; only its address can still be refused
unfoldable pub is_sample : List ℕ → Bool
is_sample b = pick (ltb (length b) 8) false (eqb (tag_of b) 5 && eqb (length_of b) 5)

-- keys are 0 to 2, targets 0 to 3; LINES may have only bits 1, 2, 5 and 7 (0x59 are the others); counts may have any
-- value
unfoldable pub values_fit : ℕ → List ℕ → Bool
values_fit t p =
    pick (eqb t 2) (ltb (get_or p 1 0) 3)
    (pick (eqb t 3) (ltb (get_or p 1 0) 4)
    (pick (eqb t 4) (eqb (bit_and (get_or p 1 0) 0x59) 0) true))

-- a press of the key with this number; a number that no key has asks for nothing
unfoldable pub press_of : ℕ → Act
press_of n =
    pick (eqb n 0) (Press Output)
    (pick (eqb n 1) (Press Fold)
    (pick (eqb n 2) (Press Local) Nothing))

-- the knob turned by the step, for the target with this number
unfoldable pub turn_of : ℕ → ℕ → Act
turn_of n step =
    pick (eqb n 0) (Turn Pv step)
    (pick (eqb n 1) (Turn Pc step)
    (pick (eqb n 2) (Turn Ovp step)
    (pick (eqb n 3) (Turn Uvl step) Nothing)))

-- what a field of tags 2 to 5 asks of its supply; the payload begins with the address
unfoldable pub act_of : ℕ → List ℕ → Act
act_of t p =
    pick (eqb t 2) (press_of (get_or p 1 0))
    (pick (eqb t 3) (turn_of (get_or p 1 0) (quad_at p 2))
    (pick (eqb t 4) (Lines (get_or p 1 0))
    (pick (eqb t 5) (Sample (pair_at p 1) (pair_at p 3)) Nothing)))

-- the first field of the lent bytes: refusals 2 to 5, then 6 if there is no supply at the address, then 7; or the bytes
-- used and what the field brings
unfoldable pub read_field : (ℕ → Bool) → List ℕ → Parsed
read_field fits b =
    pick (not (eqb (header_code b) 0)) (refuse (header_code b))
    (pick (eqb (tag_of b) 1) (accept (3 + length_of b) (map byte (payload_of b)))
    (pick (not (fits (get_or (payload_of b) 0 0))) (refuse 6)
    (pick (not (values_fit (tag_of b) (payload_of b))) (refuse 7)
    (accept (3 + length_of b) (event (get_or (payload_of b) 0 0) (field (tag_of b) (payload_of b)) ∷ [])))))
