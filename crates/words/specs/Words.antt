-- Tables of words, looked up by characters or by number.
use Rattle.std.specs.Prelude.{ℕ, zero, suc, ◌+◌, ◌-◌, ◌*◌, List, [], ◌∷◌, map, Bool, true, false, ◌&&◌, ◌||◌, length, get_or, leb, ltb, eqb}
use Rattle.base.specs.Choice.{pick}

-- a character, as a capital if it is a small letter: a to z are 97 to 122
abbrev pub upper : ℕ → ℕ
upper b = pick (leb 97 b && leb b 122) (b - 32) b

abbrev pub upper_all : List ℕ → List ℕ
upper_all s = map upper s

-- the first n characters of s as one number: a leading 1, then one byte per character
abbrev pub packed : List ℕ → ℕ → ℕ
packed s zero = 1
packed s (suc n) = packed s n * 256 + get_or s n 0

abbrev pub pack : List ℕ → ℕ
pack w = packed w (length w)

-- the number of a word in either case; 0, which is no word's number, if it has more than five characters
unfoldable pub word_number : List ℕ → ℕ
word_number s = pick (ltb 5 (length s)) 0 (packed (upper_all s) (length s))

abbrev pub same_word : List ℕ → List ℕ → Bool
same_word [] [] = true
same_word [] (y ∷ ys) = false
same_word (x ∷ xs) [] = false
same_word (x ∷ xs) (y ∷ ys) = eqb x y && same_word xs ys

-- whether w is one of these words
abbrev pub is_one_of : List (List ℕ) → List ℕ → Bool
is_one_of [] w = false
is_one_of (v ∷ vs) w = same_word v w || is_one_of vs w

-- a word in capitals and the value beside it
abbrev pub Row : Type 0 → Type 0
Row A = List ℕ × A

module _ {A : Type 0} (none : A) where
  -- the value beside a word in capitals, found by its characters
  unfoldable pub find_word : List (Row A) → List ℕ → A
  find_word [] w = none
  find_word (e ∷ es) w = pick (same_word e.0 w) e.1 (find_word es w)

  -- the same value, found by the word's number
  unfoldable pub find_number : List (Row A) → ℕ → A
  find_number [] x = none
  find_number (e ∷ es) x = pick (eqb (pack e.0) x) e.1 (find_number es x)
