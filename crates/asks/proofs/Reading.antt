-- What the code reads from a line, over plain lists: the word, by its number.
use Prim.Native.Nat.{ℕ, ◌+◌, ◌<◌}
use mathlib.Core.Path.{◌≡◌, refl, sym, ap, ◌∙◌}
use mathlib.Core.List.{List}
use mathlib.Core.Bool.{Bool, true, false}
use native.Mathlib.Omega.{arith}
use lib.Dec.{eqb, ltb, lit<}
use lib.ListN.{get_or, take, drop, length-take, get_or-eq_default}
use lib.Seq.{get_or-take}
use borrow.Author.Tests.{ltb-true, ltb-false}
use Rattle.figures.specs.Number.{first_at}
use Rattle.words.specs.Words.{word_number, find_number, upper_all}
use Rattle.words.proofs.Table.{Bytes, find_by_number}
use Rattle.std.specs.Prelude.{Result, Ok, Err}
use Rattle.supply.specs.declared.ErrorCode.{ErrorCode}
use Rattle.supply.specs.declared.ErrorCode.TheVariants.{C01, C02, C03, C04, C05, E01, E02, E04, E06, E07}
use Rattle.supply.specs.declared.Order.{Order}
use Rattle.supply.specs.ErrorCodes.{code_byte}
use Rattle.parameters.specs.Parameters.{Parameter, parameter_of}
use Rattle.asks.specs.Asks.{Asks}
use Rattle.asks.specs.Words.{OrderWord, to_one, to_all, kind_of_order, commands, unknown_word, command_of, asked_with, asked_by}
use Rattle.asks.specs.Told.{one_told, all_told, OrderRead}
use Rattle.asks.specs.Asked.{word_of, parameter_text}

-- the arm for a word with this number
pub by_key : (x : List ℕ) {n k : ℕ} → n ≡ k → asked_by (find_number unknown_word commands k) x ≡ asked_by (find_number unknown_word commands n) x
by_key x e = ap (λ (j : ℕ). asked_by (find_number unknown_word commands j) x) (sym e)

-- an order read with its parameter, as asked of one supply and of all
code_is_set : (e : ErrorCode) → eqb (code_byte e) 0 ≡ false
code_is_set C01 = refl
code_is_set C02 = refl
code_is_set C03 = refl
code_is_set C04 = refl
code_is_set C05 = refl
code_is_set E01 = refl
code_is_set E02 = refl
code_is_set E04 = refl
code_is_set E06 = refl
code_is_set E07 = refl

read_one : (o : OrderWord) (p : Parameter) (r : Result Order ErrorCode) → OrderRead o p r → one_told r ≡ asked_with (to_one o) p
read_one o p (Ok y) h = rw (h.1, ← h.0) refl
read_one o p (Err e) h = rw (← h.0, code_is_set e) refl

read_all : (o : OrderWord) (p : Parameter) (r : Result Order ErrorCode) → OrderRead o p r → all_told r ≡ asked_with (to_all o) p
read_all o p (Ok y) h = rw (h.1, ← h.0) refl
read_all o p (Err e) h = rw (← h.0, code_is_set e) refl

-- the arm of an order's word
module _ (x : List ℕ) (o : OrderWord) (r : Result Order ErrorCode) (a : Asks) {w n : ℕ} (is : w ≡ n) where
  pub one_word : find_number unknown_word commands n ≡ to_one o → OrderRead o (parameter_of (kind_of_order o) x) r → a ≡ one_told r → a ≡ asked_by (find_number unknown_word commands w) x
  unfolding asked_by
  one_word f h e = rw (is, f) (e ∙ read_one o (parameter_of (kind_of_order o) x) r h)

  pub all_word : find_number unknown_word commands n ≡ to_all o → OrderRead o (parameter_of (kind_of_order o) x) r → a ≡ all_told r → a ≡ asked_by (find_number unknown_word commands w) x
  unfolding asked_by
  all_word f h e = rw (is, f) (e ∙ read_all o (parameter_of (kind_of_order o) x) r h)

bytes_take : (p : ℕ) (t : List ℕ) → Bytes t → Bytes (take p t)
bytes_take p t h i = by_test (ltb i p) refl
  where
    by_test : (b : Bool) → ltb i p ≡ b → get_or (take p t) i 0 < 256
    by_test true e = rw (get_or-take p t i 0 (ltb-true i p e)) (h i)
    by_test false e = rw (get_or-eq_default (take p t) 0 {n = i} (rw length-take (omega (arith, ltb-false i p e)))) (lit< tt)

-- the word up to the first space, by its number
pub by_word :
    (t w x : List ℕ) (p n : ℕ)
    → Bytes t
    → p ≡ first_at 32 t
    → w ≡ take p t
    → n ≡ word_number w
    → x ≡ drop (p + 1) t
    → asked_by (find_number unknown_word commands n) x ≡ asked_by (command_of (upper_all (word_of t))) (parameter_text t)
by_word t w x p n h ep ew en ex =
    rw (en, ex, ew, find_by_number unknown_word commands refl (take p t) (bytes_take p t h), ep) refl
