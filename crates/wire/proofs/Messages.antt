-- Service messages: who sends none, and how long they are together.
use mathlib.Core.Path.{◌≡◌, refl, sym, ap, ◌∙◌}
use mathlib.Core.Bool.{Bool, true, false, true≢false}
use mathlib.Core.List.{List, [], ◌∷◌, ◌++◌, foldl, append-nil}
use Prim.Native.Nat.{ℕ, zero, suc, ◌*◌, ◌≤◌, ◌<◌}
use native.Mathlib.Omega.{arith}
use lib.Dec.{eqb, ltb}
use lib.ListN.{length, length-append, get_or-eq_default}
use borrow.Author.Tests.{eqb-true, eqb-false, ltb-true, ltb-false}
use Rattle.base.specs.Choice.{pick}
use Rattle.base.proofs.Lists.{length_tabulate, get_d_tabulate}
use Rattle.wire.specs.Machine.{keep}
use Rattle.wire.specs.Wire.{Delivery, one, all, say}
use Rattle.wire.specs.Rack.{Plain, next, state_at, deliver, message, sends, messages_to}
use Rattle.wire.specs.Groups.{touching}
use Rattle.wire.specs.Messages.{Still, MessagesSent}
use Rattle.wire.specs.declared.Setup.{Setup}
use Rattle.wire.proofs.Calls.{deliver_size}

-- a list that begins is not empty
abbrev begins : {A : Type 0} → List A → Bool
begins [] = false
begins (x ∷ l) = true

cons_nil : {A : Type 0} {x : A} {l : List A} → x ∷ l ≡ [] → ⊥
cons_nil e = true≢false (ap begins e)

below : (n k : ℕ) → k < suc n → (n ≡ k → ⊥) → k < n
below n k h ne = omega (arith, h, ne)

module _ (M : Plain) where
  open M use {State, fresh, rings}

  -- four bytes to a slot at most
  sends_short : (a : ℕ) (s t : State) → length (sends M a s t) ≤ 4
  sends_short a s t = by_test (rings s t)
    where
      by_test : (b : Bool) → length (pick b (message a) []) ≤ 4
      by_test true = omega arith
      by_test false = omega arith

  pub messages_short : (n : ℕ) (ss ts : List State) → length (messages_to M n ss ts) ≤ 4 * n
  messages_short zero ss ts = omega arith
  messages_short (suc n) ss ts =
      rw length-append (omega (arith, messages_short n ss ts, sends_short n (state_at M ss n) (state_at M ts n)))

  -- nothing is sent if no slot rings
  pub messages_none : (n : ℕ) (ss ts : List State) → ((a : ℕ) → a < n → rings (state_at M ss a) (state_at M ts a) ≡ false) → messages_to M n ss ts ≡ []
  messages_none zero ss ts quiet = refl
  messages_none (suc n) ss ts quiet =
      rw (messages_none n ss ts (λ a h. quiet a (omega (arith, h))), quiet n (omega arith)) refl

  -- if every slot but one is silent, only that one can send
  pub messages_one : (n k : ℕ) (ss ts : List State) → k < n → ((a : ℕ) → (a ≡ k → ⊥) → rings (state_at M ss a) (state_at M ts a) ≡ false)
      → messages_to M n ss ts ≡ sends M k (state_at M ss k) (state_at M ts k)
  messages_one zero k ss ts h quiet = absurd (omega (arith, h))
  messages_one (suc n) k ss ts h quiet = by_last (eqb n k) refl (λ l. messages_one n k ss ts l quiet)
    where
      by_last : (b : Bool) → eqb n k ≡ b → (k < n → messages_to M n ss ts ≡ sends M k (state_at M ss k) (state_at M ts k))
          → messages_to M n ss ts ++ sends M n (state_at M ss n) (state_at M ts n) ≡ sends M k (state_at M ss k) (state_at M ts k)
      by_last true e ih =
          let is : n ≡ k = eqb-true n k e in
          rw (messages_none n ss ts (λ a l. quiet a (λ z. absurd (omega (arith, z, is, l)))), is) refl
      by_last false e ih =
          let ne : n ≡ k → ⊥ = eqb-false n k e in
          rw (quiet n ne, append-nil) (ih (below n k h ne))

  module _ (u : Setup) where
    -- a delivery leaves every slot that it does not reach as it was
    delivered_same : (ss : List State) (d : Delivery) (a : ℕ) → touching (eqb a) d ≡ false → state_at M (deliver M u ss d) a ≡ state_at M ss a
    delivered_same ss d a e = by_place (ltb a (length ss)) refl
      where
        kept : (d : Delivery) → touching (eqb a) d ≡ false → next M u (state_at M ss) d a ≡ state_at M ss a
        kept (one b x) t = rw t refl
        kept (all x) t = absurd (true≢false t)
        kept (say x) t = refl

        by_place : (b : Bool) → ltb a (length ss) ≡ b → state_at M (deliver M u ss d) a ≡ state_at M ss a
        by_place true l = get_d_tabulate (length ss) (next M u (state_at M ss) d) a (fresh 255) (ltb-true a (length ss) l) ∙ kept d e
        by_place false l =
            let past : length ss ≤ a = ltb-false a (length ss) l in
            let size : length (deliver M u ss d) ≡ length ss = length_tabulate (length ss) (next M u (state_at M ss) d) in
            get_or-eq_default (deliver M u ss d) (fresh 255) (omega (arith, size, past)) ∙ sym (get_or-eq_default ss (fresh 255) past)

    unreached_same : (ss : List State) (ds : List Delivery) (a : ℕ) → keep (touching (eqb a)) ds ≡ [] → state_at M (foldl (deliver M u) ss ds) a ≡ state_at M ss a
    unreached_same ss [] a e = refl
    unreached_same ss (d ∷ ds) a e = by_test (touching (eqb a) d) refl e (λ k. unreached_same (deliver M u ss d) ds a k)
      where
        by_test : (b : Bool) → touching (eqb a) d ≡ b → pick b (d ∷ keep (touching (eqb a)) ds) (keep (touching (eqb a)) ds) ≡ []
            → (keep (touching (eqb a)) ds ≡ [] → state_at M (foldl (deliver M u) (deliver M u ss d) ds) a ≡ state_at M (deliver M u ss d) a)
            → state_at M (foldl (deliver M u) (deliver M u ss d) ds) a ≡ state_at M ss a
        by_test true t k ih = absurd (cons_nil k)
        by_test false t k ih = ih k ∙ delivered_same ss d a t

    -- WHO SENDS A MESSAGE
    pub messages_sent : Still M → (ss : List State) (ds : List Delivery) → MessagesSent M u ss ds
    messages_sent still ss ds =
        let size : length (foldl (deliver M u) ss ds) ≡ length ss = deliver_size M u ss ds in
        record {
          unreached = λ a e. rw (unreached_same ss ds a e, still (state_at M ss a)) refl;
          alone = λ k h e. messages_one (length (foldl (deliver M u) ss ds)) k ss _ (omega (arith, size, h)) (λ a n. rw (unreached_same ss ds a (e a n)) (still (state_at M ss a)));
          short = omega (arith, size, messages_short (length (foldl (deliver M u) ss ds)) ss (foldl (deliver M u) ss ds));
        }
