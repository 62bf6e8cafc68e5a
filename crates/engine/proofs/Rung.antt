-- The messages of a field, from what it has kept of the slots that it found.
use Prim.Native.Nat.{ℕ, zero, suc, ◌≤◌, ◌<◌}
use mathlib.Core.Path.{◌≡◌, refl, sym, ap, ◌∙◌}
use mathlib.Core.Logic.{◌⊎◌, inl, inr}
use mathlib.Core.Bool.{Bool, true, false, not, ◌&&◌, ◌||◌, true≢false, false≢true, and-eq-true_iff}
use mathlib.Core.List.{List, []}
use native.Mathlib.Omega.{arith}
use lib.Dec.{eqb}
use lib.ListN.{length, get_or, set, length-set}
use lib.Seq.{get_or-set_same, get_or-set_other}
use borrow.Author.Tests.{eq-eqb, ne_eqb, eqb-true, eqb-false, not-true}
use Rattle.base.specs.Choice.{pick}
use Rattle.base.specs.Put.{Put}
use Rattle.base.proofs.Lists.{get_d_any}
use Rattle.base.proofs.Put.{put_none, put_length}
use Rattle.wire.specs.Rack.{messages_to, messages}
use Rattle.wire.proofs.Messages.{messages_none, messages_one}
use Rattle.supply.specs.declared.Supply.{Supply}
use Rattle.supply.specs.State.{fresh}
use Rattle.supply.proofs.Rings.{unrung}
use Rattle.plain.specs.Plain.{plain_supply}
use Rattle.messages.specs.declared.Found.{Found}
use Rattle.messages.specs.Messages.{feve_in, seve_in, slot_at, sends_by, messages_by, unchanged, found_at, leaves_slot, gone, Recorded}

some : {n : ℕ} → (n ≡ 0 → ⊥) → 0 < n
some ne = omega (arith, ne)

-- two supplies with the same registers
abbrev SameRegisters : Supply → Supply → Type 0
SameRegisters s t = (s.feve ≡ t.feve) × (s.seve ≡ t.seve)

-- WHAT THE FIELD UNDER WAY HAS KEPT of the slots that it found, `since`, now that they are ss
pub record Noted (since ss : List Supply) (f : Found) (kept : List ℕ) : Type 0 where
  pub low : f.slot < 31
  -- while it has changed one slot, the registers of every other are as they were
  pub others : f.many ≡ false → (a : ℕ) → (a ≡ f.slot → ⊥) → SameRegisters (slot_at since a) (slot_at ss a)
  pub found : f.many ≡ false → ((slot_at since f.slot).feve ≡ f.feve) × ((slot_at since f.slot).seve ≡ f.seve)
  -- afterwards the registers of all are kept
  pub all : f.many ≡ true → (a : ℕ) → a < 31
      → (feve_in kept a ≡ (slot_at since a).feve) × (seve_in kept a ≡ (slot_at since a).seve)

-- nothing is sent if all slots are as they were
pub unsent : (ss : List Supply) → messages plain_supply ss ss ≡ []
unsent ss = messages_none plain_supply (length ss) ss ss (λ a h. unrung (slot_at ss a) (slot_at ss a) refl refl)

-- if only slot k has changed, its message is all that is sent
sent_one : (ss : List Supply) (k : ℕ) (x : Supply) → k < length ss → messages plain_supply ss (set ss k x) ≡ sends_by k (slot_at ss k).feve (slot_at ss k).seve x
sent_one ss k x low =
    messages_one plain_supply (length (set ss k x)) k ss (set ss k x) (omega (arith, low, length-set ss k x))
    (λ a ne. rw (get_or-set_other ss k a x (fresh 255) ne) (unrung (slot_at ss a) (slot_at ss a) refl refl))
    ∙ ap (λ (y : Supply). sends_by k (slot_at ss k).feve (slot_at ss k).seve y) (get_or-set_same ss k x (fresh 255) low)

-- with the registers of all kept, their messages are those from the slots that the field found
all_sent : (since ss : List Supply) (kept : List ℕ) (n : ℕ) → n ≤ 31
    → ((a : ℕ) → a < 31 → (feve_in kept a ≡ (slot_at since a).feve) × (seve_in kept a ≡ (slot_at since a).seve))
    → messages_by n kept ss ≡ messages_to plain_supply n since ss
all_sent since ss kept zero h same = refl
all_sent since ss kept (suc n) h same =
    let e = same n (omega (arith, h)) in
    rw (all_sent since ss kept n (omega (arith, h)) same, e.0, e.1) refl

module _ (since ss : List Supply) (f : Found) (kept : List ℕ) where
  -- what the field says when it ends is what the slots send
  said_all : length ss ≡ 31 → Noted since ss f kept → f.many ≡ true → messages_by 31 kept ss ≡ messages plain_supply since ss
  said_all size h e = rw size (all_sent since ss kept 31 (omega arith) (h.all e))

  said_one : length ss ≡ 31 → Noted since ss f kept → f.many ≡ false → sends_by f.slot f.feve f.seve (slot_at ss f.slot) ≡ messages plain_supply since ss
  said_one size h e =
      let was = h.found e in
      rw (size, ← was.0, ← was.1)
      (sym (messages_one plain_supply 31 f.slot since ss h.low (λ a ne. let o = h.others e a ne in unrung (slot_at since a) (slot_at ss a) o.0 o.1)))

  -- a field that begins has changed nothing yet
  begun : (k : ℕ) → k < 31 → since ≡ ss → Noted since ss (found_at k (slot_at ss k)) kept
  begun k low e =
      rw e
      (record { low = low; others = λ o a ne. (refl, refl); found = λ o. (refl, refl); all = λ o. absurd (false≢true o) })

  -- one that has changed no register so far may go on from any slot
  moved_on : (k : ℕ) → k < 31 → Noted since ss f kept → unchanged f (slot_at ss f.slot) ≡ true → Noted since ss (found_at k (slot_at ss k)) kept
  moved_on k low h e =
      record { low = low; others = λ o a ne. every a; found = λ o. every k; all = λ o. absurd (false≢true o) }
    where
      parts : (f.many ≡ false) × SameRegisters (slot_at ss f.slot) (slot_at since f.slot)
      parts =
          let was : Supply = slot_at ss f.slot in
          let b = (and-eq-true_iff (not f.many && eqb was.feve f.feve) (eqb was.seve f.seve)).0 e in
          let c = (and-eq-true_iff (not f.many) (eqb was.feve f.feve)).0 b.0 in
          let one : f.many ≡ false = not-true f.many c.0 in
          let old = h.found one in
          (one, (eqb-true was.feve f.feve c.1 ∙ sym old.0, eqb-true was.seve f.seve b.1 ∙ sym old.1))

      every : (a : ℕ) → SameRegisters (slot_at since a) (slot_at ss a)
      every a = by_place (eqb a f.slot) refl
        where
          by_place : (t : Bool) → eqb a f.slot ≡ t → SameRegisters (slot_at since a) (slot_at ss a)
          by_place true p = rw (eqb-true a f.slot p) (sym parts.1.0, sym parts.1.1)
          by_place false p = h.others parts.0 a (eqb-false a f.slot p)

  -- before the next bytes of a field, or of the next one
  pub noted_before : (left k : ℕ) → k < 31 → (left ≡ 0 → since ≡ ss) → (0 < left → Noted since ss f kept)
      → Noted since ss (pick (eqb left 0 || unchanged f (slot_at ss f.slot)) (found_at k (slot_at ss k)) f) kept
  noted_before left k low new old = by_tests (eqb left 0) refl (unchanged f (slot_at ss f.slot)) refl
    where
      by_tests : (b : Bool) → eqb left 0 ≡ b → (c : Bool) → unchanged f (slot_at ss f.slot) ≡ c → Noted since ss (pick (b || c) (found_at k (slot_at ss k)) f) kept
      by_tests true e c q = begun k low (new (eqb-true left 0 e))
      by_tests false e true q = moved_on k low (old (some (eqb-false left 0 e))) q
      by_tests false e false q = old (some (eqb-false left 0 e))

  module _ (h : Noted since ss f kept) (k : ℕ) (all : Bool) where
    -- once it changes a second slot, the registers of all are kept, whatever the slots become
    noted_left : (kept' : List ℕ) (ts : List Supply) → leaves_slot f k all ≡ true → Recorded kept' f ss → Noted since ts (gone f) kept'
    noted_left kept' ts e r =
        record {
          low = h.low;
          others = λ o. absurd (true≢false o);
          found = λ o. absurd (true≢false o);
          all = λ o a low. by_place a (r a low) (eqb a f.slot) refl;
        }
      where
        one : f.many ≡ false
        one = not-true f.many ((and-eq-true_iff (not f.many) (all || not (eqb k f.slot))).0 e).0

        by_place : (a : ℕ) → (feve_in kept' a ≡ pick (eqb a f.slot) f.feve (slot_at ss a).feve) × (seve_in kept' a ≡ pick (eqb a f.slot) f.seve (slot_at ss a).seve)
            → (t : Bool) → eqb a f.slot ≡ t → (feve_in kept' a ≡ (slot_at since a).feve) × (seve_in kept' a ≡ (slot_at since a).seve)
        by_place a q true p =
            let was = h.found one in
            let is : a ≡ f.slot = eqb-true a f.slot p in
            (q.0 ∙ rw p (sym was.0 ∙ rw is refl), q.1 ∙ rw p (sym was.1 ∙ rw is refl))
        by_place a q false p =
            let old = h.others one a (eqb-false a f.slot p) in
            (q.0 ∙ rw p (sym old.0), q.1 ∙ rw p (sym old.1))

    -- until then it changes that slot alone; afterwards nothing more is needed of the slots
    noted_stays : (x : Supply) (ts : List Supply) → (all ≡ false → ts ≡ set ss k x) → leaves_slot f k all ≡ false → Noted since ts f kept
    noted_stays x ts one e =
        record {
          low = h.low;
          others = λ o a ne. let b = both o in rw (one b.0, get_or-set_other ss k a x (fresh 255) (λ z. ne (z ∙ b.1))) (h.others o a ne);
          found = h.found;
          all = h.all;
        }
      where
        both : f.many ≡ false → (all ≡ false) × (k ≡ f.slot)
        both o = by_tests all refl (eqb k f.slot) refl (rw o at e)
          where
            by_tests : (c : Bool) → all ≡ c → (d : Bool) → eqb k f.slot ≡ d → (all || not (eqb k f.slot)) ≡ false → (all ≡ false) × (k ≡ f.slot)
            by_tests true n d q r = absurd (true≢false (rw n at r))
            by_tests false n true q r = (n, eqb-true k f.slot q)
            by_tests false n false q r = absurd (true≢false (rw (n, q) at r))

-- WHAT IS SAID AFTER A PIECE of a field that found the slots `since`, if the piece leaves the slots ss and `left` bytes of
-- the field: the messages if none is left, and otherwise nothing
pub record Rung (since ss : List Supply) (left : ℕ) (f : Found) (kept : List ℕ) (b : List ℕ) (at next : ℕ) (b' : List ℕ) : Type 0 where
  pub said : List ℕ
  pub put : Put b at said next b'
  pub ends : left ≡ 0 → said ≡ messages plain_supply since ss
  pub quiet : 0 < left → said ≡ []
  pub noted : 0 < left → Noted since ss f kept

module _ {b : List ℕ} {at next : ℕ} {b' : List ℕ} where
  -- placing nothing leaves the buffer and the index as they were
  pub put_nothing : Put b at [] next b' → (next ≡ at) × (b' ≡ b)
  put_nothing p = (p.next_is ∙ sym (put_none b at).next_is, p.bytes ∙ sym (put_none b at).bytes)

  -- after a field that reaches one slot and is worked in one piece
  pub rung_one : (ss : List Supply) (k : ℕ) (x : Supply) (f : Found) (kept : List ℕ) → k < length ss
      → Put b at (sends_by k (slot_at ss k).feve (slot_at ss k).seve x) next b'
      → Rung ss (set ss k x) 0 f kept b at next b'
  rung_one ss k x f kept low p =
      record { said = _; put = p; ends = λ e. sym (sent_one ss k x low); quiet = λ h. absurd (omega (arith, h)); noted = λ h. absurd (omega (arith, h)) }

  -- after serial bytes
  rung_serial : (since ss : List Supply) (left : ℕ) (f : Found) (kept said : List ℕ) → Noted since ss f kept → said ≡ messages plain_supply since ss
      → Put b at (pick (eqb left 0) said []) next b' → Rung since ss left f kept b at next b'
  rung_serial since ss left f kept said h e p =
      record {
        said = _;
        put = p;
        ends = λ z. rw (eq-eqb left 0 z) e;
        quiet = λ l. rw (ne_eqb left 0 (λ z. absurd (omega (arith, z, l)))) refl;
        noted = λ l. h;
      }

-- what a field has found and kept after its next bytes are judged: it leaves the slot that it has kept, or it does not
abbrev pub Judged : List Supply → Found → ℕ → Bool → List ℕ → Found → List ℕ → Type 0
Judged ss f k all kept f' kept' =
    ((leaves_slot f k all ≡ true) × (length kept ≡ 62 → Recorded kept' f ss) × (f' ≡ gone f))
    ⊎ ((leaves_slot f k all ≡ false) × (kept' ≡ kept) × (f' ≡ f))

-- and what is said after them, from all slots or from the one that it has kept
abbrev pub SaidBy : List Supply → Supply → ℕ → Found → List ℕ → List ℕ → ℕ → ℕ → List ℕ → Type 0
SaidBy ss z left f kept b at next b' =
    ((f.many ≡ true) × Put b at (pick (eqb left 0) (messages_by 31 kept ss) []) next b')
    ⊎ ((f.many ≡ false) × Put b at (pick (eqb left 0) (sends_by f.slot f.feve f.seve (get_or ss f.slot z)) []) next b')

pub judged_low : (ss : List Supply) (f : Found) (k : ℕ) (all : Bool) (kept : List ℕ) (f' : Found) (kept' : List ℕ) → f.slot < 31 → Judged ss f k all kept f' kept' → f'.slot < 31
judged_low ss f k all kept f' kept' low (inl x) = rw x.2 low
judged_low ss f k all kept f' kept' low (inr x) = rw x.2 low

pub judged_noted : (since ss ts : List Supply) (f : Found) (k : ℕ) (all : Bool) (kept : List ℕ) (f' : Found) (kept' : List ℕ) (x : Supply) → length kept ≡ 62 → (all ≡ false → ts ≡ set ss k x)
    → Noted since ss f kept → Judged ss f k all kept f' kept' → Noted since ts f' kept'
judged_noted since ss ts f k all kept f' kept' x size one h (inl j) = rw j.2 (noted_left since ss f kept h k all kept' ts j.0 (j.1 size))
judged_noted since ss ts f k all kept f' kept' x size one h (inr j) = rw (j.1, j.2) (noted_stays since ss f kept h k all x ts one j.0)

pub said_length : (ss : List Supply) (z : Supply) (left : ℕ) (f : Found) (kept b : List ℕ) (at next : ℕ) (b' : List ℕ) → SaidBy ss z left f kept b at next b' → length b' ≡ length b
said_length ss z left f kept b at next b' (inl x) = put_length x.1
said_length ss z left f kept b at next b' (inr x) = put_length x.1

pub rung_said : (since ss : List Supply) (z : Supply) (left : ℕ) (f : Found) (kept b : List ℕ) (at next : ℕ) (b' : List ℕ) → length ss ≡ 31 → Noted since ss f kept
    → SaidBy ss z left f kept b at next b' → Rung since ss left f kept b at next b'
rung_said since ss z left f kept b at next b' size h (inl x) = rung_serial since ss left f kept (messages_by 31 kept ss) h (said_all since ss f kept size h x.0) x.1
rung_said since ss z left f kept b at next b' size h (inr x) =
    let here = get_d_any ss f.slot z (fresh 255) (omega (arith, h.low, size)) in
    rung_serial since ss left f kept (sends_by f.slot f.feve f.seve (slot_at ss f.slot)) h (said_one since ss f kept size h x.0) (rw here at x.1)
