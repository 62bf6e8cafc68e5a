-- The registers kept as bytes, slot after slot, and the messages that they lead to.
use Prim.Native.Nat.{ℕ, ◌+◌, ◌<◌}
use mathlib.Core.Path.{◌≡◌, refl, ◌∙◌}
use mathlib.Core.Bool.{Bool, true, false}
use mathlib.Core.List.{List}
use native.Mathlib.Omega.{arith}
use native.Mathlib.Numerals.{add-one}
use lib.Dec.{eqb}
use lib.ListN.{length, set, length-set}
use lib.Seq.{get_or-set_same, get_or-set_other}
use borrow.Author.Tests.{eqb-true, eqb-false}
use Rattle.base.specs.Choice.{pick}
use Rattle.base.specs.Put.{Put}
use Rattle.base.proofs.Put.{put_then}
use Rattle.supply.specs.declared.Supply.{Supply}
use Rattle.messages.specs.declared.Found.{Found}
use Rattle.messages.specs.Messages.{feve_in, seve_in, slot_at, sends_by, messages_by, Recorded}

-- an array's element past its end, as the code has it
abbrev pub unset : Supply
unset =
    record {
      pv = 0;
      pc = 0;
      ovp = 0;
      uvl = 0;
      want = false;
      armed = false;
      ast = false;
      mode = 0;
      lines = 0;
      fold_trip = false;
      ovp_trip = false;
      fena = 0;
      feve = 0;
      sena = 0;
      seve = 0;
      cv_seen = false;
      volt_count = 0;
      amp_count = 0;
    }

-- the registers of the first i slots are kept
pub record KeptTo (i : ℕ) (b : List ℕ) (ss : List Supply) : Type 0 where
  pub kept : (a : ℕ) → a < i → (feve_in b a ≡ (slot_at ss a).feve) × (seve_in b a ≡ (slot_at ss a).seve)

-- two bytes stored, one in each half
abbrev stored : List ℕ → ℕ → ℕ → ℕ → List ℕ
stored b i x y = set (set b i x) (31 + i) y

module _ (b : List ℕ) (i x y : ℕ) (low : i < 31) (size : length b ≡ 62) where
  stored_here : (feve_in (stored b i x y) i ≡ x) × (seve_in (stored b i x y) i ≡ y)
  stored_here = (
    get_or-set_other (set b i x) (31 + i) i y 0 (λ e. absurd (omega (arith, e))) ∙ get_or-set_same b i x 0 (omega (arith, low, size)),
    get_or-set_same (set b i x) (31 + i) y 0 (rw length-set (omega (arith, low, size))),
  )

  stored_other : (a : ℕ) → a < 31 → (a ≡ i → ⊥) → (feve_in (stored b i x y) a ≡ feve_in b a) × (seve_in (stored b i x y) a ≡ seve_in b a)
  stored_other a h ne = (
    get_or-set_other (set b i x) (31 + i) a y 0 (λ e. absurd (omega (arith, e, h))) ∙ get_or-set_other b i a x 0 ne,
    get_or-set_other (set b i x) (31 + i) (31 + a) y 0 (λ e. ne (omega (arith, e))) ∙ get_or-set_other b i (31 + a) x 0 (λ e. absurd (omega (arith, e, low))),
  )

pub kept_none : (b : List ℕ) (ss : List Supply) → KeptTo 0 b ss
kept_none b ss = record { kept = λ a h. absurd (omega (arith, h)) }

pub kept_more : (i : ℕ) (b : List ℕ) (ss : List Supply) (x y : ℕ) → i < 31 → length b ≡ 62 → KeptTo i b ss
    → x ≡ (slot_at ss i).feve → y ≡ (slot_at ss i).seve → KeptTo (i + 1) (stored b i x y) ss
kept_more i b ss x y low size h ex ey = record { kept = λ a l. by_place a l (eqb a i) refl }
  where
    by_place : (a : ℕ) → a < i + 1 → (t : Bool) → eqb a i ≡ t → (feve_in (stored b i x y) a ≡ (slot_at ss a).feve) × (seve_in (stored b i x y) a ≡ (slot_at ss a).seve)
    by_place a l true e =
        let is : a ≡ i = eqb-true a i e in
        let s = stored_here b i x y low size in
        rw is (s.0 ∙ ex, s.1 ∙ ey)
    by_place a l false e =
        let ne : a ≡ i → ⊥ = eqb-false a i e in
        let s = stored_other b i x y low size a (omega (arith, l, low)) ne in
        let k = h.kept a (omega (arith, l, ne)) in
        (s.0 ∙ k.0, s.1 ∙ k.1)

pub kept_all : (b : List ℕ) (ss : List Supply) (f : Found) → f.slot < 31 → length b ≡ 62 → KeptTo 31 b ss → Recorded (stored b f.slot f.feve f.seve) f ss
kept_all b ss f low size h a l = by_place (eqb a f.slot) refl
  where
    by_place : (t : Bool) → eqb a f.slot ≡ t
        → (feve_in (stored b f.slot f.feve f.seve) a ≡ pick t f.feve (slot_at ss a).feve)
        × (seve_in (stored b f.slot f.feve f.seve) a ≡ pick t f.seve (slot_at ss a).seve)
    by_place true e =
        let s = stored_here b f.slot f.feve f.seve low size in
        rw (eqb-true a f.slot e) s
    by_place false e =
        let s = stored_other b f.slot f.feve f.seve low size a l (eqb-false a f.slot e) in
        let k = h.kept a l in
        (s.0 ∙ k.0, s.1 ∙ k.1)

-- one more slot's message
pub put_next : (kept : List ℕ) (ss : List Supply) (i : ℕ) {b : List ℕ} {at : ℕ} {p : ℕ} {b₁ : List ℕ} {q : ℕ} {b₂ : List ℕ}
    → Put b at (messages_by i kept ss) p b₁ → Put b₁ p (sends_by i (feve_in kept i) (seve_in kept i) (slot_at ss i)) q b₂
    → Put b at (messages_by (i + 1) kept ss) q b₂
put_next kept ss i f g = rw add-one (put_then f g)
