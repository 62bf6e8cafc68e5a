-- The parts that the code places are together the whole reply.
use Prim.Native.Nat.{ℕ, ◌+◌, ◌-◌, ◌/◌, ◌%◌, ◌<◌}
use mathlib.Core.Path.{◌≡◌, refl}
use mathlib.Core.List.{List, [], ◌∷◌, ◌++◌}
use mathlib.Core.Bool.{Bool, true, false}
use native.Mathlib.Omega.{arith}
use lib.Dec.{leb}
use lib.ListN.{length, take, drop, length-take}
use borrow.Author.Tests.{eq-eqb, ne_eqb, leb-true, leb-false}
use Rattle.base.specs.Put.{Put}
use Rattle.base.specs.Text.{codes}
use Rattle.base.proofs.Put.{put_then, put_full, put_full_is, put_there, put_length}
use Rattle.prints.specs.Figure.{figure}
use Rattle.hexadecimal.specs.Hex.{hex_digit, hex_pair, checksum}
use Rattle.supply.specs.declared.Status.{Status}
use Rattle.texts.specs.Texts.{code_text, status_text, ending, reply_of}

module _ {b : List ℕ} {at : ℕ} (c : ℕ) where
  pub put_ok : c ≡ 0 → {p : ℕ} {b' : List ℕ} → Put b at (codes "OK") p b' → Put b at (code_text c) p b'
  unfolding code_text
  put_ok e f = rw (eq-eqb c 0 e) f

  pub put_three :
      (c ≡ 0 → ⊥) → (h l : ℕ) → h ≡ hex_digit (c / 16) → l ≡ hex_digit (c % 16)
      → {p : ℕ} {b₁ : List ℕ} {q : ℕ} {b₂ : List ℕ} {r : ℕ} {b₃ : List ℕ}
      → Put b at (h ∷ []) p b₁ → Put b₁ p (48 ∷ []) q b₂ → Put b₂ q (l ∷ []) r b₃ → Put b at (code_text c) r b₃
  unfolding code_text
  put_three e h l eh el f g i = rw (ne_eqb c 0 e, ← eh, ← el) (put_then f (put_then g i))

-- the seven parts of a status
pub put_parts :
    {b : List ℕ} {at : ℕ} (t : Status)
    → {p₁ : ℕ} {b₁ : List ℕ} → Put b at (codes "MV(" ++ figure 4 t.volts) p₁ b₁
    → {p₂ : ℕ} {b₂ : List ℕ} → Put b₁ p₁ (codes "),PV(" ++ figure 4 t.pv) p₂ b₂
    → {p₃ : ℕ} {b₃ : List ℕ} → Put b₂ p₂ (codes "),MC(" ++ figure 3 t.amps) p₃ b₃
    → {p₄ : ℕ} {b₄ : List ℕ} → Put b₃ p₃ (codes "),PC(" ++ figure 3 t.pc) p₄ b₄
    → {p₅ : ℕ} {b₅ : List ℕ} → Put b₄ p₄ (codes "),SR(" ++ hex_pair t.stat) p₅ b₅
    → {p₆ : ℕ} {b₆ : List ℕ} → Put b₅ p₅ (codes "),FR(" ++ hex_pair t.flt) p₆ b₆
    → {p₇ : ℕ} {b₇ : List ℕ} → Put b₆ p₆ (codes ")") p₇ b₇
    → Put b at (status_text t) p₇ b₇
unfolding status_text
put_parts t mv pv mc pc sr fr end =
    put_then (put_then (put_then (put_then (put_then (put_then mv pv) mc) pc) sr) fr) end

module _ {b : List ℕ} {at : ℕ} (t : Bool) (xs : List ℕ) where
  pub put_bare_end : t ≡ false → {q : ℕ} {b' : List ℕ} → Put b at (13 ∷ []) q b' → Put b at (ending t xs) q b'
  unfolding ending
  put_bare_end e f = rw e f

  pub put_checksummed_end :
      t ≡ true → (x : ℕ) → x ≡ checksum xs
      → {p : ℕ} {b₁ : List ℕ} {q : ℕ} {b₂ : List ℕ} {r : ℕ} {b₃ : List ℕ}
      → Put b at (36 ∷ []) p b₁ → Put b₁ p (hex_pair x) q b₂ → Put b₂ q (13 ∷ []) r b₃ → Put b at (ending t xs) r b₃
  unfolding ending
  put_checksummed_end e x ex f g h = rw (e, ← ex) (put_then f (put_then g h))

-- a text and its ending are the reply: with room, the checksum covers the whole text; without room, no ending is placed
pub put_reply :
    {b : List ℕ} {at : ℕ} (t : Bool) (xs : List ℕ) {p : ℕ} {b₁ : List ℕ} {q : ℕ} {b₂ : List ℕ}
    → Put b at xs p b₁ → Put b₁ p (ending t (take (p - at) (drop at b₁))) q b₂ → Put b at (reply_of t xs) q b₂
put_reply {b} {at} t xs {p} {b₁} {q} {b₂} f g = by_room (leb (at + length xs) (length b)) refl
  where
    by_room : (r : Bool) → leb (at + length xs) (length b) ≡ r → Put b at (reply_of t xs) q b₂
    by_room true e = put_then f (rw (put_there f (leb-true (at + length xs) (length b) e)) at g)
    by_room false e =
        let s : length b < at + length xs = leb-false (at + length xs) (length b) e in
        let l = length-take (length b - at) xs in
        let z = put_full_is g (omega (arith, f.next_is, put_length f)) in
        rw (z.0, z.1) (put_then f (put_full b₁ p (ending t xs) (omega (arith, f.next_is, put_length f))))
