-- The loop of a program: each cycle continues the cycles before it; a field that waits for more bytes is short, so a
-- read has room; and the reads that may be made and the bytes that are left decrease.
use Prim.Native.Nat.{ℕ, ◌+◌, ◌-◌, ◌*◌, ◌≤◌, ◌<◌}
use mathlib.Core.Path.{◌≡◌, refl, sym, ap, ◌∙◌}
use mathlib.Core.Bool.{Bool, true, false, ◌&&◌, ◌||◌, and-eq-true_iff}
use mathlib.Core.List.{List, [], ◌++◌, map, append-nil}
use native.Mathlib.Omega.{arith}
use lib.Dec.{eqb, ltb}
use lib.ListN.{length, take, drop, take-append-drop, length-drop}
use lib.Seq.{drop-drop, length-take-le}
use borrow.Author.Tests.{eqb-true, eqb-false, eq-eqb, ne_eqb, ltb-true}
use Rattle.base.specs.Choice.{bit}
use Rattle.buffers.specs.Printed.{printed}
use Rattle.wire.specs.Rack as wire
use Rattle.supply.specs.declared.Supply.{Supply}
use Rattle.engine.specs.Engine.{ran, fields_on}
use Rattle.engine.proofs.Cycles.{cycle_within, cycle_spends, cycle_all, all_ended}
use Rattle.console.specs.Mendable.{mendable}
use Rattle.splits.specs.Splits.{Waits}
use Rattle.splits.proofs.Splits.{waits_is, waiting_short}
use Rattle.stream.specs.declared.Block.{Block}
use Rattle.stream.specs.Stream.{unworked, Refilled, goes_on, Cycles, none_yet, cycle_on}

-- where the loop stands: the cycles that were made, and that it goes on only if no field was refused or if bytes may be
-- read
pub record At (v q : wire.Rack Supply) (room : List ℕ) (b : Block) (code : ℕ) (more : Bool) : Type 0 where
  pub low : b.from ≤ b.end
  pub high : b.end ≤ length room
  pub goes : more ≡ true → (code ≡ 0 → ⊥) → (length (unworked room b) ≤ 18) × (0 < b.reads)
  pub read : List ℕ
  pub handed : List ℕ
  pub cycles : Cycles v 10 read (unworked room b) handed q code

pub at_start : (v : wire.Rack Supply) (room : List ℕ) (b : Block) → b ≡ record { from = 0; end = 0; brought = true; failed = false; reads = 18446744073709551615 } → At v v room b 2 true
at_start v room b e =
    rw e (record { low = omega arith; high = omega arith; goes = λ t z. (omega arith, omega arith); read = []; handed = []; cycles = none_yet })

by_code : {A : Type 0} (code : ℕ) → (code ≡ 0 → A) → ((code ≡ 0 → ⊥) → A) → A
by_code {A = A} code f g = by_test (eqb code 0) refl
  where
    by_test : (t : Bool) → eqb code 0 ≡ t → A
    by_test true e = f (eqb-true code 0 e)
    by_test false e = g (eqb-false code 0 e)

-- what a read needs
pub has_room : {v q : wire.Rack Supply} {room : List ℕ} {b : Block} {code : ℕ} → At v q room b code true → length room ≡ 8192 → (code ≡ 0 → ⊥) → (length (unworked room b) < length room) × (0 < b.reads)
has_room g long z = (omega (arith, long, (g.goes refl z).0), (g.goes refl z).1)

abbrev Refills : ℕ → List ℕ → List ℕ → Block → Block → Type 0
Refills code room room' b n = (code ≡ 0 → (n ≡ b) × (room' ≡ room)) × ((code ≡ 0 → ⊥) → Refilled (unworked room b) room' b n)

-- the bytes for the next cycle: the kept ones, and some after them
record Ready (room room' : List ℕ) (b n : Block) : Type 0 where
  pub low : n.from ≤ n.end
  pub high : n.end ≤ length room'
  pub new : List ℕ
  pub is : unworked room' n ≡ unworked room b ++ new

module _ {v q : wire.Rack Supply} {room room' : List ℕ} {b n : Block} {code : ℕ} (g : At v q room b code true) (f : Refills code room room' b n) where
  ready : Ready room room' b n
  ready = by_code code same more
    where
      same : code ≡ 0 → Ready room room' b n
      same z = let e = f.0 z in rw (e.0, e.1) (record { low = g.low; high = g.high; new = []; is = sym (append-nil _) })

      more : (code ≡ 0 → ⊥) → Ready room room' b n
      more z =
          let d = f.1 z in
          let all : List ℕ = take n.end room' in
          let kept : List ℕ = unworked room b in
          record {
            low = omega (arith, d.from_is);
            high = d.within;
            new = drop (length kept) all;
            is = rw d.from_is (sym (take-append-drop (length kept) all) ∙ ap (λ (l : List ℕ). l ++ drop (length kept) all) d.first);
          }

-- the block after a cycle that used k bytes
abbrev pub past : Block → ℕ → Block
past n k = record { from = n.from + k; end = n.end; brought = n.brought; failed = n.failed; reads = n.reads }

goes_by : (sent : Bool) (code : ℕ) (n : Block) → goes_on sent code (mendable code) n ≡ true → (code ≡ 0 → ⊥) → Waits code × (0 < n.reads)
goes_by sent code n t z =
    let either = ((and-eq-true_iff sent _).0 t).1 in
    let both = (and-eq-true_iff ((eqb code 2 || eqb code 5) && n.brought) (ltb 0 n.reads)).0 (rw (ne_eqb code 0 z) at either) in
    (waits_is code ((and-eq-true_iff (eqb code 2 || eqb code 5) n.brought).0 both.0).0, ltb-true 0 n.reads both.1)

-- the loop ends: a read leaves fewer reads, and a cycle after one that was not refused leaves fewer bytes
abbrev pub weight : Block → ℕ → ℕ
weight b code = b.reads * 8194 + (b.end - b.from + bit (eqb code 0))

weighs_less : (b n : Block) (code k after : ℕ) → b.from ≤ b.end → n.end ≤ 8192
    → ((code ≡ 0 → ⊥) → 0 < b.reads) → (code ≡ 0 → n ≡ b) → ((code ≡ 0 → ⊥) → n.reads ≡ b.reads - 1) → n.from + k ≤ n.end → (after ≡ 0 → 0 < k)
    → weight (past n k) after < weight b code
weighs_less b n code k after low high some same fewer within spends = by_code code (λ z. rw (eq-eqb code 0 z) (by_after z (eqb after 0) refl)) (λ z. rw (ne_eqb code 0 z) (less z (eqb after 0)))
  where
    by_after : code ≡ 0 → (t : Bool) → eqb after 0 ≡ t → n.reads * 8194 + (n.end - (n.from + k) + bit t) < b.reads * 8194 + (b.end - b.from + 1)
    by_after z t e =
        let same_reads : n.reads ≡ b.reads = ap (λ (x : Block). x.reads) (same z) in
        let same_end : n.end ≡ b.end = ap (λ (x : Block). x.end) (same z) in
        let same_from : n.from ≡ b.from = ap (λ (x : Block). x.from) (same z) in
        rw same_reads (by_test same_end same_from t e)
      where
        by_test : n.end ≡ b.end → n.from ≡ b.from → (t : Bool) → eqb after 0 ≡ t → b.reads * 8194 + (n.end - (n.from + k) + bit t) < b.reads * 8194 + (b.end - b.from + 1)
        by_test x y true d = omega (arith, x, y, spends (eqb-true after 0 d))
        by_test x y false d = omega (arith, x, y)

    less : (code ≡ 0 → ⊥) → (t : Bool) → n.reads * 8194 + (n.end - (n.from + k) + bit t) < b.reads * 8194 + (b.end - b.from + 0)
    less z true = omega (arith, some z, fewer z, high)
    less z false = omega (arith, some z, fewer z, high)

-- ONE MORE CYCLE: what refill and the cycle after it leave
pub record OneCycle (v p : wire.Rack Supply) (room : List ℕ) (b n : Block) (code k after : ℕ) (sent : Bool) : Type 0 where
  pub within : n.from + k ≤ n.end
  pub less : weight (past n k) after < weight b code
  pub at : At v p room (past n k) after (goes_on sent after (mendable after) (past n k))
  pub sends : goes_on sent after (mendable after) (past n k) ≡ true → sent ≡ true

module _ {v q : wire.Rack Supply} {room room' : List ℕ} {b n : Block} {code : ℕ} (g : At v q room b code true) (f : Refills code room room' b n) (long : length room' ≡ 8192)
    (p : wire.Rack Supply) (k : ℕ) (said : List ℕ) (after : ℕ) (stop : ℕ → Bool) (e : ran p k said after ≡ fields_on stop q (unworked room' n)) where
  abbrev s : List ℕ
  s = unworked room' n

  y : Ready room room' b n
  y = ready g f

  within : k ≤ length s
  within = omega (arith, cycle_within s q p 0 k [] said after stop (omega arith) e)

  inside : n.from + k ≤ n.end
  inside = omega (arith, within, length-drop n.from (take n.end room'), length-take-le n.end room' y.high, y.low)

  left : unworked room' (past n k) ≡ drop k s
  left = sym (drop-drop k n.from (take n.end room'))

  short : (after ≡ 0 → ⊥) → Waits after → length (unworked room' (past n k)) ≤ 18
  short z w = rw left (waiting_short p (drop k s) after (all_ended s [] q p k said after (cycle_all s [] q p k said after stop e z)) w)

  pub a_cycle : (sent : Bool) → OneCycle v p room' b n code k after sent
  a_cycle sent =
      record {
        within = inside;
        less = weighs_less b n code k after g.low (omega (arith, y.high, long)) (λ z. (g.goes refl z).1) (λ z. (f.0 z).0) (λ z. (f.1 z).reads_is) inside (cycle_spends s q p 0 k [] said after stop (omega arith) e);
        at =
            record {
              low = inside;
              high = y.high;
              goes = λ t z. let w = goes_by sent after (past n k) t z in (short z w.0, w.1);
              read = g.read ++ y.new;
              handed = g.handed ++ map (printed 10) said;
              cycles = rw (left, y.is) (cycle_on g.read (unworked room b) g.handed q code g.cycles y.new stop p k said after (e ∙ ap (fields_on stop q) y.is));
            };
        sends = λ t. ((and-eq-true_iff sent _).0 t).0;
      }

-- the same, of the bytes as a program takes them: those before the end of its room, and of these the ones not worked
pub one_more : {v q : wire.Rack Supply} {room room' : List ℕ} {b n : Block} {code : ℕ} {more : Bool} → At v q room b code more → more ≡ true
    → (code ≡ 0 → (n ≡ b) × (room' ≡ room)) × ((code ≡ 0 → ⊥) → Refilled (unworked room b) room' b n) → length room' ≡ 8192
    → (there rest : List ℕ) → there ≡ take n.end room' → rest ≡ drop n.from there
    → (p : wire.Rack Supply) (k : ℕ) (said : List ℕ) (after : ℕ) (stop : ℕ → Bool) → ran p k said after ≡ fields_on stop q rest
    → (sent : Bool) → OneCycle v p room' b n code k after sent
one_more g m f long there rest t r p k said after stop e =
    a_cycle (rw m at g) f long p k said after stop (e ∙ ap (fields_on stop _) (r ∙ ap (drop _) t))
