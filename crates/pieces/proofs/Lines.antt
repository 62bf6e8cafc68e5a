-- What the parts of the code give makes a piece: serial bytes up to the end of a line or of their field.
use Prim.Native.Nat.{ℕ, ◌+◌, ◌-◌, ◌≤◌, ◌<◌}
use mathlib.Core.Path.{◌≡◌, refl, sym, ap, ◌∙◌}
use mathlib.Core.Logic.{inl, inr}
use mathlib.Core.Bool.{Bool, true, false}
use mathlib.Core.List.{List, [], ◌∷◌, ◌++◌, map, map-append, append-nil}
use native.Mathlib.Numerals.{add-one}
use native.Mathlib.Nat.{zero-add}
use native.Mathlib.Omega.{arith}
use lib.Dec.{ltb}
use Rattle.std.specs.Prelude.{Option, Some, None}
use lib.ListN.{length, get_or, set, take, drop}
use lib.Seq.{take-suc, take-take, take-add, drop-drop, length-take-le}
use borrow.Author.Tests.{lt-ltb}
use Rattle.base.specs.Choice.{pick}
use Rattle.base.specs.Lists.{each_to}
use Rattle.base.proofs.Lists.{set_same}
use Rattle.base.proofs.Put.{put_none}
use Rattle.wire.specs.declared.Setup.{Setup}
use Rattle.wire.specs.Wire.{Sent, byte, accept, fitted, quiet, followed, scan, char_on, byte_on}
use Rattle.wire.proofs.ForCode.{scan_more}
use Rattle.supply.specs.declared.Supply.{Supply}
use Rattle.supply.specs.declared.Order.{Order}
use Rattle.supply.specs.declared.Order.TheVariants.{Cls}
use Rattle.supply.specs.State.{fresh}
use Rattle.field.specs.Fields.{tag_of, length_of, payload_of, header_code}
use Rattle.field.proofs.Laws.{serial_length, header_good, payload_length, read_serial}
use Rattle.globals.specs.Globals.{ordered_at}
use Rattle.protocol.specs.SentBack.{Sized}
use Rattle.serial.specs.declared.Line.{Line}
use Rattle.serial.specs.View.{wire_of}
use Rattle.plain.specs.Plain.{grammar}
use Rattle.slots.specs.declared.Ended.{Ended}
use Rattle.slots.specs.View.{rack_is, Moves, Fair, cleared_to, EndsLine, ended_by}
use Rattle.slots.proofs.Runs.{moves_then, fair_then}
use Rattle.slots.proofs.Fairness.{ended_fair}
use Rattle.chars.specs.Chars.{Typing, CharsTaken, FeedDoes}
use Rattle.addressed.specs.Pieces.{After, Does, PieceDoes}
use Rattle.pieces.specs.Lines.{for_all, order_told, LineDoes}

pub feed_within : (p : List ℕ) (i r : ℕ) → FeedDoes p i r → i ≤ length p → (i ≤ r) × (r ≤ length p)
feed_within p i r (inl e) h = (omega (arith, e.0), omega (arith, e.0, h))
feed_within p i r (inr e) h = (omega (arith, e.0), omega (arith, e.0, e.1))

-- an LF after serial bytes changes nothing
module _ (u : Setup) (l : Line) (p : List ℕ) (i : ℕ) (h : i < length p) (lf : get_or p i 0 ≡ 10) where
  feed_quiet : (s : Sent) → followed s (byte_on grammar u s.wire 10) ≡ s
  unfolding byte_on char_on
  feed_quiet s = rw append-nil refl

  feed_sent : scan grammar u (wire_of l) (map byte (take (i + 1) p)) ≡ scan grammar u (wire_of l) (map byte (take i p))
  feed_sent =
      rw (add-one, take-suc p i 0 h, lf, map-append byte (take i p) (10 ∷ []), scan_more grammar u (wire_of l) (map byte (take i p)) (byte 10))
      (feed_quiet (scan grammar u (wire_of l) (map byte (take i p))))

  pub feed_does : (x : Supply) (a : ℕ) (r : After) (b : List ℕ) (at : ℕ) (b' : List ℕ) → Does u l x a (map byte (take i p)) i r b at b' → Does u l x a (map byte (take (i + 1) p)) (i + 1) r b at b'
  feed_does x a r b at b' d ss k there reach short wide small =
      let g = d ss k there reach short wide small in
      record { moves = rw feed_sent g.moves; fair = record { fair = rw feed_sent (omega (arith, g.fair.fair)) } }

module _ (u : Setup) (l : Line) (s : Supply) (p : List ℕ) (head : ℕ) (b : List ℕ) (at : ℕ) (j : ℕ) (m : Line) (d : CharsTaken l p j m) where
  -- characters change only the line
  typed_moves : (ss : List Supply) → Typing l p j m → Moves (rack_is ss l u) (quiet (wire_of m)) (rack_is ss m u) b at at b
  typed_moves ss t = record { small = t.small; view = refl; said = put_none b at }

  typed_fair : (ss : List Supply) → Typing l p j m → Fair (rack_is ss l u) (quiet (wire_of m)) j
  typed_fair ss t = record { fair = omega (arith, t.grows) }

  -- no line ends
  pub no_line : j ≡ length p → LineDoes u l s p head (record { line = m; supply = s; next = at; used = head + j; left = 0; code = 0; all = false; order = Cls }) b at b
  no_line n =
      record {
        taken = j;
        used_is = refl;
        left_is = omega (arith, n);
        some = λ h. omega (arith, n);
        code_is = refl;
        does = λ ss k there reach short wide h.
            let t = d.typed wide h in
            rw (set_same ss k s (fresh 255) there) (record { moves = rw (t.scans grammar u) (typed_moves ss t); fair = rw (t.scans grammar u) (typed_fair ss t) });
      }

  -- a line ends
  module _ (n : j ≡ length p → ⊥) where
    less : j < length p
    less = omega (arith, d.within, n)

    -- what the line hands out at its CR
    abbrev ends : List Supply → Sent
    ends ss = ended_by (rack_is ss m u)

    ends_with : (t : Typing l p j m) (ss : List Supply) → scan grammar u (wire_of l) (map byte (take (j + 1) p)) ≡ followed (quiet (wire_of m)) (ends ss)
    unfolding byte_on
    ends_with t ss =
        rw (add-one, take-suc p j 0 less, d.stops less, map-append byte (take j p) (13 ∷ []), scan_more grammar u (wire_of l) (map byte (take j p)) (byte 13), t.scans grammar u) refl

    module _ (e : Ended) (b' : List ℕ) (z : Sized s) (g : EndsLine u m s e b at b') where
      -- what it leaves, however many bytes it had
      abbrev ended : ℕ → ℕ → After
      ended used left = record { line = cleared_to m e.selected; supply = e.supply; next = e.next; used = used; left = left; code = 0; all = for_all e.order; order = order_told e.order }

      end_does : (used left : ℕ) → Does u l s l.selected (map byte (take (j + 1) p)) (j + 1) (ended used left) b at b'
      end_does used left ss k there reach short wide h =
          let t : Typing l p j m = d.typed wide h in
          let here : fitted u m.selected ≡ true → k ≡ m.selected = λ fit. reach (rw t.selects at fit) ∙ sym t.selects in
          record {
            moves = rw (ends_with t ss) (moves_then (rack_is ss l u) (rack_is ss m u) (quiet (wire_of m)) refl (ends ss) _ b at at b _ b' (typed_moves ss t) (by_order ss k there here short e.order refl));
            fair = rw (ends_with t ss) (fair_then (rack_is ss l u) (rack_is ss m u) (quiet (wire_of m)) refl (ends ss) j 1 (typed_fair ss t) (ended_fair (rack_is ss m u) s z (λ fit. let q : k ≡ m.selected = here fit in rw q at there)));
          }
        where
          by_order : (ss : List Supply) (k : ℕ) → s ≡ get_or ss k (fresh 255) → (fitted u m.selected ≡ true → k ≡ m.selected) → length ss ≤ 31 → (o : Option Order) → e.order ≡ o
              → Moves (rack_is ss m u) (ends ss) (rack_is (pick (for_all o) (each_to (ordered_at u (order_told o)) 31 ss) (set ss k e.supply)) (cleared_to m e.selected) u) b at e.next b'
          by_order ss k there here short (Some o) q = g.1 o q ss short
          by_order ss k there here short None q = g.0 q ss k there here

      line_does : (i : ℕ) → j < i → i ≤ length p → Does u l s l.selected (map byte (take i p)) i (ended (head + i) (length p - i)) b at b' → LineDoes u l s p head (ended (head + i) (length p - i)) b at b'
      line_does i low high does = record { taken = i; used_is = refl; left_is = omega (arith, high); some = λ h. omega (arith, low); code_is = refl; does = does }

      pub one_line : (i : ℕ) → FeedDoes p (j + 1) i → LineDoes u l s p head (ended (head + i) (length p - i)) b at b'
      one_line i (inl q) = rw q.0 (line_does (j + 1) (omega arith) (omega (arith, less)) (end_does (head + (j + 1)) (length p - (j + 1))))
      one_line i (inr q) =
          rw q.0
          (line_does (j + 1 + 1) (omega arith) (omega (arith, q.1)) (feed_does u l p (j + 1) q.1 q.2 s l.selected (ended (head + (j + 1 + 1)) (length p - (j + 1 + 1))) b at b' (end_does (head + (j + 1 + 1)) (length p - (j + 1 + 1)))))

-- serial bytes of which some are taken and some are left
left_over : (s : List ℕ) (head taken left n : ℕ) → taken + left ≡ n
    → map byte (take n (drop head s)) ≡ map byte (take taken (take n (drop head s))) ++ map byte (take left (drop (head + taken) s))
left_over s head taken left n e =
    rw (← e, take-take taken (taken + left) (drop head s) (omega arith), take-add taken left (drop head s), map-append byte (take taken (drop head s)) (take left (drop taken (drop head s))), drop-drop taken head s) refl

module _ (u : Setup) (l : Line) (x : Supply) (s b : List ℕ) (at : ℕ) where
  module _ (r : After) where
    -- more of a field that was begun
    pub begun : (left : ℕ) (b' : List ℕ) → 0 < left → left ≤ length s → LineDoes u l x (take left s) 0 r b at b' → PieceDoes u l x l.selected s left r b at b'
    begun left b' h within d =
        let t : ltb 0 left ≡ true = lt-ltb 0 left h in
        let n : length (take left s) ≡ left = length-take-le left s within in
        let used : r.used ≡ d.taken = d.used_is ∙ zero-add d.taken in
        let all : r.used + r.left ≡ left = omega (arith, used, d.left_is, n) in
        inr
        (record {
          items = map byte (take d.taken (take left s));
          taken = d.taken;
          reads = rw (t, all, d.used_is) (ap (accept left) (left_over s 0 d.taken r.left left (d.left_is ∙ n)));
          within = omega (arith, all, within);
          begun = λ q. all;
          some = omega (arith, used, d.some (omega (arith, n, h)));
          code_is = d.code_is;
          short = rw t (omega (arith, d.left_is, n));
          does = d.does;
        })

    -- the first serial bytes of a field
    pub first_line : (b' : List ℕ) → header_code s ≡ 0 → tag_of s ≡ 1 → LineDoes u l x (payload_of s) 3 r b at b' → PieceDoes u l x l.selected s 0 r b at b'
    first_line b' good t d =
        let n : length (payload_of s) ≡ length_of s = payload_length s good in
        let all : r.used + r.left ≡ 3 + length_of s = omega (arith, d.used_is, d.left_is, n) in
        let sized = serial_length (length_of s) (rw t at (header_good s good).3) in
        inr
        (record {
          items = map byte (take d.taken (payload_of s));
          taken = d.taken;
          reads = rw (all, d.used_is) (read_serial (fitted u) s good t ∙ ap (accept (3 + length_of s)) (left_over s 3 d.taken r.left (length_of s) (d.left_is ∙ n)));
          within = omega (arith, all, (header_good s good).0);
          begun = λ q. absurd (omega (arith, q));
          some = omega (arith, d.used_is);
          code_is = d.code_is;
          short = omega (arith, d.left_is, n, sized.1);
          does = d.does;
        })
