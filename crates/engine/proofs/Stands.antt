-- Where the loop over pieces stands, and that one more piece keeps it there.
use Prim.Native.Nat.{ℕ, zero, suc, ◌+◌, ◌-◌, ◌*◌, ◌≤◌, ◌<◌}
use mathlib.Core.Path.{◌≡◌, refl, sym, ap, subst, ◌∙◌}
use mathlib.Core.Logic.{inl, inr}
use mathlib.Core.Bool.{Bool, true, false, true≢false, ◌&&◌, ◌||◌, not, and-eq-true_iff}
use mathlib.Core.List.{List, [], ◌++◌, map, append-nil}
use native.Mathlib.Omega.{arith}
use native.Mathlib.Nat.{add-zero, zero-add}
use lib.Dec.{ltb, eqb}
use lib.Seq.{drop-drop}
use lib.ListN.{length, get_or, set, take, drop, length-append, length-drop, length-set, length-take}
use borrow.Author.Tests.{ltb-true, ltb-false, eqb-true, ne_eqb}
use Rattle.base.specs.Choice.{pick, bit}
use Rattle.base.specs.Lists.{each_to}
use Rattle.base.specs.Put.{Put}
use Rattle.base.proofs.Choice.{pick_keeps}
use Rattle.base.proofs.Lists.{get_d_any, length_tabulate, set_same, each_to_all}
use Rattle.base.proofs.Put.{put_none, put_then, put_whole, put_length}
use Rattle.buffers.proofs.Printed.{each_first}
use Rattle.wire.specs.declared.Setup.{Setup}
use Rattle.wire.specs.Wire.{Item, byte, Parsed, refuse, accept, fitted}
use Rattle.wire.specs.Rack as wire
use Rattle.wire.proofs.Messages.{messages_short}
use Rattle.supply.specs.declared.Supply.{Supply}
use Rattle.supply.specs.State.{fresh}
use Rattle.field.specs.Fields.{is_sample, read_field}
use Rattle.field.proofs.Laws.{code_in, too_short}
use Rattle.protocol.specs.SentBack.{rate, longest}
use Rattle.globals.specs.Globals.{ordered_at}
use Rattle.serial.specs.declared.Line.{Line}
use Rattle.serial.specs.View.{wire_of, Short}
use Rattle.plain.specs.Plain.{plain_supply, least_reply}
use Rattle.messages.specs.declared.Found.{Found}
use Rattle.messages.specs.Messages.{slot_at, sends_by, unchanged, found_at}
use Rattle.slots.specs.View.{view_of, rack_is, due}
use Rattle.addressed.specs.Pieces.{After, Leaves, slots_after, refused_as, items_at, PieceRefused, PieceTaken, PieceDoes}
use Rattle.addressed.specs.Addressed.{sample_as}
use Rattle.engine.specs.Engine.{Ran, ran, after_field, fields_from, fields_on, full_at}
use Rattle.addressed.proofs.Addressed.{bad_header, sample_done}
use Rattle.engine.proofs.Spent.{spent}
use Rattle.engine.proofs.Rung.{Noted, Rung, Judged, SaidBy, unsent, put_nothing, noted_before, judged_low, judged_noted, said_length, rung_one, rung_said}
use Rattle.engine.proofs.Answers.{answer_since, onward, sent_by, onward_new, drawn, after_part, after_all}

-- what the lines of one field may draw: the longest reply for a line that was begun before it, and the rate for each of
-- its bytes; the messages come on top
abbrev ahead : ℕ
ahead = longest + rate * 16

-- the loop goes on: nothing is refused, and either some of the field is left or the buffer is not full
abbrev pub goes_on : ℕ → ℕ → ℕ → ℕ → Bool
goes_on full code left next = eqb code 0 && (ltb 0 left || ltb next full)

-- a piece has no more bytes than there are, and at least one if the loop goes on
module _ (u : Setup) (l : Line) (x : Supply) (a : ℕ) (s : List ℕ) (left : ℕ) (p : After) (b : List ℕ) (at : ℕ) (b' : List ℕ) where
  pub piece_within : PieceDoes u l x a s left p b at b' → p.used + p.left ≤ length s
  piece_within (inl d) = rw d.is (omega arith)
  piece_within (inr d) = d.within

  pub piece_spends : (t : Bool) → PieceDoes u l x a s left p b at b' → (eqb p.code 0 && t) ≡ true → 0 < p.used
  piece_spends t (inl d) e = absurd (d.some (eqb-true p.code 0 ((and-eq-true_iff (eqb p.code 0) t).0 e).0))
  piece_spends t (inr d) e = d.some

-- the replies so far are those of fields in turn, whose end is R; `since` are the slots that the field under way found;
-- and there is room for the replies of that field
pub record Stands (R : Ran) (s b : List ℕ) (full : ℕ) (u : Setup) (ss : List Supply) (l : Line) (used next left code : ℕ) (going : Bool) (b' : List ℕ) (found : Found) (kept : List ℕ) : Type 0 where
  pub said : List ℕ
  pub fuel : ℕ
  pub since : List Supply
  pub small : Short l
  pub put : Put b 0 said next b'
  pub whole : next ≡ length said
  pub low : going ≡ true → left ≡ 0 → next ≤ full
  pub room : going ≡ true → 0 < left → next + due (wire_of l) + rate * left ≤ full + ahead
  pub begins : going ≡ true → left ≡ 0 → since ≡ ss
  pub noted : going ≡ true → 0 < left → Noted since ss found kept
  pub enough : going ≡ true → length s + bit (ltb 0 left) ≤ used + left + fuel
  pub goes : going ≡ true → onward fuel (full_at full) s since (view_of (rack_is ss l u)) used left said ≡ R
  pub ended : going ≡ false → ran (view_of (rack_is ss l u)) used said code ≡ R

pub stands_start : (s b : List ℕ) (full : ℕ) (u : Setup) (ss : List Supply) (l : Line) (found : Found) (kept : List ℕ) → Short l → Stands (fields_on (full_at full) (view_of (rack_is ss l u)) s) s b full u ss l 0 0 0 0 true b found kept
stands_start s b full u ss l found kept h =
    record {
      said = [];
      fuel = length s;
      since = ss;
      small = h;
      put = put_none b 0;
      whole = omega arith;
      low = λ g e. omega arith;
      room = λ g e. absurd (omega (arith, e));
      begins = λ g e. refl;
      noted = λ g e. absurd (omega (arith, e));
      enough = λ g. omega arith;
      goes = λ g. sym (onward_new (length s) (full_at full) s (view_of (rack_is ss l u)) 0 []);
      ended = λ g. absurd (true≢false g);
    }

abbrev is_taken : Parsed → Bool
is_taken (refuse n) = false
is_taken (accept n is) = true

-- only a field that begins is refused
refused_new : (u : Setup) (s : List ℕ) (left n : ℕ) → items_at u s left ≡ refuse n → left ≡ 0
refused_new u s left n e = by_left (ltb 0 left) refl e
  where
    by_left : (t : Bool) → ltb 0 left ≡ t → pick t (accept left (map byte (take left s))) (read_field (fitted u) s) ≡ refuse n → left ≡ 0
    by_left true t r = absurd (true≢false (ap is_taken r))
    by_left false t r = omega (arith, ltb-false 0 left t)

module _ (R : Ran) (s b : List ℕ) (full : ℕ) (u : Setup) (ss : List Supply) (l : Line) (used next left code : ℕ) (b₁ : List ℕ) (found : Found) (kept : List ℕ)
    (f : Stands R s b full u ss l used next left code true b₁ found kept) (long : full + least_reply ≤ length b) (inside : used + left ≤ length s)
    (x : Supply) (k : ℕ) (there : x ≡ get_or ss k (fresh 255)) (p : After) (b₂ : List ℕ) (next' : ℕ) (b₃ : List ℕ) (found' : Found) (kept' : List ℕ)
    (size : length (slots_after u p ss k) ≡ 31) (rung : Rung f.since (slots_after u p ss k) p.left found' kept' b₂ p.next next' b₃) where
  abbrev v : wire.Rack Supply
  v = view_of (rack_is ss l u)

  abbrev After-piece : Bool → Type 0
  After-piece g = Stands R s b full u (slots_after u p ss k) p.line (used + p.used) next' p.left p.code g b₃ found' kept'

  after_refusal : PieceRefused u l x (drop used s) left p b₁ next b₂ → After-piece (goes_on full p.code p.left next')
  after_refusal d =
      let stops : eqb p.code 0 ≡ false = ne_eqb p.code 0 d.some in
      let over : ran v used f.said p.code ≡ R = rw d.reads at (f.goes refl) in
      let new : left ≡ 0 = refused_new u (drop used s) left p.code d.reads in
      let slots : slots_after u p ss k ≡ ss = rw d.is (set_same ss k x (fresh 255) there) in
      let none : rung.said ≡ [] = rung.ends (ap (λ (y : After). y.left) d.is) ∙ rw (slots, f.begins refl new) (unsent ss) in
      let nothing = put_nothing (rw none at rung.put) in
      let still : next' ≡ next = nothing.0 ∙ ap (λ (y : After). y.next) d.is in
      let same : b₃ ≡ b₁ = nothing.1 ∙ d.buffer_is in
      rw (stops, slots, still, same, d.is, add-zero)
      (record {
        said = f.said;
        fuel = 0;
        since = ss;
        small = f.small;
        put = f.put;
        whole = f.whole;
        low = λ g. absurd (true≢false (sym g));
        room = λ g. absurd (true≢false (sym g));
        begins = λ g. absurd (true≢false (sym g));
        noted = λ g. absurd (true≢false (sym g));
        enough = λ g. absurd (true≢false (sym g));
        goes = λ g. absurd (true≢false (sym g));
        ended = λ g. over;
      })

  module _ (a : ℕ) (fits : fitted u a ≡ true → k ≡ a) (short : length ss ≤ 31) (wide : length l.kept ≡ 64) (d : PieceTaken u l x a (drop used s) left p b₁ next b₂) where
    abbrev q : wire.Rack Supply
    q = view_of (rack_is (slots_after u p ss k) p.line u)

    leaves : Leaves (rack_is ss l u) d.items d.taken (rack_is (slots_after u p ss k) p.line u) b₁ next p.next b₂
    leaves = d.does ss k there fits short wide f.small

    abbrev t : List ℕ
    t = drawn v d.items

    -- the line of the resulting rack is the one that the items leave
    same_due : due (wire_of p.line) ≡ due (sent_by v d.items).wire
    same_due = ap (λ (r : wire.Rack Supply). due r.wire) leaves.moves.view

    fits_in : next + length t + due (wire_of p.line) + rate * p.left ≤ full + ahead
    fits_in = by_begun (ltb 0 left) refl
      where
        by_begun : (g : Bool) → ltb 0 left ≡ g → next + length t + due (wire_of p.line) + rate * p.left ≤ full + ahead
        by_begun true e =
            let n : d.taken + p.left ≤ left = rw e at d.short in
            omega (arith, same_due, leaves.fair.fair, n, f.room refl (ltb-true 0 left e))
        by_begun false e =
            let n : d.taken + p.left ≤ 16 = rw e at d.short in
            omega (arith, same_due, leaves.fair.fair, n, f.low refl (omega (arith, ltb-false 0 left e)))

    abbrev used' : ℕ
    used' = used + p.used

    abbrev said' : List ℕ
    said' = f.said ++ t

    goes_by : p.next ≡ next + length t
    goes_by = (put_whole leaves.moves.said (omega (arith, fits_in, long, put_length f.put))).0

    -- what the messages add
    abbrev w : List ℕ
    w = rung.said

    w_short : length w ≤ 124
    w_short = by_left (ltb 0 p.left) refl
      where
        by_left : (g : Bool) → ltb 0 p.left ≡ g → length w ≤ 124
        by_left true e = rw (rung.quiet (ltb-true 0 p.left e)) (omega arith)
        by_left false e =
            let none : p.left ≡ 0 = omega (arith, ltb-false 0 p.left e) in
            rw (rung.ends none) (omega (arith, size, messages_short plain_supply (length (slots_after u p ss k)) f.since (slots_after u p ss k)))

    rung_by : next' ≡ p.next + length w
    rung_by = (put_whole rung.put (omega (arith, goes_by, fits_in, long, w_short, put_length f.put, put_length leaves.moves.said))).0

    abbrev said'' : List ℕ
    said'' = said' ++ w

    whole' : next' ≡ length said''
    whole' = omega (arith, rung_by, goes_by, f.whole, length-append f.said t, length-append said' w)

    within' : used' + p.left ≤ length s
    within' = omega (arith, d.within, length-drop used s, inside)

    enough' : length s + 1 ≤ used' + p.left + f.fuel
    enough' = by_begun (ltb 0 left) refl
      where
        by_begun : (g : Bool) → ltb 0 left ≡ g → length s + 1 ≤ used' + p.left + f.fuel
        by_begun true e =
            let n : length s + 1 ≤ used + left + f.fuel = rw e at (f.enough refl) in
            omega (arith, n, d.begun (ltb-true 0 left e))
        by_begun false e =
            let n : length s + 0 ≤ used + left + f.fuel = rw e at (f.enough refl) in
            omega (arith, n, ltb-false 0 left e, d.some)

    abbrev stop : ℕ → Bool
    stop = full_at full

    abbrev rest : List Item
    rest = map byte (take p.left (drop p.used (drop used s)))

    to_come : after_field (fields_from f.fuel stop s) stop v used f.said (answer_since f.since v (accept (p.used + p.left) (d.items ++ rest))) ≡ R
    to_come = rw d.reads at (f.goes refl)

    stood : (g : Bool) (fuel : ℕ) (since : List Supply) → (g ≡ true → p.left ≡ 0 → next' ≤ full) → (g ≡ true → p.left ≡ 0 → since ≡ slots_after u p ss k)
        → (g ≡ true → 0 < p.left → since ≡ f.since) → (g ≡ true → length s + bit (ltb 0 p.left) ≤ used' + p.left + fuel)
        → (g ≡ true → onward fuel stop s since q used' p.left said'' ≡ R) → (g ≡ false → ran q used' said'' p.code ≡ R)
        → After-piece g
    stood g fuel since low begins goes_on_lem enough goes ended =
        record {
          said = said'';
          fuel = fuel;
          since = since;
          small = leaves.moves.small;
          put = put_then (put_then f.put leaves.moves.said) rung.put;
          whole = whole';
          low = low;
          room = λ e h. omega (arith, fits_in, goes_by, rung_by, ap length (rung.quiet h));
          begins = begins;
          noted = λ e h. rw (goes_on_lem e h) (rung.noted h);
          enough = enough;
          goes = goes;
          ended = ended;
        }

    -- some of the field is left
    part_done : ltb 0 p.left ≡ true → After-piece true
    part_done e =
        let is : items_at u (drop used' s) p.left ≡ accept p.left rest = rw (e, drop-drop p.used used s) refl in
        let none : said'' ≡ said' = rw (rung.quiet (ltb-true 0 p.left e)) (append-nil said') in
        stood true f.fuel f.since
        (λ g h. absurd (omega (arith, h, ltb-true 0 p.left e)))
        (λ g h. absurd (omega (arith, h, ltb-true 0 p.left e)))
        (λ g h. refl)
        (λ g. rw e enough')
        (λ g. rw none (ap (λ (z : Parsed). after_field (fields_from f.fuel stop s) stop q used' said' (answer_since f.since q z)) is ∙ sym (after_part f.since v q d.items leaves.moves.view (fields_from f.fuel stop s) stop used f.said p.used p.left rest) ∙ to_come))
        (λ g. absurd (true≢false g))

    -- none is left
    module _ (none : p.left ≡ 0) where
      chosen : pick (not (ltb next' full)) (ran q used' said'' 0) (fields_from f.fuel stop s q used' said'') ≡ R
      chosen =
          ap (λ (n : ℕ). pick (not (ltb n full)) (ran q used' said'' 0) (fields_from f.fuel stop s q used' said'')) whole'
          ∙ ap (λ (y : List ℕ). pick (stop (length (said' ++ y))) (ran q used' (said' ++ y) 0) (fields_from f.fuel stop s q used' (said' ++ y))) (rung.ends none)
          ∙ sym (after_all f.since v q d.items leaves.moves.view (fields_from f.fuel stop s) stop used f.said p.used)
          ∙ rw none at to_come

      all_done : (m : ℕ) → f.fuel ≡ m → ltb next' full ≡ true → After-piece true
      all_done zero e g = absurd (omega (arith, e, enough', within'))
      all_done (suc n) e g =
          let on : fields_from (suc n) stop s q used' said'' ≡ R = ap (λ (k : ℕ). fields_from k stop s q used' said'') (sym e) ∙ rw g at chosen in
          stood true n q.slots
          (λ h z. omega (arith, ltb-true next' full g))
          (λ h z. refl)
          (λ h z. absurd (omega (arith, z, none)))
          (λ h. rw none (omega (arith, e, enough', none)))
          (λ h. ap (λ (x : ℕ). onward n stop s q.slots q used' x said'') none ∙ sym (onward_new n stop s q used' said'') ∙ on)
          (λ h. absurd (true≢false h))

      filled : ltb next' full ≡ false → After-piece false
      filled g =
          let over : ran q used' said'' 0 ≡ R = rw g at chosen in
          stood false 0 ss (λ h. absurd (true≢false (sym h))) (λ h. absurd (true≢false (sym h))) (λ h. absurd (true≢false (sym h))) (λ h. absurd (true≢false (sym h))) (λ h. absurd (true≢false (sym h))) (λ h. rw d.code_is over)

    after_taken : After-piece (goes_on full p.code p.left next')
    after_taken =
        let on : goes_on full p.code p.left next' ≡ (ltb 0 p.left || ltb next' full) = rw d.code_is refl in
        subst After-piece (sym on) (by_tests (ltb 0 p.left) refl (ltb next' full) refl)
      where
        by_tests : (g : Bool) → ltb 0 p.left ≡ g → (h : Bool) → ltb next' full ≡ h → After-piece (g || h)
        by_tests true e h i = part_done e
        by_tests false e true i = all_done (omega (arith, ltb-false 0 p.left e)) f.fuel refl i
        by_tests false e false i = filled (omega (arith, ltb-false 0 p.left e)) i

  -- one more piece
  pub stands_next : (a : ℕ) → (fitted u a ≡ true → k ≡ a) → length ss ≤ 31 → length l.kept ≡ 64 → PieceDoes u l x a (drop used s) left p b₁ next b₂
      → After-piece (goes_on full p.code p.left next')
  stands_next a fits short wide (inl d) = after_refusal d
  stands_next a fits short wide (inr d) = after_taken a fits short wide d

-- for any rack: if the first field is refused with n, the loop has changed nothing
pub record Unmoved (ss₀ : List Supply) (l₀ : Line) (b : List ℕ) (n : ℕ) (ss : List Supply) (l : Line) (used next left code : ℕ) (going : Bool) (b' : List ℕ) : Type 0 where
  pub slots_are : ss ≡ ss₀
  pub line_is : l ≡ l₀
  pub used_is : used ≡ 0
  pub next_is : next ≡ 0
  pub left_is : left ≡ 0
  pub buffer_is : b' ≡ b
  pub code_is : going ≡ false → code ≡ n

pub unmoved_start : (ss : List Supply) (l : Line) (b : List ℕ) (n : ℕ) → Unmoved ss l b n ss l 0 0 0 0 true b
unmoved_start ss l b n = record { slots_are = refl; line_is = refl; used_is = refl; next_is = refl; left_is = refl; buffer_is = refl; code_is = λ g. absurd (true≢false g) }

-- what was said stands at the start of the buffer, printed
pub printed_said : (f : ℕ → ℕ) (b said b₁ : List ℕ) (next : ℕ) → Put b 0 said next b₁ → next ≡ length said → each_to (λ i x. f x) next b₁ ≡ map f said ++ drop (length said) b
printed_said f b said b₁ next put e =
    let all : b₁ ≡ said ++ drop (length said) b = rw zero-add at (put_whole put (omega (arith, e, put.next_is, length-take (length b - 0) said))).1 in
    rw (e, all) (each_first f said (drop (length said) b))

-- nothing was said, and the buffer is as it was
pub printed_none : (f : ℕ → ℕ) (b b₁ : List ℕ) (next : ℕ) → next ≡ 0 → b₁ ≡ b → each_to (λ i x. f x) next b₁ ≡ b
printed_none f b b₁ next e same = rw e same

module _ (u : Setup) (s : List ℕ) (n : ℕ) (e : read_field (fitted u) s ≡ refuse n) (ss₀ : List Supply) (l₀ : Line) (b : List ℕ) (full : ℕ) (ss : List Supply) (l : Line) (used next left code : ℕ) (b₁ : List ℕ)
    (f : Unmoved ss₀ l₀ b n ss l used next left code true b₁) (x : Supply) (k : ℕ) (there : x ≡ get_or ss k (fresh 255)) (p : After) (b₂ : List ℕ) (a : ℕ)
    (next' : ℕ) (b₃ : List ℕ) (found : Found) (kept : List ℕ) (rung : Rung ss (slots_after u p ss k) p.left found kept b₂ p.next next' b₃) where
  first_piece : PieceDoes u l x a s 0 p b₁ next b₂ → Unmoved ss₀ l₀ b n (slots_after u p ss k) p.line (used + p.used) next' p.left p.code (goes_on full p.code p.left next') b₃
  first_piece (inl d) =
      let slots : slots_after u p ss k ≡ ss = rw d.is (set_same ss k x (fresh 255) there) in
      let none : rung.said ≡ [] = rung.ends (ap (λ (y : After). y.left) d.is) ∙ rw slots (unsent ss) in
      let nothing = put_nothing (rw none at rung.put) in
      record {
        slots_are = slots ∙ f.slots_are;
        line_is = ap (λ (y : After). y.line) d.is ∙ f.line_is;
        used_is = omega (arith, f.used_is, ap (λ (y : After). y.used) d.is);
        next_is = nothing.0 ∙ ap (λ (y : After). y.next) d.is ∙ f.next_is;
        left_is = ap (λ (y : After). y.left) d.is;
        buffer_is = nothing.1 ∙ d.buffer_is ∙ f.buffer_is;
        code_is = λ g. ap code_in (sym d.reads ∙ e);
      }
  first_piece (inr d) = absurd (true≢false (ap is_taken (sym d.reads ∙ e)))

  pub unmoved_next : PieceDoes u l x a (drop used s) left p b₁ next b₂ → Unmoved ss₀ l₀ b n (slots_after u p ss k) p.line (used + p.used) next' p.left p.code (goes_on full p.code p.left next') b₃
  unmoved_next d = first_piece (rw (f.used_is, f.left_is) at d)

-- WHAT HOLDS AT EACH CYCLE of the loop
pub record Inv (u : Setup) (s b : List ℕ) (full : ℕ) (ss₀ : List Supply) (l₀ : Line) (ss : List Supply) (l : Line) (used next left code : ℕ) (going : Bool) (b' : List ℕ) (found : Found) (kept : List ℕ) : Type 0 where
  pub inside : used + left ≤ length s
  pub same : length b' ≡ length b
  pub slots : length ss ≡ 31
  pub kept_chars : length l.kept ≡ 64
  pub low : found.slot < 31
  pub registers : length kept ≡ 62
  pub quiet : going ≡ true → code ≡ 0
  pub unmoved : (n : ℕ) → read_field (fitted u) s ≡ refuse n → Unmoved ss₀ l₀ b n ss l used next left code going b'
  pub stands : Short l₀ → full + least_reply ≤ length b → Stands (fields_on (full_at full) (view_of (rack_is ss₀ l₀ u)) s) s b full u ss l used next left code going b' found kept

pub inv_start : (u : Setup) (s b : List ℕ) (full : ℕ) (ss : List Supply) (l : Line) (found : Found) (kept : List ℕ) → length ss ≡ 31 → length l.kept ≡ 64 → found.slot < 31 → length kept ≡ 62 → Inv u s b full ss l ss l 0 0 0 0 true b found kept
inv_start u s b full ss l found kept n w low r =
    record { inside = omega arith; same = refl; slots = n; kept_chars = w; low = low; registers = r; quiet = λ g. refl; unmoved = λ j e. unmoved_start ss l b j; stands = λ h long. stands_start s b full u ss l found kept h }

-- a piece leaves as many slots as there were
slots_size : (u : Setup) (p : After) (ss : List Supply) (k : ℕ) → length ss ≡ 31 → length (slots_after u p ss k) ≡ 31
slots_size u p ss k h =
    let each : ℕ → Supply → Supply = ordered_at u p.order in
    pick_keeps (λ (ts : List Supply). length ts ≡ 31) p.all (each_to each 31 ss) (set ss k p.supply)
    (ap length (each_to_all each 31 ss (fresh 255) (omega (arith, h))) ∙ length_tabulate (length ss) (λ i. each i (get_or ss i (fresh 255))) ∙ h)
    (length-set ss k p.supply ∙ h)

-- what is said after a piece, whatever slots the field under way found
abbrev pub RungAfter : List Supply → ℕ → Found → List ℕ → List Supply → ℕ → Found → List ℕ → List ℕ → ℕ → ℕ → List ℕ → Type 0
RungAfter ss left found kept ts left' found' kept' b at next b' =
    (since : List Supply) → (left ≡ 0 → since ≡ ss) → (0 < left → Noted since ss found kept) → Rung since ts left' found' kept' b at next b'

module _ {u : Setup} {s b : List ℕ} {full : ℕ} {ss₀ : List Supply} {l₀ : Line} {ss : List Supply} {l : Line} {used next left code : ℕ} {going : Bool} {b₁ : List ℕ} {found : Found} {kept : List ℕ}
    (f : Inv u s b full ss₀ l₀ ss l used next left code going b₁ found kept) {rest : List ℕ} (from : rest ≡ drop used s) where
  rest_length : length rest ≡ length s - used
  rest_length = ap length from ∙ length-drop used s

  pub left_in : left ≤ length rest
  left_in = omega (arith, rest_length, f.inside)

  module _ (on : going ≡ true) (k : ℕ) (z : Supply) {a : ℕ} (low : k < 31) (p : After) {b₂ : List ℕ} (d : PieceDoes u l (get_or ss k z) a rest left p b₁ next b₂) where
    pub used_in_lem : used + p.used + p.left ≤ length s
    used_in_lem = omega (arith, rest_length, f.inside, piece_within u l (get_or ss k z) a rest left p b₁ next b₂ d)

    pub used_less : (next' : ℕ) → length s - (used + p.used) + bit (goes_on full p.code p.left next') < length s - used + bit going
    used_less next' =
        spent (length s) used p.used going (goes_on full p.code p.left next') (omega (arith, f.inside)) (omega (arith, used_in_lem)) on
        (piece_spends u l (get_or ss k z) a rest left p b₁ next b₂ (ltb 0 p.left || ltb next' full) d)

    pub inv_next : (fitted u a ≡ true → k ≡ a) → (ts : List Supply) → ts ≡ slots_after u p ss k → length ts ≡ 31 → length p.line.kept ≡ 64
        → {next' : ℕ} {b₃ : List ℕ} {found' : Found} {kept' : List ℕ} → length b₃ ≡ length b → found'.slot < 31 → length kept' ≡ 62
        → RungAfter ss left found kept ts p.left found' kept' b₂ p.next next' b₃
        → Inv u s b full ss₀ l₀ ts p.line (used + p.used) next' p.left p.code (goes_on full p.code p.left next') b₃ found' kept'
    inv_next reach ts e n w {next'} {b₃} {found'} {kept'} m low' r rung =
        let there : get_or ss k z ≡ get_or ss k (fresh 255) = get_d_any ss k z (fresh 255) (omega (arith, low, f.slots)) in
        let does : PieceDoes u l (get_or ss k z) a (drop used s) left p b₁ next b₂ = rw from at d in
        let rang : RungAfter ss left found kept (slots_after u p ss k) p.left found' kept' b₂ p.next next' b₃ = rw e at rung in
        let size : length (slots_after u p ss k) ≡ 31 = rw e at n in
        record {
          inside = used_in_lem;
          same = m;
          slots = n;
          kept_chars = w;
          low = low';
          registers = r;
          quiet = λ g. eqb-true p.code 0 ((and-eq-true_iff (eqb p.code 0) (ltb 0 p.left || ltb next' full)).0 g).0;
          unmoved = λ j q. let h = rw on at (f.unmoved j q) in rw e (unmoved_next u s j q ss₀ l₀ b full ss l used next left code b₁ h (get_or ss k z) k there p b₂ a next' b₃ found' kept' (rang ss (λ x. refl) (λ x. absurd (omega (arith, x, h.left_is)))) does);
          stands = λ h long. let g = rw on at (f.stands h long) in rw e (stands_next _ s b full u ss l used next left code b₁ found kept g long f.inside (get_or ss k z) k there p b₂ next' b₃ found' kept' size (rang g.since (g.begins refl) (g.noted refl)) a reach (omega (arith, f.slots)) f.kept_chars does);
        }

    slot_is : get_or ss k z ≡ slot_at ss k
    slot_is = get_d_any ss k z (fresh 255) (omega (arith, low, f.slots))

    -- serial bytes: the field begins or goes on, and may leave the slot that it has kept
    pub inv_serial : (fitted u a ≡ true → k ≡ a) → (ts : List Supply) → ts ≡ slots_after u p ss k → length p.line.kept ≡ 64 → length b₂ ≡ length b
        → (found₁ found₂ : Found) (kept₂ : List ℕ) → found₁.slot < 31 → found₁ ≡ pick (eqb left 0 || unchanged found (get_or ss found.slot z)) (found_at k (get_or ss k z)) found → length kept₂ ≡ length kept
        → Judged ss found₁ k p.all kept found₂ kept₂
        → {next' : ℕ} {b₃ : List ℕ} → SaidBy ts z p.left found₂ kept₂ b₂ p.next next' b₃
        → Inv u s b full ss₀ l₀ ts p.line (used + p.used) next' p.left p.code (goes_on full p.code p.left next') b₃ found₂ kept₂
    inv_serial reach ts e w m found₁ found₂ kept₂ low₁ e₁ r judged {next'} {b₃} said =
        let n : length ts ≡ 31 = ap length e ∙ slots_size u p ss k f.slots in
        inv_next reach ts e n w (said_length ts z p.left found₂ kept₂ b₂ p.next next' b₃ said ∙ m) (judged_low ss found₁ k p.all kept found₂ kept₂ low₁ judged) (r ∙ f.registers)
        (λ since begins noted.
        let noted₁ : Noted since ss found₁ kept = rw (e₁, slot_is, get_d_any ss found.slot z (fresh 255) (omega (arith, f.low, f.slots))) (noted_before since ss found kept left k low begins noted) in
        rung_said since ts z p.left found₂ kept₂ b₂ p.next next' b₃ n (judged_noted since ss ts found₁ k p.all kept found₂ kept₂ p.supply f.registers (λ o. e ∙ rw o refl) noted₁ judged) said)

  -- one slot is reached by a field worked in one piece, which says nothing but its message
  pub inv_one : (on : going ≡ true) (k : ℕ) (z : Supply) {a : ℕ} (low : k < 31) (p : After) → PieceDoes u l (get_or ss k z) a rest left p b₁ next b₁
      → left ≡ 0 → p.left ≡ 0 → (fitted u a ≡ true → k ≡ a) → p.all ≡ false → length p.line.kept ≡ 64
      → {next' : ℕ} {b₃ : List ℕ} → Put b₁ p.next (sends_by k (get_or ss k z).feve (get_or ss k z).seve p.supply) next' b₃
      → Inv u s b full ss₀ l₀ (set ss k p.supply) p.line (used + p.used) next' p.left p.code (goes_on full p.code p.left next') b₃ found kept
  inv_one on k z {a} low p d new none reach one w {next'} {b₃} rang =
      let rings : Put b₁ p.next (sends_by k (slot_at ss k).feve (slot_at ss k).seve p.supply) next' b₃ = rw (slot_is on k z low p d) at rang in
      inv_next on k z low p d reach (set ss k p.supply) (rw one refl) (length-set ss k p.supply ∙ f.slots) w (put_length rang ∙ f.same) f.low f.registers
      (λ since begins noted. rw (begins new, none) (rung_one ss k p.supply found kept (omega (arith, low, f.slots)) rings))

  -- the next field is refused: nothing changes, and the loop ends
  pub inv_refused : (on : going ≡ true) (k : ℕ) (z : Supply) {a : ℕ} (low : k < 31) (l' : Line) (n : ℕ) → (n ≡ 0 → ⊥) → {b₂ : List ℕ} → PieceDoes u l (get_or ss k z) a rest left (refused_as l' (get_or ss k z) next n) b₁ next b₂
      → (fitted u a ≡ true → k ≡ a) → length l'.kept ≡ 64 → length b₂ ≡ length b → {found' : Found} {kept' : List ℕ} → found'.slot < 31 → length kept' ≡ 62
      → Inv u s b full ss₀ l₀ ss l' used next left n false b₂ found' kept'
  inv_refused on k z {a} low l' n some {b₂} d reach w m {found'} {kept'} low' r =
      let new : left ≡ 0 = elim d [ inl e ↦ refused_new u rest left n e.reads | inr e ↦ absurd (some e.code_is) ] in
      let same : set ss k (get_or ss k z) ≡ ss = set_same ss k (get_or ss k z) (fresh 255) (get_d_any ss k z (fresh 255) (omega (arith, low, f.slots))) in
      let i =
      inv_next on k z low (refused_as l' (get_or ss k z) next n) d reach ss (sym same) f.slots w {next' = next} {b₃ = b₂} {found' = found'} {kept' = kept'} m low' r
      (λ since begins noted. rw (begins new) (record { said = []; put = put_none b₂ next; ends = λ e. sym (unsent ss); quiet = λ e. refl; noted = λ e. absurd (omega (arith, e)) })) in
      rw new (rw (add-zero, ne_eqb n 0 some) at i)

  module _ (on : going ≡ true) (new : left ≡ 0) where
    -- a sample comes next, for a supply that exists
    module _ (z : Supply) (is : is_sample rest ≡ true) (there : fitted u (get_or rest 3 0) ≡ true) (low : get_or rest 3 0 < 31) where
      abbrev a : ℕ
      a = get_or rest 3 0

      abbrev p : After
      p = sample_as u l (get_or ss a z) next rest

      sample_does : PieceDoes u l (get_or ss a z) a rest left p b₁ next b₁
      sample_does = rw new (sample_done u l (get_or ss a z) rest b₁ next is there)

      pub sample_in : used + 8 ≤ length s
      sample_in = omega (arith, used_in_lem on a z low p sample_does)

      pub sample_less : (next' : ℕ) → length s - (used + 8) + bit (ltb next' full) < length s - used + bit going
      sample_less next' = used_less on a z low p sample_does next'

      pub inv_sample : {next' : ℕ} {b₃ : List ℕ} → Put b₁ next (sends_by a (get_or ss a z).feve (get_or ss a z).seve p.supply) next' b₃
          → Inv u s b full ss₀ l₀ (set ss a p.supply) l (used + 8) next' left code (ltb next' full) b₃ found kept
      inv_sample rang = rw (new, f.quiet on) (inv_one on a z low p sample_does new refl (λ q. refl) refl f.kept_chars rang)

    -- fewer bytes than a header has
    module _ (few : length rest < 3) where
      abbrev x : Supply
      x = get_or ss 0 (fresh 255)

      few_does : PieceDoes u l x 0 rest left (refused_as l x next 2) b₁ next b₁
      few_does = rw new (bad_header u l x rest b₁ next 0 2 (too_short rest few) (λ h. omega (arith, h)))

      pub inv_few : Inv u s b full ss₀ l₀ ss l used next left 2 false b₁ found kept
      inv_few = inv_refused on 0 (fresh 255) (omega arith) l 2 (λ h. omega (arith, h)) few_does (λ q. refl) f.kept_chars f.same f.low f.registers

      pub few_less : length s - used + bit false < length s - used + bit going
      few_less = rw on (omega arith)
