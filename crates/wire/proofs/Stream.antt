-- The line's single pass over the stream hands out what the passes of the share find in it; and both may be split
-- anywhere.
use mathlib.Core.Path.{◌≡◌, refl, ap, ◌∙◌}
use mathlib.Core.Bool.{Bool, true, false}
use mathlib.Core.List.{List, [], ◌∷◌, ◌++◌, foldl-append, append_assoc}
use Prim.Native.Nat.{ℕ}
use lib.Dec.{eqb, ltb}
use lib.ListN.{length}
use borrow.Author.Tests.{eqb-true}
use Rattle.base.specs.Choice.{pick}
use Rattle.wire.specs.Machine.{given, keep, flat}
use Rattle.wire.specs.Wire.{Entry, line, Delivery, one, all, say, Class, select, faulty, global, other, Grammar, fitted, Wire, quiet, followed, Item, byte, event, Call, nobody, fresh_wire, parse, by_class, char_on, byte_on, item_on, scan}
use Rattle.wire.specs.Share.{items, stream, TypedLine, typing, typed, arrivals, selected, handed, routes, brought, for_slot, share_of}
use Rattle.wire.specs.declared.Setup.{Setup}
use Rattle.wire.proofs.Machine.{keep_append, flat_append}

-- whether the delivery brings an entry, and not a reply of the line's own
abbrev pub brings : Delivery → Bool
brings (one a e) = true
brings (all e) = true
brings (say t) = false

said : (t : Bool) (x : List ℕ) → keep brings (given t (say x)) ≡ []
said true x = refl
said false x = refl

sent_one : (t : Bool) (a : ℕ) (e : Entry) → keep brings (given t (one a e)) ≡ given t (one a e)
sent_one true a e = refl
sent_one false a e = refl

-- a choice of what is typed, made before or after it is put on the line
pushed : (f : TypedLine → Wire) (p q r : Bool) (w x y z : TypedLine) → pick p (f w) (pick q (f x) (pick r (f y) (f z))) ≡ f (pick p w (pick q x (pick r y z)))
pushed f true q r w x y z = refl
pushed f false true r w x y z = refl
pushed f false false true w x y z = refl
pushed f false false false w x y z = refl

-- the line with this typed and this address selected
abbrev pub wire_of : ℕ → TypedLine → Wire
wire_of sel t = record { kept = t.kept; spoiled = t.spoiled; sel = sel }

typed_none : typed [] ≡ record { kept = []; spoiled = false }
unfolding typed
typed_none = refl

typed_more : (bs : List ℕ) (b : ℕ) → typed (bs ++ b ∷ []) ≡ typing (typed bs) b
unfolding typed
typed_more bs b = foldl-append typing (record { kept = []; spoiled = false }) bs (b ∷ [])

module _ (u : Setup) where
  -- a line at its CR: who takes it, and the line after it
  at_cr : (w : Wire) (c : Class) → keep brings (by_class u w c).sent ≡ handed u w.sel (line w.kept w.spoiled) c
  at_cr w (select a t) = said (fitted u a) t
  at_cr w (faulty t) = said (fitted u w.sel) t
  at_cr w global = refl
  at_cr w other = sent_one (fitted u w.sel) w.sel (line w.kept w.spoiled)

  after_cr : (w : Wire) (c : Class) → (by_class u w c).wire ≡ record { kept = []; spoiled = false; sel = selected u w.sel c }
  after_cr w (select a t) = refl
  after_cr w (faulty t) = refl
  after_cr w global = refl
  after_cr w other = refl

module _ (γ : Grammar) (u : Setup) where
  on_cr : (w : Wire) → byte_on γ u w 13 ≡ by_class u w (γ.class_of w.kept w.spoiled)
  unfolding byte_on
  on_cr w = refl

  -- any byte other than CR only types
  pub on_other : (w : Wire) (b : ℕ) → eqb b 13 ≡ false → byte_on γ u w b ≡ quiet (char_on w b)
  unfolding byte_on
  on_other w b r = rw r refl

  pub on_char : (sel : ℕ) (t : TypedLine) (b : ℕ) → eqb b 13 ≡ false → byte_on γ u (wire_of sel t) b ≡ quiet (wire_of sel (typing t b))
  unfolding char_on
  on_char sel t b r =
      on_other (wire_of sel t) b r ∙ ap quiet (pushed (wire_of sel) (eqb b 10) (eqb b 8) (ltb (length t.kept) 64) t _ _ _)

  -- from any line under way, whose bytes since the last CR are bs
  one_pass : (sel : ℕ) (bs : List ℕ) (is : List Item) → keep brings (scan γ u (wire_of sel (typed bs)) is).sent ≡ routes γ u sel (arrivals bs is)
  one_pass sel bs [] = refl
  one_pass sel bs (event a e ∷ is) = ap {B = List Delivery} (λ x. one a e ∷ x) (one_pass sel bs is)
  one_pass sel bs (byte b ∷ is) = by_cr (λ s ys. one_pass s ys is) (eqb b 13) refl
    where
      IH : Type 0
      IH = (s : ℕ) (ys : List ℕ) → keep brings (scan γ u (wire_of s (typed ys)) is).sent ≡ routes γ u s (arrivals ys is)

      by_cr : IH → (t : Bool) → eqb b 13 ≡ t → keep brings (scan γ u (wire_of sel (typed bs)) (byte b ∷ is)).sent ≡ routes γ u sel (arrivals bs (byte b ∷ is))
      by_cr ih true q =
          rw (eqb-true b 13 q, on_cr, keep_append brings, at_cr u, after_cr u)
          (ap (λ (x : List Delivery). handed u sel (line (typed bs).kept (typed bs).spoiled) (γ.class_of (typed bs).kept (typed bs).spoiled) ++ x)
          (rw typed_none at (ih (selected u sel (γ.class_of (typed bs).kept (typed bs).spoiled)) [])))
      by_cr ih false q = rw (q, on_char sel (typed bs) b q, ← typed_more bs b) (ih sel (bs ++ b ∷ []))

  -- what the rack hands out over a list of calls, apart from its own replies, is what the passes of the share find in
  -- the list
  pub sent_brought : (calls : List Call) → keep brings (scan γ u fresh_wire (stream γ u calls)).sent ≡ brought γ u calls
  unfolding brought typed
  sent_brought calls = one_pass nobody [] (stream γ u calls)

  -- the stream may be split anywhere: the line carries over
  pub scan_append : (w : Wire) (is js : List Item) → scan γ u w (is ++ js) ≡ followed (scan γ u w is) (scan γ u (scan γ u w is).wire js)
  scan_append w [] js = refl
  scan_append w (i ∷ is) js = rw (scan_append (item_on γ u w i).wire is js, append_assoc)

module _ (γ : Grammar) (u : Setup) (past rest : List Call) where
  -- what the later calls bring
  abbrev later : List Delivery
  later = keep brings (scan γ u (scan γ u fresh_wire (stream γ u past)).wire (stream γ u rest)).sent

  brought_grows : brought γ u (past ++ rest) ≡ brought γ u past ++ later
  brought_grows =
      rw (← sent_brought γ u (past ++ rest), ← sent_brought γ u past, flat_append (λ c. items (parse γ u c)) past rest, scan_append γ u fresh_wire (stream γ u past) (stream γ u rest))
      (keep_append brings (scan γ u fresh_wire (stream γ u past)).sent _)

  -- the share of a prefix of a list is a prefix of its share
  pub share_grows : (a : ℕ) → (more : List Entry) × (share_of γ u (past ++ rest) a ≡ share_of γ u past a ++ more)
  share_grows a = (flat (for_slot u a) later, rw brought_grows (flat_append (for_slot u a) (brought γ u past) later))
