-- A run repeats: equal shares leave equal supplies, and calls that do not concern a slot are not in its share.
use Prim.Native.Nat.{ℕ}
use mathlib.Core.Path.{◌≡◌, refl, sym, ap, ◌∙◌}
use mathlib.Core.Bool.{Bool, true, false, true≢false, not, and-eq-true_iff}
use mathlib.Core.List.{List, [], ◌∷◌, ◌++◌, map}
use lib.Dec.{eqb}
use borrow.Author.Tests.{ne_eqb, not-true}
use Rattle.base.specs.Choice.{pick}
use Rattle.wire.specs.Machine.{keep, flat}
use Rattle.wire.specs.Wire.{Class, Delivery, one, line, Item, byte, event, Entry, Call, nobody, parse}
use Rattle.wire.specs.declared.Setup.{Setup}
use Rattle.wire.specs.Share.{typed, ended, items, stream, arrivals, routes, selected, handed, brought, for_slot, share_of}
use Rattle.wire.proofs.Machine.{flat_append}
use Rattle.supply.specs.declared.Supply.{Supply}
use Rattle.supply.specs.Flt.{on_of}
use Rattle.answers.specs.Answers.{answer_of}
use Rattle.plain.specs.Plain.{grammar, reply_to}
use Rattle.plain.specs.Unaddressed.{unaddressed}
use Rattle.slots.specs.declared.Rack.{Rack}
use Rattle.isolation.specs.Demand3.{supply_at}
use Rattle.isolation.proofs.Isolation.{isolated_code}
use Rattle.example.specs.Repeats.{SameSupply, SharesRepeat, UnaddressedSharesRepeat, elsewhere, concerns, NeighboursMakeNoDifference}

same : (m : ℕ) (r : Rack) (a : ℕ) (r₂ : Rack) (b : ℕ) → supply_at r a ≡ supply_at r₂ b → SameSupply m r a r₂ b
same m r a r₂ b e =
    record {
      state = e;
      output = ap on_of e;
      answer = λ q. ap (λ (s : Supply). answer_of m s q) e;
      reply = λ x. ap (λ (s : Supply). reply_to m s x) e;
    }

is_fitted : (m : ℕ) → (m ≡ 255 → ⊥) → not (eqb m 255) ≡ true
is_fitted m n = rw (ne_eqb m 255 n) refl

pub unaddressed_shares_repeat : UnaddressedSharesRepeat
unaddressed_shares_repeat u u₂ calls calls₂ r r₂ a b g g₂ n m e =
    same _ r a r₂ b ((isolated_code u calls a (is_fitted _ n)).alike_unaddressed r g u₂ calls₂ r₂ b g₂ m e)

pub shares_repeat : SharesRepeat
shares_repeat u u₂ calls calls₂ r r₂ a b g g₂ n m e =
    unaddressed_shares_repeat u u₂ calls calls₂ r r₂ a b g g₂ n m (ap (map unaddressed) e)

module _ (u : Setup) (a : ℕ) where
  -- what slot a takes of a stream, where these bytes have come since the last CR and this slot is selected
  taken : List ℕ → ℕ → List Item → List Entry
  taken bytes sel is = flat (for_slot u a) (routes grammar u sel (arrivals bytes is))

  -- two streams of which slot a takes the same, whatever came before
  abbrev Alike : List Item → List Item → Type 0
  Alike is js = (bytes : List ℕ) (sel : ℕ) → taken bytes sel is ≡ taken bytes sel js

  -- a line with its CR: what it hands out comes before what follows
  line_on : (bytes : List ℕ) (sel : ℕ) (is js : List Item) → Alike is js
      → flat (for_slot u a) (routes grammar u sel (ended (typed bytes) ∷ arrivals [] is)) ≡ flat (for_slot u a) (routes grammar u sel (ended (typed bytes) ∷ arrivals [] js))
  unfolding taken
  line_on bytes sel is js h =
      let c : Class = grammar.class_of (typed bytes).kept (typed bytes).spoiled in
      let goes : List Delivery = handed u sel (line (typed bytes).kept (typed bytes).spoiled) c in
      flat_append (for_slot u a) goes (routes grammar u (selected u sel c) (arrivals [] is))
      ∙ ap (λ (x : List Entry). flat (for_slot u a) goes ++ x) (h [] (selected u sel c))
      ∙ sym (flat_append (for_slot u a) goes (routes grammar u (selected u sel c) (arrivals [] js)))

  byte_on : (b : ℕ) (is js : List Item) → Alike is js → Alike (byte b ∷ is) (byte b ∷ js)
  unfolding taken
  byte_on b is js h bytes sel = by_end (eqb b 13)
    where
      by_end : (t : Bool) → flat (for_slot u a) (routes grammar u sel (pick t (ended (typed bytes) ∷ arrivals [] is) (arrivals (bytes ++ b ∷ []) is))) ≡ flat (for_slot u a) (routes grammar u sel (pick t (ended (typed bytes) ∷ arrivals [] js) (arrivals (bytes ++ b ∷ []) js)))
      by_end true = line_on bytes sel is js h
      by_end false = h (bytes ++ b ∷ []) sel

  behind : (is js ks : List Item) → Alike js ks → Alike (is ++ js) (is ++ ks)
  unfolding taken
  behind [] js ks h = h
  behind (event b e ∷ is) js ks h = λ bytes sel. ap (λ (x : List Entry). for_slot u a (one b e) ++ x) (behind is js ks h bytes sel)
  behind (byte b ∷ is) js ks h = byte_on b (is ++ js) (is ++ ks) (behind is js ks h)

  past : (is js : List Item) → elsewhere a is ≡ true → Alike (is ++ js) js
  unfolding taken
  past [] js h bytes sel = refl
  past (byte b ∷ is) js h bytes sel = absurd (true≢false (sym h))
  past (event b e ∷ is) js h bytes sel =
      let both = (and-eq-true_iff (not (eqb a b)) (elsewhere a is)).0 h in
      rw (not-true (eqb a b) both.0) (past is js both.1 bytes sel)

  -- one more call, dropped or not
  own_step : (c : Call) (cs ds : List Call) → Alike (stream grammar u cs) (stream grammar u ds) → (t : Bool) → elsewhere a (items (parse grammar u c)) ≡ t
      → Alike (stream grammar u (c ∷ cs)) (stream grammar u (pick (not t) (c ∷ ds) ds))
  own_step c cs ds h true e bytes sel = past (items (parse grammar u c)) (stream grammar u cs) e bytes sel ∙ h bytes sel
  own_step c cs ds h false e bytes sel = behind (items (parse grammar u c)) (stream grammar u cs) (stream grammar u ds) h bytes sel

  -- the calls that concern slot a bring it what all calls bring it
  own_stream : (calls : List Call) → Alike (stream grammar u calls) (stream grammar u (keep (concerns u a) calls))
  own_stream [] = λ bytes sel. refl
  own_stream (c ∷ cs) = own_step c cs (keep (concerns u a) cs) (own_stream cs) (elsewhere a (items (parse grammar u c))) refl

  pub own_share : (calls : List Call) → share_of grammar u calls a ≡ share_of grammar u (keep (concerns u a) calls) a
  unfolding brought taken
  own_share calls = own_stream calls [] nobody

pub neighbours_make_no_difference : NeighboursMakeNoDifference
neighbours_make_no_difference u calls calls₂ r r₂ a g g₂ n e =
    shares_repeat u u calls calls₂ r r₂ a a g g₂ n refl
    (own_share u a calls ∙ ap (λ (x : List Call). share_of grammar u x a) e ∙ sym (own_share u a calls₂))
