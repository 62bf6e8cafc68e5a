-- Each way for a line to end, as in the code, is what the definitions say about its class.
use Prim.Native.Nat.{ℕ, ◌≤◌}
use mathlib.Core.Path.{◌≡◌, refl, sym, ap, ◌∙◌}
use mathlib.Core.List.{List, [], append-nil}
use mathlib.Core.Bool.{Bool, true, false}
use lib.ListN.{length, get_or, set}
use lib.Seq.{set-get_or}
use Rattle.base.specs.Choice.{pick}
use Rattle.base.specs.Put.{Put}
use Rattle.base.proofs.Put.{put_none}
use Rattle.wire.specs.declared.Setup.{Setup}
use Rattle.wire.specs.Wire.{Wire, model_at, fitted, nobody, line, select, faulty, global, other, all, by_class}
use Rattle.wire.specs.Rack.{deliver}
use Rattle.base.specs.Lists.{each_to}
use Rattle.wire.proofs.ForCode.{deliver_one, deliver_all, deliver_say}
use Rattle.supply.specs.declared.Supply.{Supply}
use Rattle.supply.specs.declared.Order.{Order}
use Rattle.supply.specs.declared.Act.{Act}
use Rattle.supply.specs.State.{fresh}
use Rattle.acts.specs.Acts.{performed}
use Rattle.asks.specs.Asks.{Asks}
use Rattle.asks.specs.Asks.{Everyone, One, Error}
use Rattle.command.specs.Lines.{Heard}
use Rattle.command.specs.Lines.{heard_as, heard_of}
use Rattle.texts.specs.Texts.{code_text, reply_of}
use Rattle.reply.specs.Obeying.{said_of}
use Rattle.protocol.specs.Sent.{obeyed, replied_to}
use Rattle.serial.specs.declared.Line.{Line}
use Rattle.serial.specs.View.{wire_of, Short}
use Rattle.globals.specs.Globals.{ordered_at}
use Rattle.plain.specs.Plain.{plain_supply, step_of, reply_to}
use Rattle.slots.specs.declared.Rack.{Rack}
use Rattle.slots.specs.View.{rack_is, Moves}

-- the line after its CR, with this slot selected
pub record Cleared (l : Line) (sel : ℕ) : Type 0 where
  pub small : Short l
  pub is : wire_of l ≡ record { kept = []; spoiled = false; sel = sel }

module _ (r : Rack) (b : List ℕ) (at : ℕ) where
  abbrev u : Setup
  u = r.setup

  abbrev w : Wire
  w = wire_of r.line

  abbrev ss : List Supply
  ss = r.slots

  pub select_fitted : (a : ℕ) (t : List ℕ) (l : Line) (n : ℕ) (b' : List ℕ) → fitted u a ≡ true → Cleared l a → Put b at t n b' → Moves r (by_class u w (select a t)) (rack_is ss l u) b at n b'
  select_fitted a t l n b' f c p =
      record { small = c.small; view = rw (f, c.is, deliver_say plain_supply u ss t) refl; said = rw (f, append-nil) p }

  pub select_empty : (a : ℕ) (t : List ℕ) (l : Line) → fitted u a ≡ false → Cleared l nobody → Moves r (by_class u w (select a t)) (rack_is ss l u) b at at b
  select_empty a t l f c = record { small = c.small; view = rw (f, c.is) refl; said = rw f (put_none b at) }

  pub code_fitted : (t : List ℕ) (l : Line) (n : ℕ) (b' : List ℕ) → fitted u w.sel ≡ true → Cleared l w.sel → Put b at t n b' → Moves r (by_class u w (faulty t)) (rack_is ss l u) b at n b'
  code_fitted t l n b' f c p =
      record { small = c.small; view = rw (f, c.is, deliver_say plain_supply u ss t) refl; said = rw (f, append-nil) p }

  pub code_empty : (t : List ℕ) (l : Line) → fitted u w.sel ≡ false → Cleared l w.sel → Moves r (by_class u w (faulty t)) (rack_is ss l u) b at at b
  code_empty t l f c = record { small = c.small; view = rw (f, c.is) refl; said = rw f (put_none b at) }

  -- a line for all supplies: each fitted one takes the order that it stands for
  pub told : (o : Order) (after : List Supply) (l : Line) → length ss ≤ 31 → after ≡ each_to (ordered_at u o) 31 ss → Cleared l w.sel
      → (heard_of w.kept w.spoiled).asks ≡ Everyone o → Moves r (by_class u w global) (rack_is after l u) b at at b
  unfolding step_of obeyed
  told o after l n e c h =
      let d : each_to (ordered_at u o) 31 ss ≡ deliver plain_supply u ss (all (line w.kept w.spoiled)) =
      ap (λ (x : Asks). each_to (λ a s. pick (fitted u a) (obeyed (model_at u a) s x) s) 31 ss) (sym h) ∙ deliver_all plain_supply u ss (line w.kept w.spoiled) 31 n in
      record { small = c.small; view = rw (e, c.is, d) refl; said = put_none b at }

  -- a line for the selected slot: its supply steps and replies
  pub asked : (a : Act) (t : Bool) (m : ℕ) (x y : Supply) (after : List Supply) (l : Line) (n : ℕ) (b' : List ℕ)
      → fitted u w.sel ≡ true → m ≡ model_at u w.sel → x ≡ get_or ss w.sel (fresh 255) → y ≡ performed m x a → after ≡ set ss w.sel y → Cleared l w.sel
      → Put b at (reply_of t (said_of m x a)) n b'
      → heard_of w.kept w.spoiled ≡ heard_as (One a) t
      → Moves r (by_class u w other) (rack_is after l u) b at n b'
  unfolding step_of obeyed reply_to replied_to
  asked a t m x y after l n b' f em ex ey ea c p h =
      record {
        small = c.small;
        view = rw (f, c.is, ea, ey, em, ex, deliver_one plain_supply u ss w.sel (line w.kept w.spoiled) (fresh 255), h) refl;
        said = rw (f, h, append-nil, ← em, ← ex) p;
      }

  pub asked_nobody : (l : Line) → fitted u w.sel ≡ false → Cleared l w.sel → Moves r (by_class u w other) (rack_is ss l u) b at at b
  asked_nobody l f c = record { small = c.small; view = rw (f, c.is) refl; said = rw f (put_none b at) }

  -- a line in error leaves its supply as it is, and draws its error code
  pub in_error : (c : ℕ) (t : Bool) (q : Rack) (n : ℕ) (b' : List ℕ)
      → heard_of w.kept w.spoiled ≡ heard_as (Error c) t
      → Moves r (by_class u w (faulty (reply_of t (code_text c)))) q b at n b'
      → Moves r (by_class u w other) q b at n b'
  unfolding step_of obeyed reply_to replied_to
  in_error c t q n b' h m = by_fit (fitted u w.sel) refl
    where
      by_fit : (f : Bool) → fitted u w.sel ≡ f → Moves r (by_class u w other) q b at n b'
      by_fit true f =
          record {
            small = m.small;
            view = m.view ∙ rw (f, deliver_say plain_supply u ss (reply_of t (code_text c)), deliver_one plain_supply u ss w.sel (line w.kept w.spoiled) (fresh 255), h, set-get_or ss w.sel (fresh 255)) refl;
            said = rw (f, h) (rw f at m.said);
          }
      by_fit false f = record { small = m.small; view = m.view ∙ rw f refl; said = rw f (rw f at m.said) }

  -- an ill-formed global moves nothing and says nothing
  pub unheard : (l : Line) → Cleared l w.sel → Moves r (by_class u w (faulty [])) (rack_is ss l u) b at at b
  unheard l c = by_fit (fitted u w.sel) refl
    where
      by_fit : (f : Bool) → fitted u w.sel ≡ f → Moves r (by_class u w (faulty [])) (rack_is ss l u) b at at b
      by_fit true f = code_fitted [] l at b f c (put_none b at)
      by_fit false f = code_empty [] l f c

pub heard_is : (h : Heard) (a : Asks) → h.asks ≡ a → h ≡ heard_as a h.checksummed
heard_is h a e = rw (← e) refl
