-- A line at its CR, for the line and one supply: what holds in one rack holds whatever the other slots are.
use Prim.Native.Nat.{ℕ}
use mathlib.Core.Path.{◌≡◌, refl, sym, ap, ◌∙◌}
use mathlib.Core.Bool.{Bool, true, false}
use mathlib.Core.List.{List, []}
use native.Mathlib.Omega.{arith}
use lib.ListN.{get_or, set, take}
use Rattle.base.proofs.Lists.{set_same}
use Rattle.base.specs.Lists.{each_to}
use Rattle.base.specs.Put.{Put}
use Rattle.wire.specs.declared.Setup.{Setup}
use Rattle.wire.specs.Wire.{Class, model_at, fitted, nobody, select, faulty, other, by_class}
use Rattle.std.specs.Prelude.{Some, None}
use Rattle.supply.specs.declared.Supply.{Supply}
use Rattle.supply.specs.declared.Order.{Order}
use Rattle.supply.specs.declared.Act.{Act}
use Rattle.supply.specs.State.{fresh}
use Rattle.acts.specs.Acts.{performed}
use Rattle.command.specs.Lines.{Heard}
use Rattle.asks.specs.Asks.{Everyone, One, Error}
use Rattle.command.specs.Lines.{heard_as, heard_of}
use Rattle.texts.specs.Texts.{code_text, reply_of}
use Rattle.reply.specs.Obeying.{said_of}
use Rattle.globals.specs.Globals.{ordered_at}
use Rattle.serial.specs.declared.Line.{Line}
use Rattle.serial.specs.View.{wire_of}
use Rattle.plain.specs.Plain.{class_by, class_of}
use Rattle.slots.specs.declared.Ended.{Ended}
use Rattle.slots.specs.View.{rack_is, Moves, cleared_to, EndsByClass, Asked, EndsLine}
use Rattle.slots.proofs.Steps.{Cleared, told, select_fitted, select_empty, code_fitted, code_empty, asked, asked_nobody, in_error, unheard, heard_is}

some_same : {o p : Order} → Some o ≡ Some p → o ≡ p
some_same e = cc

abbrev pub ended_as : ℕ → Supply → ℕ → Ended
ended_as a s n = record { selected = a; supply = s; next = n; order = None }

module _ (u : Setup) (l : Line) (s : Supply) (b : List ℕ) (at : ℕ) where
  cleared_to_lem : (a : ℕ) → Cleared (cleared_to l a) a
  cleared_to_lem a = record { small = omega arith; is = refl }

  -- the supply stays
  still : (c : Class) (a n : ℕ) (b' : List ℕ) → ((ss : List Supply) → Moves (rack_is ss l u) (by_class u (wire_of l) c) (rack_is ss (cleared_to l a) u) b at n b') → EndsByClass u l s c (ended_as a s n) b at b'
  still c a n b' m ss k e f =
      rw (set_same ss k s (fresh 255) e) (m ss)

  pub ends_select : (a : ℕ) (t : List ℕ) (n : ℕ) (b' : List ℕ) → fitted u a ≡ true → Put b at t n b' → EndsByClass u l s (select a t) (ended_as a s n) b at b'
  ends_select a t n b' f p = still (select a t) a n b' (λ ss. select_fitted (rack_is ss l u) b at a t (cleared_to l a) n b' f (cleared_to_lem a) p)

  pub ends_select_empty : (a : ℕ) (t : List ℕ) → fitted u a ≡ false → EndsByClass u l s (select a t) (ended_as nobody s at) b at b
  ends_select_empty a t f = still (select a t) nobody at b (λ ss. select_empty (rack_is ss l u) b at a t (cleared_to l nobody) f (cleared_to_lem nobody))

  pub ends_unheard : (a : ℕ) → l.selected ≡ a → EndsByClass u l s (faulty []) (ended_as a s at) b at b
  ends_unheard a is = rw (← is) (still (faulty []) l.selected at b (λ ss. unheard (rack_is ss l u) b at (cleared_to l l.selected) (cleared_to_lem l.selected)))

  -- a is the selected slot
  module _ (a : ℕ) (is : l.selected ≡ a) where
    abbrev c : Cleared (cleared_to l l.selected) l.selected
    c = cleared_to_lem l.selected

    here : (t : Bool) → fitted u a ≡ t → fitted u l.selected ≡ t
    here t f = rw is f

    pub ends_code : (t : List ℕ) (n : ℕ) (b' : List ℕ) → fitted u a ≡ true → Put b at t n b' → EndsByClass u l s (faulty t) (ended_as a s n) b at b'
    ends_code t n b' f p = rw (← is) (still (faulty t) l.selected n b' (λ ss. code_fitted (rack_is ss l u) b at t (cleared_to l l.selected) n b' (here true f) c p))

    pub ends_code_empty : (t : List ℕ) → fitted u a ≡ false → EndsByClass u l s (faulty t) (ended_as a s at) b at b
    ends_code_empty t f = rw (← is) (still (faulty t) l.selected at b (λ ss. code_empty (rack_is ss l u) b at t (cleared_to l l.selected) (here false f) c))

    pub ends_asked : (x : Act) (t : Bool) (m : ℕ) (y : Supply) (n : ℕ) (b' : List ℕ)
        → fitted u a ≡ true → m ≡ model_at u a → y ≡ performed m s x
        → Put b at (reply_of t (said_of m s x)) n b' → Asked u l s x t (ended_as a y n) b at b'
    ends_asked x t m y n b' f em ey p h ss k e g =
        let ek : k ≡ l.selected = g (here true f) in
        let there : s ≡ get_or ss l.selected (fresh 255) = rw ek at e in
        let model : m ≡ model_at u l.selected = rw is em in
        rw (ek, ← is) (asked (rack_is ss l u) b at x t m s y (set ss l.selected y) (cleared_to l l.selected) n b' (here true f) model there ey refl c p h)

    pub ends_nobody : (x : Act) (t : Bool) → fitted u a ≡ false → Asked u l s x t (ended_as a s at) b at b
    ends_nobody x t f h = rw (← is) (still other l.selected at b (λ ss. asked_nobody (rack_is ss l u) b at (cleared_to l l.selected) (here false f) c))

  -- a line in error is one for the selected slot, which draws its error code
  ends_error : (c : ℕ) (t : Bool) (e : Ended) (b' : List ℕ) → heard_of (take l.count l.kept) l.spoiled ≡ heard_as (Error c) t → EndsByClass u l s (faulty (reply_of t (code_text c))) e b at b' → EndsByClass u l s other e b at b'
  ends_error c t e b' h m ss k i f = in_error (rack_is ss l u) b at c t (rack_is (set ss k e.supply) (cleared_to l e.selected) u) e.next b' h (m ss k i f)

  -- by what was heard
  module _ (h : Heard) (is : h ≡ heard_of (take l.count l.kept) l.spoiled) where
    pub by_class_lem : (e : Ended) (b' : List ℕ) → e.order ≡ None → EndsByClass u l s (class_by h.asks h.checksummed) e b at b' → EndsLine u l s e b at b'
    unfolding class_of
    by_class_lem e b' n m = (λ q. rw (← is) m, λ o q. absurd (let other : Some o ≡ None = sym q ∙ n in cc))

    pub in_error_ends : (c : ℕ) (e : Ended) (b' : List ℕ) → h.asks ≡ Error c → e.order ≡ None → EndsByClass u l s (faulty (reply_of h.checksummed (code_text c))) e b at b' → EndsLine u l s e b at b'
    in_error_ends c e b' q n m = by_class_lem e b' n (rw q (ends_error c h.checksummed e b' (sym is ∙ heard_is h (Error c) q) m))

    pub one_ends : (a : Act) (e : Ended) (b' : List ℕ) → h.asks ≡ One a → e.order ≡ None → Asked u l s a h.checksummed e b at b' → EndsLine u l s e b at b'
    one_ends a e b' q n m = by_class_lem e b' n (rw q (m (sym is ∙ heard_is h (One a) q)))

    pub all_ends : (o : Order) → h.asks ≡ Everyone o → EndsLine u l s (record { selected = l.selected; supply = s; next = at; order = Some o }) b at b
    unfolding class_of
    all_ends o q =
        (λ n. absurd (let other : Some o ≡ None = n in cc), λ p n ss k. let same : o ≡ p = some_same n in rw (← is, q, ← same) (told (rack_is ss l u) b at o (each_to (ordered_at u o) 31 ss) (cleared_to l l.selected) k refl (cleared_to_lem l.selected) (ap (λ (x : Heard). x.asks) (sym is) ∙ q)))
