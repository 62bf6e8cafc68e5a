-- After any list of calls a closed group of slots ends as its plain supplies do on the joint share.
use mathlib.Core.Path.{◌≡◌, refl, sym, ap, ◌∙◌}
use mathlib.Core.Bool.{Bool, true, false, false≢true}
use mathlib.Core.List.{List, [], ◌∷◌, foldl}
use Prim.Native.Nat.{ℕ}
use lib.ListN.{length}
use borrow.Author.Tests.{ne_eqb}
use Rattle.base.specs.Choice.{pick}
use Rattle.base.proofs.Lists.{length_tabulate, get_d_tabulate, tabulate_same}
use Rattle.wire.specs.Machine.{keep}
use Rattle.wire.specs.Wire.{Delivery, one, all, say, model_at, fitted, Call, fresh_wire, scan}
use Rattle.wire.specs.Share.{stream, brought, joint_share}
use Rattle.wire.specs.Rack.{Plain, next, state_at, deliver, fresh_rack, run, slot, together}
use Rattle.wire.specs.Groups.{touching, Closed, GroupEnds, GroupAlike}
use Rattle.wire.specs.declared.Setup.{Setup}
use Rattle.wire.proofs.Machine.{project}
use Rattle.wire.proofs.Stream.{brings, sent_brought}
use Rattle.wire.proofs.Calls.{fitted_below, run_moved}

module _ (M : Plain) where
  open M use {State, step, fresh, grammar}

  -- replies of the line's own move nothing
  skip_said : (u : Setup) (ss : List State) (ds : List Delivery) → foldl (deliver M u) ss ds ≡ foldl (deliver M u) ss (keep brings ds)
  skip_said u ss [] = refl
  skip_said u ss (one a e ∷ ds) = skip_said u (deliver M u ss (one a e)) ds
  skip_said u ss (all e ∷ ds) = skip_said u (deliver M u ss (all e)) ds
  skip_said u ss (say t ∷ ds) = rw (tabulate_same (fresh 255) ss) (skip_said u ss ds)

  run_brought : (u : Setup) (calls : List Call) → (run M u calls).slots ≡ foldl (deliver M u) (fresh_rack M u).slots (brought grammar u calls)
  run_brought u calls =
      ap (λ r. r.slots) (run_moved M (fresh_rack M u) calls)
      ∙ skip_said u (fresh_rack M u).slots (scan grammar u fresh_wire (stream grammar u calls)).sent
      ∙ ap (foldl (deliver M u) (fresh_rack M u).slots) (sent_brought grammar u calls)

  fresh_at : (u : Setup) (a : ℕ) → fitted u a ≡ true → slot M (fresh_rack M u) a ≡ fresh (model_at u a)
  fresh_at u a f = get_d_tabulate (length u.models) (λ b. fresh (model_at u b)) a (fresh 255) (fitted_below u a f)

  -- no slot acts on another: any set of fitted addresses is a closed group
  pub closed :
      (u v : Setup) (g : ℕ → Bool)
      → ((a : ℕ) → g a ≡ true → fitted u a ≡ true)
      → ((a : ℕ) → g a ≡ true → model_at u a ≡ model_at v a)
      → Closed M u v g (touching g)
  closed u v g inside models = record { inside = inside; models = models; local = local; frame = frame }
    where
      local : (f h : ℕ → State) (d : Delivery) → ((a : ℕ) → g a ≡ true → f a ≡ h a) → touching g d ≡ true → (a : ℕ) → g a ≡ true → next M u f d a ≡ next M v h d a
      local f h (one b x) e t a i = rw (e a i, models a i)
      local f h (all x) e t a i = rw (e a i, models a i)
      local f h (say x) e t a i = e a i

      frame : (f : ℕ → State) (d : Delivery) → touching g d ≡ false → (a : ℕ) → g a ≡ true → next M u f d a ≡ f a
      frame f (one b x) t a i = ap (λ (c : Bool). pick c (step (model_at u a) (f a) x) (f a)) (ne_eqb a b (λ q. false≢true (sym t ∙ ap g (sym q) ∙ i)))
      frame f (all x) t a i = absurd (false≢true (sym t))
      frame f (say x) t a i = refl

  module _ (g : ℕ → Bool) (touches : Delivery → Bool) where
    -- a closed group of u, run beside the setup v
    group_in : (u v : Setup) (calls : List Call) → Closed M u v g touches → (a : ℕ) → g a ≡ true → slot M (run M u calls) a ≡ together M v (joint_share grammar u calls touches) a
    group_in u v calls C a i =
        ap (λ (ss : List State). state_at M ss a) (run_brought u calls)
        ∙ project (fresh 255) (next M u) (next M v) g touches (length u.models)
        (λ b j. fitted_below u b (C.inside b j))
        C.local C.frame
        (fresh_rack M u).slots (λ b. fresh (model_at v b)) (brought grammar u calls)
        (length_tabulate (length u.models) (λ b. fresh (model_at u b)))
        (λ b j. fresh_at u b (C.inside b j) ∙ ap fresh (C.models b j))
        a i

    pub group_ends : (u : Setup) → Closed M u u g touches → (calls : List Call) → GroupEnds M g touches u calls
    group_ends u C calls = record { ends = λ a i. group_in u u calls C a i }

    pub group_alike : (u v : Setup) → Closed M u v g touches → Closed M v v g touches → (calls₁ calls₂ : List Call) → GroupAlike M g touches u v calls₁ calls₂
    group_alike u v C D calls₁ calls₂ = record { alike = λ e a i. group_in u v calls₁ C a i ∙ rw e (sym (group_in v v calls₂ D a i)) }
