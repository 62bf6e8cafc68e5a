-- Slots taken together: the states in which a group of them ends. In this rack no slot acts on another, so any set of
-- fitted slots is a closed group, even a single slot. If slots acted on each other, a group would have to include, with
-- each slot, every slot that interacts with it.
use Rattle.std.specs.Prelude.{◌≡◌, Bool, true, false, List, ℕ}
use Rattle.wire.specs.Wire.{Delivery, one, all, say, Call, model_at, fitted}
use Rattle.wire.specs.Share.{joint_share}
use Rattle.wire.specs.Rack.{Plain, next, run, slot, together}
use Rattle.wire.specs.declared.Setup.{Setup}

-- what touches a group: an entry to one of its slots, and every global
abbrev pub touching : (ℕ → Bool) → Delivery → Bool
touching g (one a e) = g a
touching g (all e) = true
touching g (say t) = false

-- Every address of g is fitted under u and has the same model under v. What a delivery that touches g does in g depends
-- only on the states in g and is the same under both setups; a delivery that does not touch g changes nothing in g.
pub record Closed (M : Plain) (u v : Setup) (g : ℕ → Bool) (touches : Delivery → Bool) : Type 0 where
  pub inside : (a : ℕ) → g a ≡ true → fitted u a ≡ true
  pub models : (a : ℕ) → g a ≡ true → model_at u a ≡ model_at v a
  pub local :
      (f h : ℕ → M.State) (d : Delivery)
      → ((a : ℕ) → g a ≡ true → f a ≡ h a)
      → touches d ≡ true
      → (a : ℕ) → g a ≡ true → next M u f d a ≡ next M v h d a
  pub frame : (f : ℕ → M.State) (d : Delivery) → touches d ≡ false → (a : ℕ) → g a ≡ true → next M u f d a ≡ f a

module _ (M : Plain) (g : ℕ → Bool) (touches : Delivery → Bool) where
  open M use {grammar}

  -- the group ends in the states that its plain supplies, taken together, reach on the joint share
  pub record GroupEnds (u : Setup) (calls : List Call) : Type 0 where
    pub ends : (a : ℕ) → g a ≡ true → slot M (run M u calls) a ≡ together M u (joint_share grammar u calls touches) a

  -- if two setups agree on the group, two lists of calls with the same joint share leave it in the same states
  pub record GroupAlike (u v : Setup) (calls₁ calls₂ : List Call) : Type 0 where
    pub alike :
        joint_share grammar u calls₁ touches ≡ joint_share grammar v calls₂ touches
        → (a : ℕ) → g a ≡ true → slot M (run M u calls₁) a ≡ slot M (run M v calls₂) a
