-- DEMAND 3: what holds after every list of calls on a fresh rack, for any plain supply M with trips K and invariant I.
use Rattle.std.specs.Prelude.{◌≡◌, true, false, List, ◌∷◌, ◌++◌, ℕ}
use Rattle.wire.specs.Machine.{Tripped}
use Rattle.wire.specs.Wire.{Entry, Call, model_at, fitted}
use Rattle.wire.specs.Share.{share_of}
use Rattle.wire.specs.Rack.{Plain, run, slot, plain}
use Rattle.wire.specs.Laws.{Trips}
use Rattle.wire.specs.declared.Setup.{Setup}

-- The entries es trip a fresh supply of model m and do not release it: one of them sets trip k, and no later one
-- releases k.
abbrev pub TrippedBy : (M : Plain) (K : Trips M) → ℕ → K.Trip → List Entry → Type 0
TrippedBy M K m k es = Tripped (M.step m) (M.fresh m) (K.is_set k) (K.releases m k) es

module _ (M : Plain) (K : Trips M) (I : ℕ → M.State → Type 0) where
  open M use {step, grammar}
  open K use {Trip, is_set, is_on, releases}

  -- what holds for one fitted address
  pub record AtSlot (u : Setup) (calls : List Call) (a : ℕ) : Type 0 where
    -- the whole state: the slot ends in the state that a fresh plain supply of its model reaches on the address's share
    pub ends : slot M (run M u calls) a ≡ plain M (model_at u a) (share_of grammar u calls a)
    -- alike: any slot of any rack with the same model and the same share ends in the same state
    pub alike :
        (v : Setup) (calls₂ : List Call) (b : ℕ)
        → model_at u a ≡ model_at v b
        → share_of grammar u calls a ≡ share_of grammar v calls₂ b
        → slot M (run M u calls) a ≡ slot M (run M v calls₂) b
    -- the invariant (margins and limits) holds after every prefix of the list of calls
    pub invariant : (past rest : List Call) → calls ≡ past ++ rest → I (model_at u a) (slot M (run M u past) a)
    -- and after every prefix of the share
    pub entries_invariant :
        (past rest : List Entry)
        → share_of grammar u calls a ≡ past ++ rest
        → I (model_at u a) (plain M (model_at u a) past)
    -- over the share: the output is off from the entry that trips until an entry releases that trip
    pub entries_off :
        (k : Trip) (past rest : List Entry)
        → share_of grammar u calls a ≡ past ++ rest
        → TrippedBy M K (model_at u a) k past
        → is_on (plain M (model_at u a) past) ≡ false
    -- over the calls: in the rack the output is off from the call that trips until the share brings a release of that
    -- trip
    pub calls_off :
        (k : Trip) (past rest : List Call)
        → calls ≡ past ++ rest
        → TrippedBy M K (model_at u a) k (share_of grammar u past a)
        → is_on (slot M (run M u past) a) ≡ false
    -- every entry that releases a trip leaves that trip clear
    pub freed :
        (k : Trip) (past : List Entry) (e : Entry) (rest : List Entry)
        → share_of grammar u calls a ≡ past ++ e ∷ rest
        → releases (model_at u a) k (plain M (model_at u a) past) e ≡ true
        → is_set k (step (model_at u a) (plain M (model_at u a) past) e) ≡ false

  -- one claim about the whole list, for every fitted address
  abbrev pub Demand3 : Setup → List Call → Type 0
  Demand3 u calls = (a : ℕ) → fitted u a ≡ true → AtSlot u calls a
