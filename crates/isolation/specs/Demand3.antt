-- DEMAND 3 FOR THE CODE: what holds for every rack reached by a fitting list and a list of calls, refused calls
-- included.
use Rattle.std.specs.Prelude.{ℕ, ◌*◌, ◌≤◌, ◌≡◌, true, false, List, [], ◌∷◌, ◌++◌, map, length, get_or}
use Rattle.wire.specs.declared.Setup.{Setup}
use Rattle.wire.specs.Wire.{Entry, field, Call, model_at, fitted}
use Rattle.wire.specs.Share.{share_of}
use Rattle.wire.specs.Rack.{plain}
use Rattle.wire.specs.Demand3.{TrippedBy}
use Rattle.supply.specs.declared.Supply.{Supply}
use Rattle.supply.specs.State.{fresh}
use Rattle.supply.specs.Flt.{on_of}
use Rattle.settings.specs.Lawful.{Lawful}
use Rattle.guarantees.specs.Coherent.{Coherent}
use Rattle.guarantees.specs.Releases.{Trip, fold, is_set}
use Rattle.guarantees.specs.Trips.{FoldNeeds}
use Rattle.field.specs.Fields.{pair_at}
use Rattle.plain.specs.Plain.{plain_supply, grammar, trips, step_of, releases_of}
use Rattle.plain.specs.Unaddressed.{unaddressed}
use Rattle.plain.specs.Remembered.{CvSince}
use Rattle.slots.specs.declared.Rack.{Rack}
use Rattle.calls.specs.Calls.{Answer}
use Rattle.fitting.specs.declared.Fitted.{Fitted}
use Rattle.calls.specs.Calls.{CallDoes}
use Rattle.fitting.specs.Fitting.{good_list}
use Rattle.fitting.specs.Fit.{FitDoes}

-- one call with a buffer of the given length; Rest is what holds for the rack that it returned, which after a refusal
-- is the same rack
pub record Through (r : Rack) (c : Call) (Rest : Rack → Type 0) : Type 0 where
  pub buffer : List ℕ
  pub room_is : length buffer ≡ c.room
  pub answer : Answer
  pub left : List ℕ
  pub does : CallDoes r c.bytes buffer answer left
  pub rest : Rest answer.rack

-- the calls lead from r to q, each working on the rack that the one before it returned
abbrev pub Leads : Rack → List Call → Rack → Type 0
Leads r [] q = q ≡ r
Leads r (c ∷ cs) q = Through r c (λ m. Leads m cs q)

-- the setup that a fitting list describes
abbrev pub setup_of : List ℕ → Setup
setup_of l = record { models = l }

-- a setup whose list `fit` accepts, and the rack that the calls reach from the one that `fit` made
pub record Run (u : Setup) (calls : List Call) (r : Rack) : Type 0 where
  pub list : List ℕ
  pub setup_is : u ≡ setup_of list
  pub good : good_list list ≡ true
  pub fitting : Fitted
  pub fits : FitDoes list fitting
  pub leads : Leads fitting.rack calls r

-- the supply in a slot of the code's rack
abbrev pub supply_at : Rack → ℕ → Supply
supply_at r a = get_or r.slots a (fresh 255)

-- what holds for one fitted address, after the calls
pub record AtAddress (u : Setup) (calls : List Call) (a : ℕ) : Type 0 where
  -- the whole state is that of a fresh plain supply after the address's own share
  pub ends : (r : Rack) → Run u calls r → supply_at r a ≡ plain plain_supply (model_at u a) (share_of grammar u calls a)
  -- equal models and equal shares give equal slots, in any two racks
  pub alike :
      (r : Rack) → Run u calls r
      → (u₂ : Setup) (calls₂ : List Call) (r₂ : Rack) (b : ℕ) → Run u₂ calls₂ r₂
      → model_at u a ≡ model_at u₂ b
      → share_of grammar u calls a ≡ share_of grammar u₂ calls₂ b
      → supply_at r a ≡ supply_at r₂ b
  -- and so do shares that are equal apart from the address in each field, so a and b may differ
  pub alike_unaddressed :
      (r : Rack) → Run u calls r
      → (u₂ : Setup) (calls₂ : List Call) (r₂ : Rack) (b : ℕ) → Run u₂ calls₂ r₂ → model_at u a ≡ model_at u₂ b
      → map unaddressed (share_of grammar u calls a) ≡ map unaddressed (share_of grammar u₂ calls₂ b)
      → supply_at r a ≡ supply_at r₂ b
  -- the voltage margins, and the limits of the model, hold after every prefix of the list
  pub margins : (past rest : List Call) (r : Rack) → calls ≡ past ++ rest → Run u past r
      → (20 * (supply_at r a).uvl ≤ 19 * (supply_at r a).pv) × (21 * (supply_at r a).pv ≤ 20 * (supply_at r a).ovp)
  pub limits : (past rest : List Call) (r : Rack) → calls ≡ past ++ rest → Run u past r
      → Lawful (model_at u a) (supply_at r a)
  -- and so does coherence of the rest of the state: MODE at most 2, only listed bits in LINES, no FOLD trip unless
  -- ARMED
  pub coherent : (past rest : List Call) (r : Rack) → calls ≡ past ++ rest → Run u past r → Coherent (supply_at r a)
  -- the CV memory, after every prefix: it is set exactly if a sample of the address's own share was judged CV and the
  -- output has been on ever since
  pub remembers : (past rest : List Call) (r : Rack) → calls ≡ past ++ rest → Run u past r
      → ((supply_at r a).cv_seen ≡ true → CvSince (model_at u a) (fresh (model_at u a)) (share_of grammar u past a))
      × (CvSince (model_at u a) (fresh (model_at u a)) (share_of grammar u past a) → (supply_at r a).cv_seen ≡ true)
  -- so no supply holds it with the output off
  pub seen_on : (past rest : List Call) (r : Rack) → calls ≡ past ++ rest → Run u past r
      → (supply_at r a).cv_seen ≡ true → on_of (supply_at r a) ≡ true
  -- and over the share: no entry sets the FOLD trip unless a sample before it was judged CV and the output has been on
  -- ever since, so a cell that starts in current limit does not trip
  pub folds : (past : List Entry) (e : Entry) (rest : List Entry)
      → share_of grammar u calls a ≡ past ++ e ∷ rest
      → is_set fold (plain plain_supply (model_at u a) past) ≡ false
      → is_set fold (step_of (model_at u a) (plain plain_supply (model_at u a) past) e) ≡ true
      → CvSince (model_at u a) (fresh (model_at u a)) past
  -- which a sample at PC does set, if foldback is armed, the output on and the volts below OVP
  pub folds_when : (past : List Entry) (p : List ℕ) (rest : List Entry)
      → share_of grammar u calls a ≡ past ++ field 5 p ∷ rest
      → FoldNeeds (model_at u a) (plain plain_supply (model_at u a) past) (pair_at p 1) (pair_at p 3)
      → is_set fold (step_of (model_at u a) (plain plain_supply (model_at u a) past) (field 5 p)) ≡ true
  -- the output is off after the call that trips and after every later call, until one brings a release of that trip
  pub calls_off : (k : Trip) (past rest : List Call) (r : Rack) → calls ≡ past ++ rest → Run u past r
      → TrippedBy plain_supply trips (model_at u a) k (share_of grammar u past a)
      → on_of (supply_at r a) ≡ false
  -- and after each entry of the share, from the one that trips to the first release
  pub entries_off : (k : Trip) (past rest : List Entry) → share_of grammar u calls a ≡ past ++ rest
      → TrippedBy plain_supply trips (model_at u a) k past
      → on_of (plain plain_supply (model_at u a) past) ≡ false
  -- every release named does clear its trip
  pub freed : (k : Trip) (past : List Entry) (e : Entry) (rest : List Entry)
      → share_of grammar u calls a ≡ past ++ e ∷ rest
      → releases_of (model_at u a) k (plain plain_supply (model_at u a) past) e ≡ true
      → is_set k (step_of (model_at u a) (plain plain_supply (model_at u a) past) e) ≡ false

abbrev pub Isolated : Setup → List Call → Type 0
Isolated u calls = (a : ℕ) → fitted u a ≡ true → AtAddress u calls a
