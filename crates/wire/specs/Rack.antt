-- The rack: what a call, and a list of calls, does to the supplies and the line.
use mathlib.Core.List.{List, [], ◌∷◌, ◌++◌, foldl}
use Rattle.std.specs.Prelude.{Bool, ℕ, zero, suc, ◌+◌, ◌/◌, ◌%◌, eqb, length, get_or}
use Rattle.base.specs.Choice.{pick}
use Rattle.base.specs.Lists.{tabulate}
use Rattle.wire.specs.Wire.{Entry, Delivery, one, all, say, Grammar, model_at, fitted, Wire, Sent, Call, Parsed, refuse, accept, fresh_wire, parse, scan}
use Rattle.wire.specs.declared.Setup.{Setup}

-- A plain supply: its whole state; what an entry does to a supply of a given model, and its reply; its fresh state; the
-- grammar of the line; and whether it sends its service message after a field, given its states before and after that
-- field.
pub record Plain : Type 1 where
  pub State : Type 0
  pub step : ℕ → State → Entry → State
  pub reply : ℕ → State → Entry → List ℕ
  pub fresh : ℕ → State
  pub grammar : Grammar
  pub rings : State → State → Bool

-- the service message of an address: ! (33), the address in two digits, CR (13)
abbrev pub message : ℕ → List ℕ
message a = 33 ∷ (48 + a / 10) ∷ (48 + a % 10) ∷ 13 ∷ []

pub record Rack (S : Type 0) : Type 0 where
  pub setup : Setup
  pub slots : List S
  pub wire : Wire

-- what a call returns: the number of a refusal; or the new rack, the number of bytes used and the reply, which is all
-- that the field draws
pub data CallResult (S : Type 0) : Type 0 where
  refused : ℕ → CallResult S
  done : Rack S → ℕ → List ℕ → CallResult S

module _ (M : Plain) where
  open M use {State, step, reply, fresh, grammar, rings}

  -- HOW SUPPLIES ACT ON EACH OTHER: the state at address a after a delivery, given the states at all addresses
  abbrev pub next : Setup → (ℕ → State) → Delivery → ℕ → State
  next u f (one b e) a = pick (eqb a b) (step (model_at u a) (f a) e) (f a)
  next u f (all e) a = pick (fitted u a) (step (model_at u a) (f a) e) (f a)
  next u f (say t) a = f a

  -- the state at each address
  abbrev pub state_at : List State → ℕ → State
  state_at ss a = get_or ss a (fresh 255)

  abbrev pub deliver : Setup → List State → Delivery → List State
  deliver u ss d = tabulate (length ss) (next u (state_at ss) d)

  -- the reply to a delivery; a global draws none
  abbrev pub drawn_from : Setup → List State → Delivery → List ℕ
  drawn_from u ss (one a e) = reply (model_at u a) (state_at ss a) e
  drawn_from u ss (all e) = []
  drawn_from u ss (say t) = t

  abbrev pub replies : Setup → List State → List Delivery → List ℕ
  replies u ss [] = []
  replies u ss (d ∷ ds) = drawn_from u ss d ++ replies u (deliver u ss d) ds

  -- the rack after the deliveries that the line has handed out
  abbrev pub moved : Rack State → Sent → Rack State
  moved r s = record { setup = r.setup; slots = foldl (deliver r.setup) r.slots s.sent; wire = s.wire }

  -- what the supply at address a sends after a field that took it from state s to state t
  abbrev pub sends : ℕ → State → State → List ℕ
  sends a s t = pick (rings s t) (message a) []

  -- THE SERVICE MESSAGES after a field that took the slots from ss to ts: those of the first n addresses, lowest first;
  -- and of all
  abbrev pub messages_to : ℕ → List State → List State → List ℕ
  messages_to zero ss ts = []
  messages_to (suc n) ss ts = messages_to n ss ts ++ sends n (state_at ss n) (state_at ts n)

  abbrev pub messages : List State → List State → List ℕ
  messages ss ts = messages_to (length ts) ss ts

  -- what a field draws, where ss are the slots as they were when it arrived: its replies, then the messages
  abbrev pub drawn_since : List State → Rack State → Sent → List ℕ
  drawn_since ss r s = replies r.setup r.slots s.sent ++ messages ss (moved r s).slots

  abbrev pub answered : Rack State → ℕ → Sent → CallResult State
  answered r used s = done (moved r s) used (drawn_since r.slots r s)

  abbrev pub result_of : Rack State → Parsed → CallResult State
  result_of r (refuse n) = refused n
  result_of r (accept used is) = answered r used (scan grammar r.setup r.wire is)

  -- ONE CALL
  unfoldable pub call_of : Rack State → Call → CallResult State
  call_of r c = result_of r (parse grammar r.setup c)

  -- the rack after a call: the one it returned or, if it was refused, the one before
  abbrev pub after : Rack State → CallResult State → Rack State
  after r (refused n) = r
  after r (done q used t) = q

  -- a list of calls on the rack r; each call works on the rack that the one before it left
  abbrev pub run_from : Rack State → List Call → Rack State
  run_from r [] = r
  run_from r (c ∷ cs) = run_from (after r (call_of r c)) cs

  -- the fresh rack
  abbrev pub fresh_rack : Setup → Rack State
  fresh_rack u = record { setup = u; slots = tabulate (length u.models) (λ a. fresh (model_at u a)); wire = fresh_wire }

  abbrev pub run : Setup → List Call → Rack State
  run u calls = run_from (fresh_rack u) calls

  -- the supply at an address
  abbrev pub slot : Rack State → ℕ → State
  slot r a = state_at r.slots a

  -- a fresh plain supply of a model after a list of entries
  abbrev pub plain : ℕ → List Entry → State
  plain m es = foldl (step m) (fresh m) es

  -- The plain supplies at all addresses, acting on each other as `next` says, from fresh, after a list of deliveries.
  -- If slots ever act on each other, what a group does must be stated from the steps of a supply and proved equal to
  -- this.
  abbrev pub together : Setup → List Delivery → ℕ → State
  together u ds = foldl (next u) (λ a. fresh (model_at u a)) ds
