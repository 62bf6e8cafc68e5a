-- A printed setting that is sent back with its own order; and the room that a reply takes.
use Rattle.std.specs.Prelude.{ℕ, ◌+◌, ◌*◌, ◌^◌, ◌<◌, ◌≤◌, ◌≡◌, List, [], ◌∷◌, ◌++◌, true, false, length}
use Rattle.base.specs.Text.{codes}
use Rattle.supply.specs.declared.Supply.{Supply}
use Rattle.supply.specs.declared.Target.{Target}
use Rattle.supply.specs.declared.Target.TheVariants.{Pv, Pc, Ovp, Uvl}
use Rattle.supply.specs.declared.Query.{Query}
use Rattle.supply.specs.declared.Query.TheVariants as query
use Rattle.supply.specs.declared.Order.TheVariants.{Set}
use Rattle.supply.specs.declared.Act.TheVariants.{Obey, Ask}
use Rattle.settings.specs.Settings.{setting_of}
use Rattle.settings.specs.Lawful.{Lawful}
use Rattle.acts.specs.Acts.{code_of, performed}
use Rattle.asks.specs.Asks.{One}
use Rattle.command.specs.Lines.{heard_as, heard_of}
use Rattle.protocol.specs.Sent.{replied_to}

-- the query for a setting, and the words of its query and its order
abbrev pub query_of : Target → Query
query_of Pv = query.Pv
query_of Pc = query.Pc
query_of Ovp = query.Ovp
query_of Uvl = query.Uvl

abbrev pub query_word : Target → List ℕ
query_word Pv = codes "PV?"
query_word Pc = codes "PC?"
query_word Ovp = codes "OVP?"
query_word Uvl = codes "UVL?"

abbrev pub order_word : Target → List ℕ
order_word Pv = codes "PV"
order_word Pc = codes "PC"
order_word Ovp = codes "OVP"
order_word Uvl = codes "UVL"

-- from state to reply bytes to line to value, for every supply whose setting fits in its 32 bits
pub record SentBack (m : ℕ) (s : Supply) (t : Target) (text : List ℕ) : Type 0 where
  -- the query's line asks the query, and its reply is the text and CR
  pub asked : heard_of (query_word t) false ≡ heard_as (One (Ask (query_of t))) false
  pub printed : replied_to m s (One (Ask (query_of t))) false ≡ text ++ (13 ∷ [])
  -- the order's word, one space and that text are the order for exactly this setting
  pub read : heard_of (order_word t ++ (32 ∷ text)) false ≡ heard_as (One (Obey (Set t (setting_of t s)))) false
  -- and if the supply keeps margins and limits, it accepts the order and keeps the setting
  pub accepted : Lawful m s → code_of m s (Obey (Set t (setting_of t s))) ≡ 0
  pub leaves : Lawful m s → setting_of t (performed m s (Obey (Set t (setting_of t s)))) ≡ setting_of t s

-- a supply whose settings and counts fit their widths, as every supply in the code does
pub record Sized (s : Supply) : Type 0 where
  pub setting : (t : Target) → setting_of t s < 2 ^ 32
  pub volt_count : s.volt_count < 2 ^ 16
  pub amp_count : s.amp_count < 2 ^ 16

-- the most bytes of reply for each character of a line and for its CR, and the most for any line. STT? sets both: its
-- text has at most 70 characters, which is 71 bytes with CR for the five of its line, and 74 with a checksum
abbrev pub rate : ℕ
rate = 15

abbrev pub longest : ℕ
longest = 74

-- ROOM: a line that is not spoiled draws at most rate × (n + 1) bytes of reply, and at most `longest`;
-- a spoiled line draws C01 and CR
pub record Room (m : ℕ) (s : Supply) (t : List ℕ) : Type 0 where
  pub fair : length (replied_to m s (heard_of t false).asks (heard_of t false).checksummed) ≤ rate * (length t + 1)
  pub short : length (replied_to m s (heard_of t false).asks (heard_of t false).checksummed) ≤ longest
  pub spoiled : length (replied_to m s (heard_of t true).asks (heard_of t true).checksummed) ≡ 4
