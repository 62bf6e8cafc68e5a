-- The two trips, and the releases of each as the paper lists them.
use Rattle.std.specs.Prelude.{ℕ, Bool, true, false, not, ◌&&◌, ◌||◌, eqb}
use Rattle.supply.specs.declared.Supply.{Supply}
use Rattle.supply.specs.declared.Key.{Key}
use Rattle.supply.specs.declared.Key.TheVariants as key
use Rattle.supply.specs.declared.Order.{Order}
use Rattle.supply.specs.declared.Order.TheVariants.{Set, Ovm, Out, Fld, Ast, Rmt, Fena, Sena, Cls, Rst}
use Rattle.supply.specs.declared.Act.{Act}
use Rattle.supply.specs.declared.Act.TheVariants.{Lines, Sample, Press, Turn, Obey, Ask, Nothing}
use Rattle.supply.specs.Flt.{on_of, lines_clear}
use Rattle.events.specs.Events.{falls}
use Rattle.codes.specs.Codes.{order_code}

pub data Trip : Type 0 where
  fold ovp : Trip

abbrev pub is_set : Trip → Supply → Bool
is_set fold s = s.fold_trip
is_set ovp s = s.ovp_trip

-- whether it is the OVP trip
abbrev pub is_ovp : Trip → Bool
is_ovp fold = false
is_ovp ovp = true

-- an accepted OUT 1; RST; and for FOLD, FLD 0 that turns ARMED off
abbrev pub order_releases : ℕ → Trip → Supply → Order → Bool
order_releases m k s (Out true) = eqb (order_code m s (Out true)) 0
order_releases m k s Rst = true
order_releases m k s (Fld false) = not (is_ovp k) && s.armed
order_releases m k s (Out false) = false
order_releases m k s (Fld true) = false
order_releases m k s (Set t n) = false
order_releases m k s Ovm = false
order_releases m k s (Ast b) = false
order_releases m k s (Rmt j) = false
order_releases m k s (Fena b) = false
order_releases m k s (Sena b) = false
order_releases m k s Cls = false

-- the OUTPUT key that turns the output on; and for FOLD, the FOLD key that turns ARMED off
abbrev pub key_releases : Trip → Supply → Key → Bool
key_releases k s key.Output = eqb s.mode 0 && (not (on_of s) && lines_clear s)
key_releases k s key.Fold = not (is_ovp k) && (eqb s.mode 0 && s.armed)
key_releases k s key.Local = false

-- whether the act, on this supply, is a release of the trip; LINES can bring AC falling and, for OVP, SO falling with
-- AST on
unfoldable pub releases : ℕ → Trip → Supply → Act → Bool
releases m k s (Lines b) = falls 1 s.lines b || (is_ovp k && (falls 5 s.lines b && s.ast))
releases m k s (Press j) = key_releases k s j
releases m k s (Obey o) = order_releases m k s o
releases m k s (Sample v a) = false
releases m k s (Turn t raw) = false
releases m k s (Ask q) = false
releases m k s Nothing = false
