-- What an order does to a supply.
use Rattle.std.specs.Prelude.{ℕ, Bool, true, false, eqb}
use Rattle.std.specs.Int.Bits.{bit_and}
use Rattle.base.specs.Choice.{pick}
use Rattle.models.specs.Models.{limits_of}
use Rattle.supply.specs.declared.Supply.{Supply}
use Rattle.supply.specs.declared.Target.{Target}
use Rattle.supply.specs.declared.Target.TheVariants.{Pv, Pc, Ovp, Uvl}
use Rattle.supply.specs.declared.Order.{Order}
use Rattle.supply.specs.declared.Order.TheVariants.{Set, Ovm, Out, Fld, Ast, Rmt, Fena, Sena, Cls, Rst}
use Rattle.supply.specs.With.{with_ovp, with_want, with_armed, with_ast, with_mode, with_lines, with_fena, with_sena, with_counts}
use Rattle.supply.specs.State.{fresh}
use Rattle.settings.specs.Settings.{with_setting}
use Rattle.codes.specs.Codes.{order_code}
use Rattle.events.specs.Events.{turned_on, disarmed}

-- taking remote control: MODE 0 becomes 1
unfoldable pub remote : Supply → Supply
remote s = with_mode (pick (eqb s.mode 0) 1 s.mode) s

unfoldable pub remote_by : Target → Supply → Supply
remote_by Pv s = remote s
remote_by Pc s = remote s
remote_by Ovp s = s
remote_by Uvl s = s

-- OUT 1 turns the output on; OUT 0 turns WANT off and keeps the trips
unfoldable pub out_done : Bool → Supply → Supply
out_done true s = remote (turned_on s)
out_done false s = remote (with_want false s)

-- FLD 1 arms foldback; FLD 0 does what the FOLD key does when it turns ARMED off
unfoldable pub fld_done : Bool → Supply → Supply
fld_done true s = with_armed true s
fld_done false s = pick s.armed (disarmed s) s

-- the bits that SENA keeps: all but 4 to 6
abbrev pub sena_bits : ℕ
sena_bits = 0x8F

-- RST: as fitted, but remote, and with LINES, FENA, SENA and the counts kept
unfoldable pub reset : ℕ → Supply → Supply
reset m s =
    with_lines s.lines
    (with_fena s.fena
    (with_sena s.sena (with_counts s.volt_count s.amp_count (with_mode 1 (fresh m)))))

-- what an accepted order does; CLS takes effect as the event closes
unfoldable pub ordered : ℕ → Supply → Order → Supply
ordered m s (Set t n) = remote_by t (with_setting t n s)
ordered m s Ovm = with_ovp (limits_of m).ovp_most s
ordered m s (Out b) = out_done b s
ordered m s (Fld b) = fld_done b s
ordered m s (Ast b) = with_ast b s
ordered m s (Rmt k) = with_mode k s
ordered m s (Fena b) = with_fena b s
ordered m s (Sena b) = with_sena (bit_and b sena_bits) s
ordered m s Cls = s
ordered m s Rst = reset m s

-- an order is checked and, if accepted, carried out; a refused order changes nothing
unfoldable pub after_order : ℕ → Supply → Order → Supply
after_order m s o = pick (eqb (order_code m s o) 0) (ordered m s o) s
