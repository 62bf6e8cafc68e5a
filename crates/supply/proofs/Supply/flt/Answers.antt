use lib.Dec.{lit<}
use Rattle.base.proofs.Bits.{flag}
use Rattle.supply.specs.Flt.{flt_of}
use Rattle.supply.proofs.Supply.flt.Goals as goal

pub returns : goal.returns
unfolding flt_of
returns c =
    rw (c.from.ensures, c.from-2.ensures, c.from-3.ensures)
    (simp (flag 8 (lit< tt), flag 16 (lit< tt), flag 64 (lit< tt)))
