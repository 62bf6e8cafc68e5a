-- The plain supply as fitted, and the error codes with which it refuses an order.
use Rattle.std.specs.Prelude.{ℕ, false}
use Rattle.models.specs.Models.{limits_of}
use Rattle.supply.specs.declared.Supply.{Supply}

-- as fitted: OVP at its greatest, everything else 0 or off
unfoldable pub fresh : ℕ → Supply
fresh m =
    record {
      pv = 0;
      pc = 0;
      ovp = (limits_of m).ovp_most;
      uvl = 0;
      want = false;
      armed = false;
      ast = false;
      mode = 0;
      lines = 0;
      fold_trip = false;
      ovp_trip = false;
      fena = 0;
      feve = 0;
      sena = 0;
      seve = 0;
      cv_seen = false;
      volt_count = 0;
      amp_count = 0;
    }

-- an error code is a byte: its hexadecimal digits are the letter and the last digit of its name; 0 means accepted
abbrev pub c05 : ℕ
c05 = 0xC5

abbrev pub e01 : ℕ
e01 = 0xE1

abbrev pub e02 : ℕ
e02 = 0xE2

abbrev pub e04 : ℕ
e04 = 0xE4

abbrev pub e06 : ℕ
e06 = 0xE6

abbrev pub e07 : ℕ
e07 = 0xE7
