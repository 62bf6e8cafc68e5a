-- One setter for each part of a supply's state; everything else stays unchanged.
use Rattle.std.specs.Prelude.{ℕ, Bool}
use Rattle.supply.specs.declared.Supply.{Supply}

abbrev pub with_pv : ℕ → Supply → Supply
with_pv x s = record s { pv = x }

abbrev pub with_pc : ℕ → Supply → Supply
with_pc x s = record s { pc = x }

abbrev pub with_ovp : ℕ → Supply → Supply
with_ovp x s = record s { ovp = x }

abbrev pub with_uvl : ℕ → Supply → Supply
with_uvl x s = record s { uvl = x }

abbrev pub with_want : Bool → Supply → Supply
with_want x s = record s { want = x }

abbrev pub with_armed : Bool → Supply → Supply
with_armed x s = record s { armed = x }

abbrev pub with_ast : Bool → Supply → Supply
with_ast x s = record s { ast = x }

abbrev pub with_mode : ℕ → Supply → Supply
with_mode x s = record s { mode = x }

abbrev pub with_lines : ℕ → Supply → Supply
with_lines x s = record s { lines = x }

abbrev pub with_fold_trip : Bool → Supply → Supply
with_fold_trip x s = record s { fold_trip = x }

abbrev pub with_ovp_trip : Bool → Supply → Supply
with_ovp_trip x s = record s { ovp_trip = x }

abbrev pub with_fena : ℕ → Supply → Supply
with_fena x s = record s { fena = x }

abbrev pub with_feve : ℕ → Supply → Supply
with_feve x s = record s { feve = x }

abbrev pub with_sena : ℕ → Supply → Supply
with_sena x s = record s { sena = x }

abbrev pub with_seve : ℕ → Supply → Supply
with_seve x s = record s { seve = x }

abbrev pub with_cv_seen : Bool → Supply → Supply
with_cv_seen x s = record s { cv_seen = x }

abbrev pub with_volt_count : ℕ → Supply → Supply
with_volt_count x s = record s { volt_count = x }

abbrev pub with_amp_count : ℕ → Supply → Supply
with_amp_count x s = record s { amp_count = x }

abbrev pub with_counts : ℕ → ℕ → Supply → Supply
with_counts v a s = with_volt_count v (with_amp_count a s)
