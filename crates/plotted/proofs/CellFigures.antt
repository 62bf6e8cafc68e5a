-- When each answer is given, that its figures are the nearest floats, and its numbers.
use Prim.Native.Nat.{ℕ, ◌*◌, ◌≤◌, ◌^◌}
use mathlib.Core.Path.{refl, sym, ap}
use mathlib.Core.Logic.{⊎_elim}
use native.Mathlib.Omega.{arith}
use lib.Dec.{lit<}
use borrow.Author.Tests.{eq-eqb, ne_eqb}
use Rattle.quotients.specs.Quotient.{rounded}
use Rattle.quotients.proofs.Rounding.{rounded_nearest}
use Rattle.models.specs.Models.{volt_reading, amp_reading}
use Rattle.models.proofs.Rules.{volts_small, amps_small}
use Rattle.supply.specs.declared.Supply.{Supply}
use Rattle.slots.specs.declared.Rack.{Rack}
use Rattle.resistance.specs.Cells.{resistance_of, metered_of, cell_of}
use Rattle.resistance.specs.declared.Cell.{Cell}
use Rattle.resistance.specs.Numbers.{cell_numbers}
use Rattle.resistance.proofs.Answers.{above, empty, fitted_cell}
use Rattle.plotted.specs.Printed.{CountsFit}
use Rattle.plotted.specs.CellFigures.{CellFigures, AsNumbers, Refusals}

pub cell_figures : (m : ℕ) (s : Supply) → CountsFit s
    → CellFigures m s (volt_reading m s.volt_count) (amp_reading m s.amp_count)
unfolding cell_of resistance_of metered_of
cell_figures m s counted =
    let ticks = volt_reading m s.volt_count in
    let ma = amp_reading m s.amp_count in
    let v : ticks ≤ 2 ^ 53 = omega (arith, volts_small m s.volt_count counted.0) in
    let a : ma ≤ 2 ^ 53 = omega (arith, amps_small m s.amp_count counted.1) in
    record {
      ticks_are = refl;
      ma_are = refl;
      when_off = λ e. rw e refl;
      when_open = λ e z. rw (e, eq-eqb ma 0 z) refl;
      when_ohms =
          λ e h. (
            rounded ticks (10 * ma),
            rw (e, ne_eqb ma 0 (λ z. omega arith)) refl,
            rounded_nearest ticks (10 * ma) v (omega arith),
          );
      volts = rounded_nearest ticks 10000 v (lit< tt);
      amps = rounded_nearest ma 1000 a (lit< tt);
    }

pub as_numbers : (c : Cell) → AsNumbers c
as_numbers c = record { with_ohms = λ x e. rw e refl; with_open = λ e. rw e refl; with_off = λ e. rw e refl }

pub refusals : (r : Rack) (a : ℕ) → Refusals r a
refusals r a =
    record {
      six = λ h. ap cell_numbers (sym (⊎_elim (λ x. above r a x) (λ x. empty r a x) h));
      none = λ h n. sym (fitted_cell r a h n);
    }
