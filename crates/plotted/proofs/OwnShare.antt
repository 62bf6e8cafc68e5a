-- The cell of an address, by demand 3.
use Prim.Native.Nat.{ℕ, ◌≤◌}
use mathlib.Core.Path.{◌≡◌, refl, sym, ap, ◌∙◌, subst}
use mathlib.Core.Bool.{Bool, true, false, not}
use mathlib.Core.List.{List}
use native.Mathlib.Omega.{arith}
use lib.Dec.{T, eqb, ltb, eqb→eq}
use lib.ListN.{length}
use borrow.Author.Tests.{ltb-true, ltb-false, eqb-true, eqb-false, not-true, not-false}
use Rattle.base.proofs.Table.{and_left}
use Rattle.wire.specs.declared.Setup.{Setup}
use Rattle.wire.specs.Wire.{Call, model_at, fitted}
use Rattle.wire.specs.Rack.{fresh_rack}
use Rattle.wire.specs.Rack as wire
use Rattle.wire.proofs.Calls.{run_setup}
use Rattle.wire.proofs.ForCode.{model_past}
use Rattle.supply.specs.declared.Supply.{Supply}
use Rattle.plain.specs.Plain.{plain_supply}
use Rattle.slots.specs.declared.Rack.{Rack}
use Rattle.fitting.specs.Fitting.{all_allowed}
use Rattle.isolation.specs.Demand3.{Run, supply_at}
use Rattle.isolation.proofs.Isolation.{run_seen, isolated_code}
use Rattle.std.specs.Prelude.{Ok, Err}
use Rattle.field.specs.declared.Refusal.TheVariants.{NoSupply}
use Rattle.resistance.specs.Cells.{cell_of, cell_at}
use Rattle.resistance.proofs.Answers.{empty, fitted_cell}
use Rattle.plotted.specs.OwnShare.{OwnShare}

module _ (u : Setup) (calls : List Call) (r : Rack) (g : Run u calls r) where
  setup_kept : r.setup ≡ u
  setup_kept =
      ap (λ (q : wire.Rack Supply). q.setup) (run_seen u calls r g).is
      ∙ run_setup plain_supply (fresh_rack plain_supply u) calls

  long : length u.models ≡ 31
  long =
      let l = g.list in
      rw g.setup_is (eqb→eq (length l) 31 (and_left (eqb (length l) 31) (all_allowed l) (subst T (sym g.good) tt)))

  -- only the first 31 addresses can be fitted
  low : (a : ℕ) → fitted u a ≡ true → a ≤ 30
  low a f = go (ltb 30 a) refl
    where
      go : (t : Bool) → ltb 30 a ≡ t → a ≤ 30
      go true e =
          absurd (eqb-false (model_at u a) 255 (not-true _ f) (model_past u a (omega (arith, long, ltb-true 30 a e))))
      go false e = ltb-false 30 a e

  cell_there : (a : ℕ) → fitted u a ≡ true → cell_at r a ≡ Ok (cell_of (model_at u a) (supply_at r a))
  cell_there a f =
      let there : model_at r.setup a ≡ 255 → ⊥ = rw setup_kept (eqb-false (model_at u a) 255 (not-true _ f)) in
      sym (fitted_cell r a (low a f) there) ∙ ap (λ (v : Setup). Ok (cell_of (model_at v a) (supply_at r a))) setup_kept

  not_there : (a : ℕ) → fitted u a ≡ false → cell_at r a ≡ Err NoSupply
  not_there a f = sym (empty r a (rw setup_kept (eqb-true (model_at u a) 255 (not-false _ f))))

-- two supplies of one model in the same state have the same cell
module _ (u : Setup) (calls : List Call) (a : ℕ) (r : Rack) (g : Run u calls r) (f : fitted u a ≡ true) (v : Setup) (cs : List Call) (b : ℕ) (q : Rack) (h : Run v cs q) (m : model_at u a ≡ model_at v b) where
  same_cells : supply_at r a ≡ supply_at q b → cell_at r a ≡ cell_at q b
  same_cells e =
      cell_there u calls r g a f
      ∙ ap (λ (n : ℕ). Ok (cell_of n (supply_at r a))) m
      ∙ ap (λ (s : Supply). Ok (cell_of (model_at v b) s)) e
      ∙ sym (cell_there v cs q h b (subst (λ (n : ℕ). not (eqb n 255) ≡ true) m f))

pub own_share : (u : Setup) (calls : List Call) (a : ℕ) → OwnShare u calls a
own_share u calls a =
    record {
      refused = λ r g f. not_there u calls r g a f;
      own =
          λ r g f.
          cell_there u calls r g a f
          ∙ ap (λ (s : Supply). Ok (cell_of (model_at u a) s)) ((isolated_code u calls a f).ends r g);
      alike =
          λ r g f v cs q b h m e.
          same_cells u calls a r g f v cs b q h m ((isolated_code u calls a f).alike r g v cs q b h m e);
      alike_unaddressed =
          λ r g f v cs q b h m e.
          same_cells u calls a r g f v cs b q h m ((isolated_code u calls a f).alike_unaddressed r g v cs q b h m e);
    }
