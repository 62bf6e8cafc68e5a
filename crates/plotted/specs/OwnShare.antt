-- THE CELL OF AN ADDRESS FOLLOWS FROM ITS OWN SHARE: after any list of calls on a rack that `fit` made.
use Rattle.std.specs.Prelude.{ℕ, ◌≡◌, true, false, Ok, Err, List, map}
use Rattle.wire.specs.declared.Setup.{Setup}
use Rattle.wire.specs.Wire.{Call, model_at, fitted}
use Rattle.wire.specs.Share.{share_of}
use Rattle.wire.specs.Rack.{plain}
use Rattle.plain.specs.Plain.{plain_supply, grammar}
use Rattle.plain.specs.Unaddressed.{unaddressed}
use Rattle.slots.specs.declared.Rack.{Rack}
use Rattle.isolation.specs.Demand3.{Run}
use Rattle.field.specs.declared.Refusal.TheVariants.{NoSupply}
use Rattle.resistance.specs.Cells.{cell_of, cell_at}

pub record OwnShare (u : Setup) (calls : List Call) (a : ℕ) : Type 0 where
  -- an address without a supply is refused
  pub refused : (r : Rack) → Run u calls r → fitted u a ≡ false → cell_at r a ≡ Err NoSupply
  -- the cell of any other is that of a fresh plain supply after the address's own share
  pub own : (r : Rack) → Run u calls r → fitted u a ≡ true
      → cell_at r a ≡ Ok (cell_of (model_at u a) (plain plain_supply (model_at u a) (share_of grammar u calls a)))
  -- so equal models and equal shares give equal answers, in any two racks
  pub alike :
      (r : Rack) → Run u calls r → fitted u a ≡ true
      → (u₂ : Setup) (calls₂ : List Call) (r₂ : Rack) (b : ℕ) → Run u₂ calls₂ r₂ → model_at u a ≡ model_at u₂ b
      → share_of grammar u calls a ≡ share_of grammar u₂ calls₂ b
      → cell_at r a ≡ cell_at r₂ b
  -- and so do shares that are equal apart from the address in each field, so cells at two addresses can be compared
  pub alike_unaddressed :
      (r : Rack) → Run u calls r → fitted u a ≡ true
      → (u₂ : Setup) (calls₂ : List Call) (r₂ : Rack) (b : ℕ) → Run u₂ calls₂ r₂ → model_at u a ≡ model_at u₂ b
      → map unaddressed (share_of grammar u calls a) ≡ map unaddressed (share_of grammar u₂ calls₂ b)
      → cell_at r a ≡ cell_at r₂ b
