-- One step after another: what two steps leave and say is what both deliver.
use Prim.Native.Nat.{ℕ, ◌+◌}
use mathlib.Core.Path.{◌≡◌, sym, ap, ◌∙◌}
use mathlib.Core.List.{List, ◌++◌, foldl}
use native.Mathlib.Omega.{arith}
use lib.ListN.{length, length-append}
use Rattle.base.specs.Choice.{bit}
use Rattle.base.proofs.Put.{put_then}
use Rattle.wire.specs.Wire.{Wire, Sent, followed}
use Rattle.wire.specs.Rack.{deliver, moved, replies}
use Rattle.wire.specs.Rack as wire
use Rattle.wire.proofs.Calls.{moved_twice}
use Rattle.wire.proofs.ForCode.{replies_append}
use Rattle.supply.specs.declared.Supply.{Supply}
use Rattle.plain.specs.Plain.{plain_supply}
use Rattle.serial.specs.View.{wire_of}
use Rattle.slots.specs.declared.Rack.{Rack}
use Rattle.slots.specs.View.{view_of, Moves, Fair}

module _ (r q : Rack) (s : Sent) (v : view_of q ≡ moved plain_supply (view_of r) s) where
  same_setup : q.setup ≡ r.setup
  same_setup = ap (λ (x : wire.Rack Supply). x.setup) v

  slots_are : q.slots ≡ foldl (deliver plain_supply r.setup) r.slots s.sent
  slots_are = ap (λ (x : wire.Rack Supply). x.slots) v

  wire_is : wire_of q.line ≡ s.wire
  wire_is = ap (λ (x : wire.Rack Supply). x.wire) v

  both_replies : (t : Sent) → replies plain_supply r.setup r.slots (followed s t).sent ≡ replies plain_supply r.setup r.slots s.sent ++ replies plain_supply q.setup q.slots t.sent
  both_replies t = rw (same_setup, slots_are) (replies_append plain_supply r.setup r.slots s.sent t.sent)

  pub moves_then : (t : Sent) (p : Rack) (b : List ℕ) (at n : ℕ) (b₁ : List ℕ) (k : ℕ) (b₂ : List ℕ) → Moves r s q b at n b₁ → Moves q t p b₁ n k b₂ → Moves r (followed s t) p b at k b₂
  moves_then t p b at n b₁ k b₂ f g =
      record {
        small = g.small;
        view = g.view ∙ ap (λ (x : wire.Rack Supply). moved plain_supply x t) v ∙ sym (moved_twice plain_supply (view_of r) s t);
        said = rw (both_replies t) (put_then f.said g.said);
      }

  pub fair_then : (t : Sent) (k j : ℕ) → Fair r s k → Fair q t j → Fair r (followed s t) (k + j)
  fair_then t k j f g =
      let k₁ : length (wire_of q.line).kept ≡ length s.wire.kept = ap (λ (x : Wire). length x.kept) wire_is in
      let k₂ : bit (wire_of q.line).spoiled ≡ bit s.wire.spoiled = ap (λ (x : Wire). bit x.spoiled) wire_is in
      record { fair = rw (both_replies t, length-append) (omega (arith, f.fair, g.fair)) }
