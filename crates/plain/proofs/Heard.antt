-- What holds for every command with its parameter, for the empty line and for each error holds for whatever a line
-- asks.
use Prim.Native.Nat.{ℕ}
use mathlib.Core.List.{List}
use mathlib.Core.Bool.{Bool, true, false}
use Rattle.base.specs.Choice.{pick}
use Rattle.base.proofs.Choice.{pick_keeps}
use Rattle.words.specs.Words.{upper_all}
use Rattle.supply.specs.declared.Act.TheVariants.{Nothing}
use Rattle.asks.specs.Asks.{Asks}
use Rattle.asks.specs.Asks.{One, Error}
use Rattle.parameters.specs.Parameters.{c01, c04, is_empty}
use Rattle.asks.specs.Words.{Command, command_of, asked_by}
use Rattle.asks.specs.Asked.{word_of, parameter_text, asks_of}
use Rattle.command.specs.Lines.{has_checksum, right_checksum, before_checksum, heard_as, heard_of}

module _ (P : Asks → Type 0) (empty : P (One Nothing)) (error : (c : ℕ) → P (Error c))
    (word : (k : Command) (x : List ℕ) → P (asked_by k x)) where
  asks_have : (u : List ℕ) → P (asks_of u)
  unfolding asks_of
  asks_have u =
      pick_keeps P (is_empty u) (One Nothing) (asked_by (command_of (upper_all (word_of u))) (parameter_text u))
      empty (word (command_of (upper_all (word_of u))) (parameter_text u))

  pub heard_has : (kept : List ℕ) (spoiled : Bool) → P (heard_of kept spoiled).asks
  unfolding heard_of
  heard_has kept true = error c01
  heard_has kept false = by_checksum (has_checksum kept) (right_checksum kept)
    where
      by_checksum : (h r : Bool)
          → P (pick h
          (pick r (heard_as (asks_of (before_checksum kept)) true) (heard_as (Error c04) false))
          (heard_as (asks_of kept) false)).asks
      by_checksum true true = asks_have (before_checksum kept)
      by_checksum true false = error c04
      by_checksum false r = asks_have kept
