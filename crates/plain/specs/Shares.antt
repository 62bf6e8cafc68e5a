-- WHICH LINES ARE IN A SHARE, from their own characters: a second definition of an address's share, by what the lines
-- are and not by the class that the rack gives them.
use Rattle.std.specs.Prelude.{ℕ, List, [], ◌∷◌, ◌++◌, Bool, false, not, ◌&&◌, ◌||◌, eqb}
use Rattle.base.specs.Choice.{pick}
use Rattle.wire.specs.declared.Setup.{Setup}
use Rattle.wire.specs.Machine.{given}
use Rattle.wire.specs.Wire.{Entry, line, Call, nobody, fitted}
use Rattle.wire.specs.Share.{Arrival, ended, came, stream, arrivals}
use Rattle.plain.specs.Plain.{grammar}
use Rattle.plain.specs.Classes.{is_adr, is_global, is_c02, is_c03, is_c05, address_in}

module _ (u : Setup) where
  -- whether the address takes a line that ends while `sel` is selected: nobody takes an ADR, in error or not; every
  -- fitted slot takes a well-formed global, and nobody an ill-formed one; any other line goes to the selected slot
  abbrev pub takes : ℕ → ℕ → List ℕ → Bool → Bool
  takes a sel kept spoiled =
      pick (is_adr kept spoiled) false
      (pick (is_global kept spoiled) (not (is_c02 kept || is_c03 kept) && fitted u a)
      (fitted u sel && eqb a sel))

  -- which slot is selected after it: the one that an ADR names, or nobody if that slot is empty; an ADR in error
  -- changes nothing
  abbrev pub selected_after : ℕ → List ℕ → Bool → ℕ
  selected_after sel kept spoiled =
      pick (is_adr kept spoiled && not (is_c02 kept || (is_c03 kept || is_c05 kept)))
      (pick (fitted u (address_in kept)) (address_in kept) nobody)
      sel

  -- the entries of an address among the lines and other fields of a stream, in order
  abbrev pub entries_of : ℕ → ℕ → List Arrival → List Entry
  entries_of a sel [] = []
  entries_of a sel (came b e ∷ ps) = given (eqb a b) e ++ entries_of a sel ps
  entries_of a sel (ended t ∷ ps) =
      given (takes a sel t.kept t.spoiled) (line t.kept t.spoiled) ++
      entries_of a (selected_after sel t.kept t.spoiled) ps

  -- the share for a list of calls; in a fresh rack nobody is selected
  abbrev pub share_for : List Call → ℕ → List Entry
  share_for calls a = entries_of a nobody (arrivals [] (stream grammar u calls))
