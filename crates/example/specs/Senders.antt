-- TWO SLOTS SEND AFTER ONE FIELD: supplies at addresses 6 and 19 report that WANT went off; the higher one is selected.
use Rattle.std.specs.Prelude.{ℕ, ◌≡◌, List, [], ◌∷◌, ◌++◌, replicate}
use Rattle.base.specs.Text.{codes}
use Rattle.wire.specs.Wire.{Call}
use Rattle.wire.specs.Rack.{fresh_rack}
use Rattle.plain.specs.Plain.{plain_supply}
use Rattle.isolation.specs.Demand3.{setup_of}
use Rattle.example.specs.Worked.{serial, yes, answers}

unfoldable pub list_of_two : List ℕ
list_of_two = replicate 6 255 ++ 0 ∷ replicate 12 255 ++ 3 ∷ replicate 11 255

-- the global that turns both off, two queries in the same field, and one more query
unfoldable pub turned_off : List Call
turned_off =
    serial "ADR 6\rFENA 40\r" ∷ serial "ADR 19\rFENA 40\r" ∷ serial "GOUT 1\r" ∷
    serial "GOUT 0\rSTAT?\r" ∷ serial "STT?\rFEVE?\r" ∷ []

-- the messages come behind the reply, the lower address first, each in two digits; nothing more is sent afterwards
abbrev pub TwoSend : Type 0
TwoSend =
    answers (fresh_rack plain_supply (setup_of list_of_two)) turned_off
    ≡ yes 17 (codes "OK\rOK\r") ∷ yes 18 (codes "OK\rOK\r") ∷ yes 10 [] ∷
    yes 16 (codes "08\r!06\r!19\r") ∷
    yes 14 (codes "MV(0.0000),PV(0.0000),MC(0.000),PC(0.000),SR(08),FR(40)\r40\r") ∷ []
