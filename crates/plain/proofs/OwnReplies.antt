-- What a class says by itself is what a supply would reply to the same line.
use Prim.Native.Nat.{ℕ}
use mathlib.Core.Path.{◌≡◌, refl}
use mathlib.Core.List.{List, []}
use mathlib.Core.Bool.{Bool, true, false, false≢true}
use Rattle.wire.specs.Wire.{Class, select, faulty, global, other}
use Rattle.supply.specs.declared.Supply.{Supply}
use Rattle.asks.specs.Asks.{Asks}
use Rattle.asks.specs.Asks.{Select, BadSelect, Everyone, Nobody, One, Error}
use Rattle.protocol.specs.Sent.{replied_to}
use Rattle.plain.specs.Plain.{class_by}

-- the bytes of a class, and whether it has any of its own
abbrev pub bytes_of : Class → List ℕ
bytes_of (select n t) = t
bytes_of (faulty t) = t
bytes_of global = []
bytes_of other = []

abbrev pub is_own : Class → Bool
is_own (select n t) = true
is_own (faulty t) = true
is_own global = false
is_own other = false

-- a class with bytes of its own has those of the reply to what the line asks
pub own_reply : (m : ℕ) (s : Supply) (t : Bool) (a : Asks) → is_own (class_by a t) ≡ true → bytes_of (class_by a t) ≡ replied_to m s a t
unfolding replied_to
own_reply m s t (Select n) e = refl
own_reply m s t (BadSelect c) e = refl
own_reply m s t Nobody e = refl
own_reply m s t (Everyone o) e = absurd (false≢true e)
own_reply m s t (One a) e = absurd (false≢true e)
own_reply m s t (Error c) e = absurd (false≢true e)
