-- An entry acts like the same entry with address 0; entries that differ only in their address have that one in common.
use Prim.Native.Nat.{ℕ}
use mathlib.Core.Path.{◌≡◌, refl, sym, ap, ◌∙◌}
use mathlib.Core.List.{List, [], ◌∷◌, map, foldl}
use lib.ListN.{drop}
use Rattle.wire.specs.Wire.{Entry, field, line}
use Rattle.supply.specs.declared.Supply.{Supply}
use Rattle.acts.specs.Acts.{performed}
use Rattle.guarantees.specs.Releases.{Trip, releases}
use Rattle.supply.specs.State.{fresh}
use Rattle.field.specs.Fields.{act_of}
use Rattle.plain.specs.Plain.{step_of, reply_to, releases_of}
use Rattle.plain.specs.Unaddressed.{unaddressed, AddressUnread, AddressesUnread}

-- an entry without its address, given address 0
abbrev at_zero : Entry → Entry
at_zero (field t p) = field t (0 ∷ p)
at_zero (line kept spoiled) = line kept spoiled

abbrev moved : Entry → Entry
moved e = at_zero (unaddressed e)

act_moved : (t : ℕ) (p : List ℕ) → act_of t p ≡ act_of t (0 ∷ drop 1 p)
unfolding act_of
act_moved t [] = refl
act_moved t (a ∷ p) = refl

step_moved : (m : ℕ) (s : Supply) (e : Entry) → step_of m s e ≡ step_of m s (moved e)
unfolding step_of
step_moved m s (field t p) = ap (performed m s) (act_moved t p)
step_moved m s (line kept spoiled) = refl

reply_moved : (m : ℕ) (s : Supply) (e : Entry) → reply_to m s e ≡ reply_to m s (moved e)
unfolding reply_to
reply_moved m s (field t p) = refl
reply_moved m s (line kept spoiled) = refl

releases_moved : (m : ℕ) (k : Trip) (s : Supply) (e : Entry) → releases_of m k s e ≡ releases_of m k s (moved e)
unfolding releases_of
releases_moved m k s (field t p) = ap (releases m k s) (act_moved t p)
releases_moved m k s (line kept spoiled) = refl

pub address_unread : AddressUnread
address_unread e f same =
    let q : moved e ≡ moved f = ap at_zero same in
    record {
      step = λ m s. step_moved m s e ∙ ap (step_of m s) q ∙ sym (step_moved m s f);
      reply = λ m s. reply_moved m s e ∙ ap (reply_to m s) q ∙ sym (reply_moved m s f);
      releases = λ m k s. releases_moved m k s e ∙ ap (releases_of m k s) q ∙ sym (releases_moved m k s f);
    }

steps_moved : (m : ℕ) (s : Supply) (es : List Entry)
    → foldl (step_of m) s es ≡ foldl (step_of m) s (map at_zero (map unaddressed es))
steps_moved m s [] = refl
steps_moved m s (e ∷ es) =
    ap (λ (x : Supply). foldl (step_of m) x es) (step_moved m s e) ∙ steps_moved m (step_of m s (moved e)) es

pub addresses_unread : AddressesUnread
addresses_unread m es fs same =
    steps_moved m (fresh m) es
    ∙ ap (λ (xs : List Entry). foldl (step_of m) (fresh m) (map at_zero xs)) same
    ∙ sym (steps_moved m (fresh m) fs)
