-- WHAT AN EVENT LEAVES IN FEVE AND IN SEVE, bit by bit. The event is a whole act; FLT and STAT after it are those of
-- the supply that it leaves.
use Rattle.std.specs.Prelude.{ℕ, ◌<◌, ◌≡◌, ◌⊎◌, Bool, false, not, ◌&&◌, ◌||◌}
use Rattle.std.specs.Int.Bits.{bit_and}
use Rattle.base.specs.Bits.{bit_at}
use Rattle.supply.specs.declared.Supply.{Supply}
use Rattle.supply.specs.declared.Order.TheVariants.{Fena, Sena, Cls, Rst}
use Rattle.supply.specs.declared.Query.{Query}
use Rattle.supply.specs.declared.Query.TheVariants as query
use Rattle.supply.specs.declared.Act.{Act}
use Rattle.supply.specs.declared.Act.TheVariants.{Obey, Ask}
use Rattle.supply.specs.With.{with_fena, with_sena}
use Rattle.supply.specs.Flt.{flt_of}
use Rattle.supply.specs.Memory.{cv_forgotten}
use Rattle.supply.specs.Stat.{stat_of}
use Rattle.acts.specs.Acts.{code_of, performed}
use Rattle.guarantees.specs.Memory.{SeenOn}

pub data Register : Type 0 where
  feve seve : Register

-- what the register holds, what it watches, what enables it, and the query that shows and clears it
abbrev pub held_in : Register → Supply → ℕ
held_in feve s = s.feve
held_in seve s = s.seve

abbrev pub watched : Register → ℕ → Supply → ℕ
watched feve m s = flt_of s
watched seve m s = stat_of m s

abbrev pub enabled_for : Register → Supply → ℕ
enabled_for feve s = s.fena
enabled_for seve s = s.sena

abbrev pub query_for : Register → Query
query_for feve = query.Feve
query_for seve = query.Seve

-- the acts that clear a register: its own query, CLS and RST
abbrev pub Clears : Register → Act → Type 0
Clears r a = (a ≡ Ask (query_for r)) ⊎ ((a ≡ Obey Cls) ⊎ (a ≡ Obey Rst))

-- bit k of what the register watches was 0 before the act and is 1 after it, and it was enabled before the act
abbrev pub gains : Register → ℕ → Supply → Act → ℕ → Bool
gains r m s a k =
    (bit_at k (watched r m (performed m s a)) && not (bit_at k (watched r m s))) && bit_at k (enabled_for r s)

pub record RegisterGain (r : Register) (m : ℕ) (s : Supply) (a : Act) : Type 0 where
  -- a refused order is no event: it leaves everything as it was
  pub refused : (code_of m s a ≡ 0 → ⊥) → performed m s a ≡ s
  -- after an accepted act that does not clear it, the register has the bits it had and those it gains
  pub bits : code_of m s a ≡ 0 → (Clears r a → ⊥) → (k : ℕ) → k < 8
      → bit_at k (held_in r (performed m s a)) ≡ (bit_at k (held_in r s) || gains r m s a k)
  -- so it stays the same number if it gains no bit
  pub none : (Clears r a → ⊥) → ((k : ℕ) → k < 8 → gains r m s a k ≡ false)
      → held_in r (performed m s a) ≡ held_in r s
  -- its own query, CLS and RST leave it 0, whatever rose
  pub clears : Clears r a → held_in r (performed m s a) ≡ 0

-- WHAT MOVES FENA AND SENA: their own orders and nothing else, RST and CLS included. These orders move nothing else: FENA
-- takes its byte as it is, SENA every bit of its byte but 4 to 6. Like every event they end a CV memory that is set with
-- the output off; where it is not set so, as in every supply that calls lead to, they move nothing else at all.
pub record EnablesKept (m : ℕ) (s : Supply) : Type 0 where
  pub fena_taken : (b : ℕ) → performed m s (Obey (Fena b)) ≡ cv_forgotten (with_fena b s)
  pub sena_taken : (b : ℕ) → performed m s (Obey (Sena b)) ≡ cv_forgotten (with_sena (bit_and b 0x8F) s)
  pub fena_alone : SeenOn s → (b : ℕ) → performed m s (Obey (Fena b)) ≡ with_fena b s
  pub sena_alone : SeenOn s → (b : ℕ) → performed m s (Obey (Sena b)) ≡ with_sena (bit_and b 0x8F) s
  pub fena_kept : (a : Act) → ((b : ℕ) → a ≡ Obey (Fena b) → ⊥) → (performed m s a).fena ≡ s.fena
  pub sena_kept : (a : Act) → ((b : ℕ) → a ≡ Obey (Sena b) → ⊥) → (performed m s a).sena ≡ s.sena
