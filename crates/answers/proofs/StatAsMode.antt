-- STAT and MODE? agree: both go by the output and by the current at PC.
use mathlib.Core.Path.{◌≡◌, refl, ◌∙◌}
use mathlib.Core.Bool.{Bool, true, false, not, ◌&&◌}
use Prim.Native.Nat.{ℕ}
use Rattle.base.specs.Choice.{pick}
use Rattle.supply.specs.declared.Supply.{Supply}
use Rattle.supply.specs.declared.Word.TheVariants.{Off, Cc, Cv}
use Rattle.supply.specs.Flt.{on_of, in_limit}
use Rattle.supply.proofs.StatBits.{stat_bits}
use Rattle.answers.specs.Answers.{running, is_cv, is_cc, StatAsMode}

cv_by : (on limited : Bool) → (on && not limited) ≡ is_cv (pick on (pick limited Cc Cv) Off)
cv_by true true = refl
cv_by true false = refl
cv_by false limited = refl

cc_by : (on limited : Bool) → (on && limited) ≡ is_cc (pick on (pick limited Cc Cv) Off)
cc_by true true = refl
cc_by true false = refl
cc_by false limited = refl

-- STAT AND MODE? AGREE
pub stat_as_mode : (m : ℕ) (s : Supply) → StatAsMode m s
unfolding running
stat_as_mode m s =
    record {
      cv = (stat_bits m s).cv ∙ cv_by (on_of s) (in_limit m s);
      cc = (stat_bits m s).cc ∙ cc_by (on_of s) (in_limit m s);
    }
