-- The CV memory: whether a sample was judged CV since the output came on. Foldback trips only if it is set.
use Rattle.std.specs.Prelude.{◌&&◌}
use Rattle.supply.specs.declared.Supply.{Supply}
use Rattle.supply.specs.With.{with_cv_seen}
use Rattle.supply.specs.Flt.{on_of}

-- with the output off, a supply forgets
unfoldable pub cv_forgotten : Supply → Supply
cv_forgotten s = with_cv_seen (on_of s && s.cv_seen) s
