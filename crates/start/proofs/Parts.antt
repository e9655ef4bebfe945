-- The start's numbers of a problem are those of the parts that its functions are lent. Assumes nothing.
use mathlib.Core.Path.{◌≡◌, refl}
use Rattle.rules.specs.Plan.{Problem, n_of, column}
use Rattle.rules.specs.Start.{start_vals, start_objective, start_slack, start_norm}
use Rattle.start.specs.Lent.{unruled}
use Rattle.start.specs.Reckoned.{Numbers, reckoned}

abbrev pub unruled_of : Problem → Problem
unruled_of P = let p = P.plan in unruled (n_of P) p.costs p.lowers p.uppers p.starts p.cols p.coeffs p.rhs P.kept

pub reckoned_part : (P : Problem) (s : Numbers) → reckoned P s ≡ reckoned (unruled_of P) s
unfolding reckoned start_vals start_objective start_slack start_norm column
reckoned_part P s = refl
