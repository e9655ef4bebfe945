-- The values and the final check read only what is lent for them: a problem and a workspace may stand for their parts. Assumes nothing.
use mathlib.Core.Path.{◌≡◌, refl}
use mathlib.Core.List.{List}
use Prim.Native.Nat.{ℕ}
use lib.Ieee.{Float}
use Rattle.rules.specs.Plan.{Problem, Workspace, n_of, var_min, var_max}
use Rattle.rules.specs.FinalCheck.{value_of, values_of, value_excess, row_excess, excess_at, worst_turn, worst, judged, final_check}
use Rattle.check_final.specs.Lent.{valued_of, sizes_of, rows_of, measured_of, checked_of}

-- what `values_into` and `final_check` are lent
abbrev pub valued_by : Workspace → Workspace
valued_by w = valued_of w.var_states w.basic_var_vals w.nb_var_vals

abbrev pub checked_by : Problem → Problem
checked_by P =
    let p = P.plan in
    checked_of p.columns p.tolerance p.lowers p.uppers p.starts p.cols p.coeffs p.ops p.rhs P.kept

abbrev pub measured_by : Problem → Problem
measured_by P =
    let p = P.plan in
    measured_of p.columns p.lowers p.uppers p.starts p.cols p.coeffs p.ops p.rhs P.kept

-- the rows as `row_excess` is lent them
abbrev pub rows_by : Problem → Problem
rows_by P =
    let p = P.plan in
    rows_of p.columns p.starts p.cols p.coeffs p.rhs P.kept

pub value_part : (n : ℕ) (w : Workspace) (v : ℕ) → value_of n w v ≡ value_of n (valued_by w) v
unfolding value_of
value_part n w v = refl

pub values_part : (P : Problem) (w : Workspace) → values_of P w ≡ values_of (sizes_of (n_of P) P.kept) (valued_by w)
unfolding values_of value_of
values_part P w = refl

-- the excess reads no tolerance
pub worst_part : (P : Problem) (xs : List Float) → worst P xs ≡ worst (measured_by P) xs
unfolding worst worst_turn excess_at value_excess row_excess var_min var_max
worst_part P xs = refl

pub final_part : (P : Problem) (xs : List Float) → final_check P xs ≡ final_check (checked_by P) xs
unfolding final_check judged worst worst_turn excess_at value_excess row_excess var_min var_max
final_part P xs = refl
