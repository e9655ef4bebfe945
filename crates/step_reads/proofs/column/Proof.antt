-- `step_reads::column` meets its contract: the solve reads the eta store and the factor alone, and the variable stands
-- in its section. Assumes nothing.
use borrow.Author.Rules.{rules}
use mathlib.Core.Path.{◌≡◌, ap, sym, subst, ◌∙◌}
use Prim.Native.Nat.{ℕ, ◌+◌}
use Rattle.doubles.specs.Limits.{max_columns}
use Rattle.doubles.specs.Lists.{◌#◌}
use Rattle.rules.specs.Basis.{column_coeffs}
use Rattle.rules.specs.Invariant.{Vector}
use Rattle.basis_columns.specs.Loading.{column_on, ColumnLent}
use Rattle.basis_solves.proofs.Laws.{untimed}
use Rattle.state.specs.Packed.{packed, state_in, nb_vars_at}
use Rattle.state.proofs.Sections.{section_at}
use Rattle.step_reads.proofs.column.Statement.{statement}
use Rattle.step_reads.proofs.column.Tie as tie

-- the entering variable
var_is : (s : tie.Start) → (packed s.args.numbers.now s.args.doubles.now).nb_vars # s.args.col ≡ s.args.numbers.now # (nb_vars_at + s.args.col)
var_is s = section_at nb_vars_at max_columns s.args.numbers.now s.args.col 0 s.requires.0.2

add-var : tie.Need-overflow_add-var
add-var c = search rules

mul-var : tie.Need-offset_bounds-numbers-col
mul-var c = search rules

shared-slice-read-var : tie.Need-bounds-numbers-col
shared-slice-read-var c = search rules

sub-col-coeffs : tie.Need-slice_bounds-col_coeffs-count
sub-col-coeffs c = search rules

part-col-coeffs-start : tie.Need-slice_bounds-col_coeffs-start
part-col-coeffs-start c = search rules

part-col-coeffs-end : tie.Need-slice_bounds-col_coeffs-end
part-col-coeffs-end c = search rules

sub-col-coeffs-2 : tie.Need-slice_bounds-col_coeffs-count-2
sub-col-coeffs-2 c = search rules

part-col-coeffs-start-2 : tie.Need-slice_bounds-col_coeffs-start-2
part-col-coeffs-start-2 c = search rules

part-col-coeffs-end-2 : tie.Need-slice_bounds-col_coeffs-end-2
part-col-coeffs-end-2 c = search rules

sub-col-coeffs-3 : tie.Need-slice_bounds-col_coeffs-count-3
sub-col-coeffs-3 c = search rules

part-col-coeffs-start-3 : tie.Need-slice_bounds-col_coeffs-start-3
part-col-coeffs-start-3 c = search rules

part-col-coeffs-end-3 : tie.Need-slice_bounds-col_coeffs-end-3
part-col-coeffs-end-3 c = search rules

sub-col-coeffs-4 : tie.Need-slice_bounds-col_coeffs-count-4
sub-col-coeffs-4 c = search rules

part-col-coeffs-start-4 : tie.Need-slice_bounds-col_coeffs-start-4
part-col-coeffs-start-4 c = search rules

part-col-coeffs-end-4 : tie.Need-slice_bounds-col_coeffs-end-4
part-col-coeffs-end-4 c = search rules

col-coeffs-requires : tie.Need-col_coeffs-requires
col-coeffs-requires c κs =
    let s : tie.Start = search in
    let a = s.args in
    let p = s.requires.1 in (
      (s.requires.0.1, subst (ColumnLent _ _ _ _) (var_is s) p.0.0),
      (
        subst (λ (v : ℕ). Vector a.m (column_on a.cstarts.now a.crows.now a.ccoeffs.now a.n v))
            (var_is s) p.0.1,
        p.1.0,
        untimed p.1.1,
      ),
    )

returns : tie.Need-returns
unfolding column_coeffs
returns c P q r b =
    let s : tie.Start = search in
    let a = s.args in
    let t = state_in a.numbers.now a.doubles.now a.factor_numbers.now a.factor_coeffs.now a.at in
    c.col_coeffs.ensures P a.at.factorings q r b ∙ ap (column_coeffs P t) (sym (var_is s))

pub column_spec : {M : Type 1} → statement M
column_spec =
    tie.close
    (tie.spec
    add-var
    mul-var
    shared-slice-read-var
    sub-col-coeffs
    part-col-coeffs-start
    part-col-coeffs-end
    sub-col-coeffs-2
    part-col-coeffs-start-2
    part-col-coeffs-end-2
    sub-col-coeffs-3
    part-col-coeffs-start-3
    part-col-coeffs-end-3
    sub-col-coeffs-4
    part-col-coeffs-start-4
    part-col-coeffs-end-4
    col-coeffs-requires
    returns)
