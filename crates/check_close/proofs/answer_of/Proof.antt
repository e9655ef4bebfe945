-- `check_close::answer_of`: by why the run ends. Assumes nothing.
use native.Mathlib.Omega.{arith}
use borrow.Author.Rules.{rules}
use Rattle.rules.specs.Plan.{Problem, State}
use Rattle.rules.specs.Parts.{state_of}
use Rattle.state.specs.Packed.{packed}
use Rattle.check_final.specs.Lent.{checked_of}
use Rattle.check_final.proofs.Front.{checked_values}
use Rattle.check_close.proofs.Laws.{values_whole, ends_finished, ends_spent, ends_unbounded, ends_broken, ends_singular, ends_infeasible}
use Rattle.check_close.proofs.answer_of.Statement.{statement}
use Rattle.check_close.proofs.answer_of.Tie as tie

abbrev P : tie.Start → Problem
P s =
    let a = s.args in
    checked_of a.n a.tolerance a.lowers.now a.uppers.now a.starts.now a.cols.now a.coeffs.now a.ops.now a.rhs.now a.kept.now

abbrev S : tie.Start → State
S s = let a = s.args in state_of (packed a.numbers.now a.doubles.now) 0 a.objective a.steps

sub-values-into : tie.Need-slice_bounds-values_into-count
sub-values-into c = omega arith

part-values-into-start : tie.Need-slice_bounds-values_into-start
part-values-into-start c = omega arith

part-values-into-end : tie.Need-slice_bounds-values_into-end
part-values-into-end c = let s : tie.Start = search in
    omega (arith, s.requires.1.0)

sub-values-into-2 : tie.Need-slice_bounds-values_into-count-2
sub-values-into-2 c = omega arith

part-values-into-start-2 : tie.Need-slice_bounds-values_into-start-2
part-values-into-start-2 c = omega arith

part-values-into-end-2 : tie.Need-slice_bounds-values_into-end-2
part-values-into-end-2 c = let s : tie.Start = search in
    omega (arith, s.requires.1.1)

sub-values-into-3 : tie.Need-slice_bounds-values_into-count-3
sub-values-into-3 c = omega arith

part-values-into-start-3 : tie.Need-slice_bounds-values_into-start-3
part-values-into-start-3 c = omega arith

part-values-into-end-3 : tie.Need-slice_bounds-values_into-end-3
part-values-into-end-3 c = let s : tie.Start = search in
    omega (arith, s.requires.1.1)

values-into-requires : tie.Need-values_into-requires
values-into-requires c κs = let s : tie.Start = search in
    (s.requires.0.valued, s.requires.1.2)

enum_told : tie.Need-enum_told-1
enum_told c = search rules

final-check-requires : tie.Need-final_check-requires
final-check-requires c κs = let s : tie.Start = search in
    s.requires.0.checkable

told-requires : tie.Need-told-requires
told-requires c κs = search rules

enum-told-2 : tie.Need-enum_told-in-Spent
enum-told-2 c = search rules

enum-told-3 : tie.Need-enum_told-in-Unbounded
enum-told-3 c = search rules

enum-told-4 : tie.Need-enum_told-in-NotFinite
enum-told-4 c = search rules

enum-told-5 : tie.Need-enum_told-in-Singular
enum-told-5 c = search rules

enum-known-why : tie.Need-enum_known-why
enum-known-why c = search rules

returns : tie.Need-returns-in-Finished
returns c =
    let s : tie.Start = search in
    let v : tie.After-values_into = search in
    let e : tie.In-Finished = search in (
      ends_finished (P s) (S s) _ e.in-Finished.is (checked_values (P s) (S s).ws _ v.values_into.ensures s.requires.0.checkable.rows c.final_check.ensures) c.told.ensures,
      values_whole s.args.n s.args.kept.now (S s).ws _ v.values_into.ensures,
    )

returns-2 : tie.Need-returns-in-Spent
returns-2 c =
    let s : tie.Start = search in
    let v : tie.After-values_into = search in
    (ends_spent (P s) (S s) c.in-Spent.is, values_whole s.args.n s.args.kept.now (S s).ws _ v.values_into.ensures)

returns-3 : tie.Need-returns-in-Unbounded
returns-3 c =
    let s : tie.Start = search in
    let v : tie.After-values_into = search in
    (ends_unbounded (P s) (S s) c.in-Unbounded.is, values_whole s.args.n s.args.kept.now (S s).ws _ v.values_into.ensures)

returns-4 : tie.Need-returns-in-NotFinite
returns-4 c =
    let s : tie.Start = search in
    let v : tie.After-values_into = search in (
      ends_broken (P s) (S s) c.in-NotFinite.is,
      values_whole s.args.n s.args.kept.now (S s).ws _ v.values_into.ensures,
    )

returns-5 : tie.Need-returns-in-Singular
returns-5 c =
    let s : tie.Start = search in
    let v : tie.After-values_into = search in (
      ends_singular (P s) (S s) c.in-Singular.is,
      values_whole s.args.n s.args.kept.now (S s).ws _ v.values_into.ensures,
    )

returns-6 : tie.Need-returns-in-Infeasible
returns-6 c =
    let s : tie.Start = search in
    let v : tie.After-values_into = search in (
      ends_infeasible (P s) (S s) _ c.in-Infeasible.is,
      values_whole s.args.n s.args.kept.now (S s).ws _ v.values_into.ensures,
    )

pub answer_of_spec : {M : Type 1} → statement M
answer_of_spec =
    tie.close
    (tie.spec
    sub-values-into
    part-values-into-start
    part-values-into-end
    sub-values-into-2
    part-values-into-start-2
    part-values-into-end-2
    sub-values-into-3
    part-values-into-start-3
    part-values-into-end-3
    values-into-requires
    enum_told
    final-check-requires
    told-requires
    enum-told-2
    enum-told-3
    enum-told-4
    enum-told-5
    enum-known-why
    returns
    returns-2
    returns-3
    returns-4
    returns-5
    returns-6)
