-- `step::decide` meets its contract: each call's answer is the definition's, and each test. Assumes nothing.
use borrow.Author.Rules.{rules}
use mathlib.Core.Path.{◌≡◌, refl, sym, ap, ◌∙◌}
use mathlib.Core.List.{List}
use Prim.Native.Nat.{ℕ}
use lib.Ieee.{Float}
use borrow.Author.Tests.{not-true, not-false}
use Rattle.doubles.specs.Lists.{◌#◌}
use Rattle.sparse.specs.Scattered.{Sv, sv}
use Rattle.rules.specs.Plan.{Problem, State}
use Rattle.rules.specs.Parts.{rowed}
use Rattle.rules.specs.Basis.{column_coeffs}
use Rattle.rules.specs.Pivot.{flip_finite, new_objective}
use Rattle.rules.specs.declared.Ratio.TheVariants.{Pivot, Unbounded, NotFinite}
use Rattle.basis_columns.specs.Columns.{ByColumns}
use Rattle.basis_columns.proofs.Callers.{columns_part}
use Rattle.state.specs.Packed.{state_in}
use Rattle.step_refactor.specs.Left.{stepped}
use Rattle.step.specs.Found.{by_ratio, by_pivot}
use Rattle.step.proofs.Laws.{column_asks, listed_asks, ratio_asks, column_listing, found_bad, found_ratio, found_flip, found_unsound}
use Rattle.step.proofs.decide.Statement.{statement}
use Rattle.step.proofs.decide.Tie as tie

-- the state at entry, and the problem with the rows that the columns are of
abbrev S : tie.Start → State
S s = state_in s.args.numbers.now s.args.doubles.now s.args.factor_numbers.now s.args.factor_coeffs.now s.args.at

abbrev Q : tie.Start → List ℕ → List ℕ → List Float → Problem
Q s starts cols coeffs = stepped s.args.n s.args.lowers.now s.args.uppers.now starts cols coeffs s.args.ops.now s.args.kept.now

abbrev Turned : tie.Start → List ℕ → List ℕ → List Float → Type 0
Turned s starts cols coeffs = ByColumns (rowed s.args.n starts cols coeffs s.args.kept.now) s.args.cstarts.now s.args.crows.now s.args.ccoeffs.now

-- the way back to the entry, and the column that the solve leaves
abbrev entry : tie.After-column-count → tie.Start
entry b = search

abbrev vec : tie.After-column-count → Sv
vec b = let l = b.column-count.new in sv l.values l.marks l.list b.column-count.result

is_column : (b : tie.After-column-count) (starts cols : List ℕ) (coeffs : List Float) → Turned (entry b) starts cols coeffs
    → vec b ≡ column_coeffs (Q (entry b) starts cols coeffs) (S (entry b)) ((S (entry b)).ws.nb_vars # (entry b).args.e.col)
is_column b starts cols coeffs m = b.column-count.ensures (Q (entry b) starts cols coeffs) refl refl (columns_part (Q (entry b) starts cols coeffs) m)

column_asked : (b : tie.After-column-count) → vec b ≡ column_coeffs (Q (entry b) (entry b).requires.1.0.starts (entry b).requires.1.0.cols (entry b).requires.1.0.coeffs) (S (entry b)) ((S (entry b)).ws.nb_vars # (entry b).args.e.col)
column_asked b = let a = (entry b).requires.1.0 in is_column b a.starts a.cols a.coeffs a.by_columns

-- and from place to place
abbrev column_at_holds : tie.Else-not-listed_finite → tie.After-column-count
column_at_holds x = search

abbrev test_at : tie.After-ratio-found → tie.Else-not-listed_finite
test_at r = search

abbrev ratio-at : tie.In-Pivot → tie.After-ratio-found
ratio-at f = search

abbrev flip-at : tie.In-Flip → tie.In-Pivot
flip-at p = search

abbrev exchange-at : tie.In-Exchange → tie.In-Pivot
exchange-at p = search

column-requires : tie.Need-column-count-requires
column-requires c κs = let s : tie.Start = search in let a = s.requires.1.0 in let q = column_asks a.ready s.args.e s.requires.1.1 a.by_columns a.starts_long in ((a.ready.sized, s.requires.0, q.0), (q.1, q.2))

listed-finite-requires : tie.Need-listed_finite-requires
listed-finite-requires c κs = let b : tie.After-column-count = search in let a = (entry b).requires.1.0 in listed_asks a.ready (entry b).args.e (entry b).requires.1.1 (column_asked b)

returns : tie.Need-returns-then-not-listed_finite
returns c st co cf m =
    let b : tie.After-column-count = search in
    let s = entry b in
    found_bad (Q s st co cf) (S s) s.args.e (vec b) (is_column b st co cf m) (sym (c.listed_finite.ensures _) ∙ not-true _ c.if-not-listed_finite.true-raw)

ratio-requires : tie.Need-ratio-found-requires
ratio-requires c κs = let b : tie.After-column-count = search in let a = (entry b).requires.1.0 in (a.ready.sized, ratio_asks a.ready (entry b).args.e (entry b).requires.1.1 (column_asked b))

enum_told : tie.Need-enum_told-1
enum_told c = search rules

returns-2 : tie.Need-returns-in-NotFinite
unfolding by_ratio by_pivot
returns-2 c st co cf m =
    let r : tie.After-ratio-found = search in
    let x = test_at r in
    let b = column_at_holds x in
    let s = entry b in
    let q : r.ratio-found.result ≡ NotFinite = c.in-NotFinite.is in
    found_ratio (Q s st co cf) (S s) s.args.e (vec b) (is_column b st co cf m) (sym (x.listed_finite.ensures _) ∙ not-false _ x.if-not-listed_finite.false-raw) NotFinite (sym q ∙ r.ratio-found.ensures _)

enum-told-2 : tie.Need-enum_told-in-Unbounded
enum-told-2 c = search rules

returns-3 : tie.Need-returns-in-Unbounded
unfolding by_ratio by_pivot
returns-3 c st co cf m =
    let r : tie.After-ratio-found = search in
    let x = test_at r in
    let b = column_at_holds x in
    let s = entry b in
    let q : r.ratio-found.result ≡ Unbounded = c.in-Unbounded.is in
    found_ratio (Q s st co cf) (S s) s.args.e (vec b) (is_column b st co cf m) (sym (x.listed_finite.ensures _) ∙ not-false _ x.if-not-listed_finite.false-raw) Unbounded (sym q ∙ r.ratio-found.ensures _)

enum-known-found : tie.Need-enum_known-found
enum-known-found c = search rules

enum-known-pivot : tie.Need-enum_known-pivot
enum-known-pivot c = search rules

flip-finite-requires : tie.Need-flip_finite-requires
flip-finite-requires c κs = let b : tie.After-column-count = search in let a = (entry b).requires.1.0 in (a.ready.sized.doubles_long, column_listing a.ready (entry b).args.e (entry b).requires.1.1 (column_asked b))

returns-4 : tie.Need-returns-then-not-flip_finite
unfolding flip_finite new_objective
returns-4 c st co cf m =
    let p : tie.In-Flip = search in
    let f = flip-at p in
    let r = ratio-at f in
    let x = test_at r in
    let b = column_at_holds x in
    let s = entry b in
    found_unsound (Q s st co cf) (S s) s.args.e (vec b) (is_column b st co cf m) (sym (x.listed_finite.ensures _) ∙ not-false _ x.if-not-listed_finite.false-raw) _ _ (sym (f.in-Pivot.is ∙ ap Pivot p.in-Flip.is) ∙ r.ratio-found.ensures _) (sym (c.flip_finite.ensures (Q s st co cf) s.args.numbers.now _) ∙ not-true _ c.if-not-flip_finite.true-raw)

returns-5 : tie.Need-returns-in-Flip
unfolding flip_finite new_objective
returns-5 c st co cf m =
    let p : tie.In-Flip = search in
    let f = flip-at p in
    let r = ratio-at f in
    let x = test_at r in
    let b = column_at_holds x in
    let s = entry b in
    found_flip (Q s st co cf) (S s) s.args.e (vec b) (is_column b st co cf m) (sym (x.listed_finite.ensures _) ∙ not-false _ x.if-not-listed_finite.false-raw) _ _ (sym (f.in-Pivot.is ∙ ap Pivot p.in-Flip.is) ∙ r.ratio-found.ensures _) (sym (c.flip_finite.ensures (Q s st co cf) s.args.numbers.now _) ∙ not-false _ c.if-not-flip_finite.false-raw)

enum-known-pivot-2 : tie.Need-enum_known-pivot-in-Pivot
enum-known-pivot-2 c = search rules

returns-6 : tie.Need-returns-in-Exchange
unfolding by_ratio by_pivot
returns-6 c st co cf m =
    let p : tie.In-Exchange = search in
    let f = exchange-at p in
    let r = ratio-at f in
    let x = test_at r in
    let b = column_at_holds x in
    let s = entry b in
    found_ratio (Q s st co cf) (S s) s.args.e (vec b) (is_column b st co cf m) (sym (x.listed_finite.ensures _) ∙ not-false _ x.if-not-listed_finite.false-raw) _ (sym (f.in-Pivot.is ∙ ap Pivot p.in-Exchange.is) ∙ r.ratio-found.ensures _)

pub decide_spec : {M : Type 1} → statement M
decide_spec =
    tie.close
    (tie.spec
    column-requires
    listed-finite-requires
    returns
    ratio-requires
    enum_told
    returns-2
    enum-told-2
    returns-3
    enum-known-found
    enum-known-pivot
    flip-finite-requires
    returns-4
    returns-5
    enum-known-pivot-2
    returns-6)
