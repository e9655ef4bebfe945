-- `reprice::reprice` meets its contract: each way through it ends where the definition does. Assumes nothing.
use borrow.Author.Rules.{rules}
use mathlib.Core.Path.{◌≡◌, sym, ◌∙◌}
use mathlib.Core.List.{List}
use Prim.Native.Nat.{ℕ}
use lib.Seq.{length-take-le, length_front}
use lib.Ieee.{Float}
use Rattle.rules.specs.Plan.{Plan}
use Rattle.rules.specs.Parts.{plan_of}
use Rattle.state.specs.Packed.{kept_at, objective_at}
use Rattle.state.specs.Memory.{memory_in}
use Rattle.fix_gate.specs.Gate.{kept_refusal}
use Rattle.std.specs.Prelude.{None}
use Rattle.fix_gate.proofs.Laws.{Kept, was_kept}
use Rattle.reprice_run.specs.Lent.{counted_end}
use Rattle.reprice_run.proofs.Laws.{counted_part}
use Rattle.fix_parts.proofs.Laws.{keeps_asks, fronts_inside, front_inside, front_long, takes_asks, close_asks, calls}
use Rattle.reprice.proofs.Laws.{refuses, goes_on, end_fits, run_asks}
use Rattle.reprice.proofs.reprice.Statement.{statement}
use Rattle.reprice.proofs.reprice.Tie as tie

abbrev p : tie.Start → Plan
p s = let a = s.args in plan_of a.columns a.rows a.entries a.budget a.tolerance a.costs.now a.lowers.now a.uppers.now a.starts.now a.cols.now a.coeffs.now a.ops.now a.rhs.now

abbrev v : tie.Start → List Float
v s = s.args.values.now

abbrev N : tie.Start → List ℕ
N s = s.args.numbers.now

abbrev D : tie.Start → List Float
D s = s.args.doubles.now

abbrev F : tie.Start → List ℕ
F s = s.args.factor_numbers.now

abbrev G : tie.Start → List Float
G s = s.args.factor_coeffs.now

-- the way back
abbrev start : tie.In_default → tie.Start
start c = search

abbrev told : tie.After-keep_rows-m → tie.In_default
told c = search

abbrev kept : tie.After-take_up-at → tie.After-keep_rows-m
kept c = search

abbrev taken : tie.After-gone_on-ran → tie.After-take_up-at
taken c = search

-- nothing was refused
ok : (c : tie.In_default)
    → let s = start c in None ≡ kept_refusal (p s) (memory_in (v s) (N s) (D s) (F s) (G s))
ok c =
    let r : tie.After-kept_refusal-refusal = search in
    sym c.in_default.is ∙ r.kept_refusal-refusal.ensures

passed : (c : tie.In_default) → let s = start c in Kept (p s) (v s) (N s) (D s) (F s) (G s)
passed c = let s = start c in was_kept (p s) (v s) (N s) (D s) (F s) (G s) (ok c)

-- the factor's arrays as they are taken up, and what the run left of its fronts and of them
abbrev H : tie.After-take_up-at → List ℕ
H u = u.take_up-at.new.factor_numbers

abbrev J : tie.After-take_up-at → List Float
J u = u.take_up-at.new.factor_coeffs

abbrev M : tie.After-gone_on-ran → List ℕ
M c = c.gone_on-ran.new.numbers

abbrev E : tie.After-gone_on-ran → List Float
E c = c.gone_on-ran.new.doubles

abbrev K : tie.After-gone_on-ran → List ℕ
K c = c.gone_on-ran.new.factor_numbers

abbrev X : tie.After-gone_on-ran → List Float
X c = c.gone_on-ran.new.factor_coeffs

kept-refusal-requires : tie.Need-kept_refusal-refusal-requires
kept-refusal-requires c κs = search rules

enum-known-refusal : tie.Need-enum_known-refusal
enum-known-refusal c = search rules

same_length : tie.Need-shape_of-values-in-Some
same_length c = search rules

same-length-2 : tie.Need-shape_of-numbers-in-Some
same-length-2 c = search rules

same-length-3 : tie.Need-shape_of-doubles-in-Some
same-length-3 c = search rules

same-length-4 : tie.Need-shape_of-factor_numbers-in-Some
same-length-4 c = search rules

same-length-5 : tie.Need-shape_of-factor_coeffs-in-Some
same-length-5 c = search rules

returns : tie.Need-returns-in-Some
returns c =
    let s : tie.Start = search in
    let r : tie.After-kept_refusal-refusal = search in
    let w : tie.In-Some = search in
    refuses (p s) (v s) (N s) (D s) (F s) (G s) _ (sym w.in-Some.is ∙ r.kept_refusal-refusal.ensures)

enum_told : tie.Need-enum_told-1
enum_told c = search rules

slice-aggregate-keep-rows : tie.Need-slice_bounds-keep_rows-end
slice-aggregate-keep-rows c = search rules

keep-rows-requires : tie.Need-keep_rows-m-requires
keep-rows-requires c κs =
    let t : tie.In_default = search in
    let s = start t in
    keeps_asks (p s) (v s) (N s) (D s) (F s) (G s) (passed t)

take-up-requires : tie.Need-take_up-at-requires
take-up-requires c κs =
    let k : tie.After-keep_rows-m = search in
    let t = told k in
    let s = start t in
    takes_asks (p s) (v s) (N s) (D s) (F s) (G s) (passed t) _ _ _ k.keep_rows-m.ensures k.keep_rows-m.auto.kept

slice-relend-prefix-gone-on : tie.Need-slice_bounds-gone_on-end
slice-relend-prefix-gone-on c =
    let u : tie.After-take_up-at = search in
    let t = told (kept u) in
    let s = start t in
    (fronts_inside (p s) (v s) (N s) (D s) (F s) (G s) (passed t)).0

slice-aggregate-gone-on : tie.Need-slice_bounds-gone_on-end-2
slice-aggregate-gone-on c =
    let u : tie.After-take_up-at = search in
    let t = told (kept u) in
    let s = start t in
    sym (length-take-le kept_at (N s) (fronts_inside (p s) (v s) (N s) (D s) (F s) (G s) (passed t)).0)

slice-relend-prefix-gone-on-2 : tie.Need-slice_bounds-gone_on-end-3
slice-relend-prefix-gone-on-2 c =
    let u : tie.After-take_up-at = search in
    let t = told (kept u) in
    let s = start t in
    (fronts_inside (p s) (v s) (N s) (D s) (F s) (G s) (passed t)).1

slice-aggregate-gone-on-2 : tie.Need-slice_bounds-gone_on-end-4
slice-aggregate-gone-on-2 c =
    let u : tie.After-take_up-at = search in
    let t = told (kept u) in
    let s = start t in
    sym (length-take-le objective_at (D s) (fronts_inside (p s) (v s) (N s) (D s) (F s) (G s) (passed t)).1)

array-share-prefix-kept : tie.Need-slice_bounds-kept-end
array-share-prefix-kept c =
    let u : tie.After-take_up-at = search in
    let k = kept u in
    let t = told k in
    let s = start t in
    front_inside (p s) (v s) (N s) (D s) (F s) (G s) (passed t) _ _ _ k.keep_rows-m.ensures k.keep_rows-m.auto.kept

slice-aggregate-gone-on-3 : tie.Need-slice_bounds-gone_on-end-5
slice-aggregate-gone-on-3 c =
    let u : tie.After-take_up-at = search in
    let k = kept u in
    let t = told k in
    let s = start t in
    front_long (p s) (v s) (N s) (D s) (F s) (G s) (passed t) _ _ _ k.keep_rows-m.ensures k.keep_rows-m.auto.kept

gone-on-requires : tie.Need-gone_on-ran-requires
gone-on-requires c κs =
    let u : tie.After-take_up-at = search in
    let k = kept u in
    let t = told k in
    let s = start t in
    run_asks (p s) (v s) (N s) (D s) (F s) (G s) (passed t) _ _ _ k.keep_rows-m.ensures k.keep_rows-m.auto.kept (H u) (J u) u.take_up-at.result u.take_up-at.ensures

array-share-prefix-kept-2 : tie.Need-slice_bounds-kept-end-2
array-share-prefix-kept-2 c =
    let r : tie.After-gone_on-ran = search in
    let u = taken r in
    let k = kept u in
    let t = told k in
    let s = start t in
    front_inside (p s) (v s) (N s) (D s) (F s) (G s) (passed t) _ _ _ k.keep_rows-m.ensures k.keep_rows-m.auto.kept

slice-aggregate-close : tie.Need-slice_bounds-close-end
slice-aggregate-close c =
    let r : tie.After-gone_on-ran = search in
    let u = taken r in
    let k = kept u in
    let t = told k in
    let s = start t in
    front_long (p s) (v s) (N s) (D s) (F s) (G s) (passed t) _ _ _ k.keep_rows-m.ensures k.keep_rows-m.auto.kept

close-requires : tie.Need-close-requires
close-requires c κs =
    let r : tie.After-gone_on-ran = search in
    let u = taken r in
    let k = kept u in
    let t = told k in
    let s = start t in
    close_asks (p s) (v s) (N s) (D s) (F s) (G s) (passed t) _ _ _ k.keep_rows-m.ensures k.keep_rows-m.auto.kept (H u) (J u) u.take_up-at.result u.take_up-at.ensures
    counted_end (end_fits (p s) (v s) (N s) (D s) (F s) (G s) (ok t)) _ (λ x. counted_part _ x) _ (goes_on (p s) (v s) (N s) (D s) (F s) (G s) (ok t)) r.gone_on-ran.result (M r) (E r) (K r) (X r) r.gone_on-ran.auto.numbers r.gone_on-ran.auto.doubles r.gone_on-ran.ensures

same-length-6 : tie.Need-shape_of-values
same-length-6 c = let e : tie.After-close = search in
    e.close.auto.values

same-length-7 : tie.Need-shape_of-numbers
same-length-7 c =
    let e : tie.After-close = search in
    let r : tie.After-gone_on-ran = search in
    let u = taken r in
    let k = kept u in
    let t = told k in
    let s = start t in
    e.close.auto.numbers ∙ length_front (N s) (M r) kept_at r.gone_on-ran.auto.numbers

same-length-8 : tie.Need-shape_of-doubles
same-length-8 c =
    let e : tie.After-close = search in
    let r : tie.After-gone_on-ran = search in
    let u = taken r in
    let k = kept u in
    let t = told k in
    let s = start t in
    e.close.auto.doubles ∙ length_front (D s) (E r) objective_at r.gone_on-ran.auto.doubles

same-length-9 : tie.Need-shape_of-factor_numbers
same-length-9 c =
    let r : tie.After-gone_on-ran = search in
    let u = taken r in
    r.gone_on-ran.auto.factor_numbers ∙ u.take_up-at.auto.factor_numbers

same-length-10 : tie.Need-shape_of-factor_coeffs
same-length-10 c =
    let r : tie.After-gone_on-ran = search in
    let u = taken r in
    r.gone_on-ran.auto.factor_coeffs ∙ u.take_up-at.auto.factor_coeffs

returns-2 : tie.Need-returns
returns-2 c =
    let e : tie.After-close = search in
    let r : tie.After-gone_on-ran = search in
    let u = taken r in
    let k = kept u in
    let t = told k in
    let s = start t in
    calls (p s) (v s) (N s) (D s) (F s) (G s) (passed t) _ _ _ k.keep_rows-m.ensures k.keep_rows-m.auto.kept (H u) (J u) u.take_up-at.result u.take_up-at.ensures
    counted_end (end_fits (p s) (v s) (N s) (D s) (F s) (G s) (ok t)) _ (λ x. counted_part _ x) _ (goes_on (p s) (v s) (N s) (D s) (F s) (G s) (ok t)) r.gone_on-ran.result (M r) (E r) (K r) (X r) r.gone_on-ran.auto.numbers r.gone_on-ran.auto.doubles r.gone_on-ran.ensures (e.close.ensures (K r) (X r))

pub reprice_spec : {M : Type 1} → statement M
reprice_spec =
    tie.close
    (tie.spec
    kept-refusal-requires
    enum-known-refusal
    same_length
    same-length-2
    same-length-3
    same-length-4
    same-length-5
    returns
    enum_told
    slice-aggregate-keep-rows
    keep-rows-requires
    take-up-requires
    slice-relend-prefix-gone-on
    slice-aggregate-gone-on
    slice-relend-prefix-gone-on-2
    slice-aggregate-gone-on-2
    array-share-prefix-kept
    slice-aggregate-gone-on-3
    gone-on-requires
    array-share-prefix-kept-2
    slice-aggregate-close
    close-requires
    same-length-6
    same-length-7
    same-length-8
    same-length-9
    same-length-10
    returns-2)
