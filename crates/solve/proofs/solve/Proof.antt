-- `solve::solve` meets its contract: each way through it ends where the definition does. Assumes nothing.
use mathlib.Core.Path.{◌≡◌, sym, ◌∙◌}
use mathlib.Core.List.{List}
use Prim.Native.Nat.{ℕ}
use lib.Seq.{length-take-le, length_front}
use lib.Ieee.{Float}
use borrow.Author.Rules.{rules}
use Rattle.rules.specs.Plan.{Plan}
use Rattle.rules.specs.Parts.{plan_of}
use Rattle.state.specs.Packed.{kept_at, objective_at}
use Rattle.state.specs.Memory.{memory_in}
use Rattle.std.specs.Prelude.{None}
use Rattle.start_gate.specs.Gate.{refusal_by}
use Rattle.solve.proofs.Laws.{was_refused, was_filled, refuses, keeps_asks, fronts_inside, front_inside, front_long, begins_asks, start_refuses, launch_asks, close_asks, solves}
use Rattle.solve.proofs.solve.Statement.{statement}
use Rattle.solve.proofs.solve.Tie as tie

abbrev p : tie.Start → Plan
p s = let a = s.args in plan_of a.columns a.rows a.entries a.budget a.tolerance a.costs.now a.lowers.now a.uppers.now a.starts.now a.cols.now a.coeffs.now a.ops.now a.rhs.now

abbrev v : tie.Start → List Float
v s = s.args.values.now

abbrev N : tie.Start → List ℕ
N s = s.args.numbers.now

abbrev D : tie.Start → List Float
D s = s.args.doubles.now

abbrev F : tie.Start → List ℕ
F s = s.args.factor_numbers.now

abbrev G : tie.Start → List Float
G s = s.args.factor_coeffs.now

-- the way back
abbrev start : tie.In_default → tie.Start
start c = search

abbrev told : tie.After-keep_rows-m → tie.In_default
told c = search

abbrev kept : tie.After-begin-begun → tie.After-keep_rows-m
kept c = search

abbrev began : tie.After-launch-ran → tie.After-begin-begun
began c = search

abbrev going : tie.After-launch-ran → tie.In-Ok
going c = search

-- 1 to 5 have passed
ok : (c : tie.In_default)
    → let s = start c in None ≡ refusal_by (p s) (memory_in (v s) (N s) (D s) (F s) (G s))
ok c =
    let r : tie.After-refusal-refusal = search in
    sym c.in_default.is ∙ r.refusal-refusal.ensures

-- what the launch left of its fronts, and of the factor's arrays
abbrev M : tie.After-launch-ran → List ℕ
M c = c.launch-ran.new.numbers

abbrev E : tie.After-launch-ran → List Float
E c = c.launch-ran.new.doubles

abbrev H : tie.After-launch-ran → List ℕ
H c = c.launch-ran.new.factor_numbers

abbrev J : tie.After-launch-ran → List Float
J c = c.launch-ran.new.factor_coeffs

refusal-requires : tie.Need-refusal-refusal-requires
refusal-requires c κs = search rules

enum-known-refusal : tie.Need-enum_known-refusal
enum-known-refusal c = search rules

same_length : tie.Need-shape_of-values-in-Some
same_length c = search rules

same-length-2 : tie.Need-shape_of-numbers-in-Some
same-length-2 c = search rules

same-length-3 : tie.Need-shape_of-doubles-in-Some
same-length-3 c = search rules

same-length-4 : tie.Need-shape_of-factor_numbers-in-Some
same-length-4 c = search rules

same-length-5 : tie.Need-shape_of-factor_coeffs-in-Some
same-length-5 c = search rules

returns : tie.Need-returns-in-Some
returns c =
    let s : tie.Start = search in
    let r : tie.After-refusal-refusal = search in
    refuses (p s) (v s) (N s) (D s) (F s) (G s) _ (sym c.in-Some.is ∙ r.refusal-refusal.ensures)

enum_told : tie.Need-enum_told-1
enum_told c = search rules

slice-aggregate-keep-rows : tie.Need-slice_bounds-keep_rows-end
slice-aggregate-keep-rows c = search rules

keep-rows-requires : tie.Need-keep_rows-m-requires
keep-rows-requires c κs =
    let t : tie.In_default = search in
    let s = start t in
    keeps_asks (p s) (v s) (N s) (D s) (F s) (G s) (ok t)

array-share-prefix-kept : tie.Need-slice_bounds-kept-end
array-share-prefix-kept c =
    let k : tie.After-keep_rows-m = search in
    let s = start (told k) in
    front_inside (p s) (v s) (N s) (D s) (F s) (G s) (ok (told k)) _ _ _ k.keep_rows-m.ensures
    k.keep_rows-m.auto.kept

slice-aggregate-begin : tie.Need-slice_bounds-begin-end
slice-aggregate-begin c =
    let k : tie.After-keep_rows-m = search in
    let s = start (told k) in
    front_long (p s) (v s) (N s) (D s) (F s) (G s) (ok (told k)) _ _ _ k.keep_rows-m.ensures
    k.keep_rows-m.auto.kept

begin-requires : tie.Need-begin-begun-requires
begin-requires c κs =
    let k : tie.After-keep_rows-m = search in
    let s = start (told k) in
    begins_asks (p s) (v s) (N s) (D s) (F s) (G s) (ok (told k)) _ _ _ k.keep_rows-m.ensures

enum-known-begun : tie.Need-enum_known-begun
enum-known-begun c = search rules

enum-known-begun-2 : tie.Need-enum_known-begun-in-Ok-1
enum-known-begun-2 c = search rules

slice-relend-prefix-launch : tie.Need-slice_bounds-launch-end
slice-relend-prefix-launch c =
    let t : tie.In_default = search in
    let s = start t in
    (fronts_inside (p s) (v s) (N s) (D s) (F s) (G s) (ok t)).0

slice-aggregate-launch : tie.Need-slice_bounds-launch-end-in-Ok
slice-aggregate-launch c =
    let t : tie.In_default = search in
    let s = start t in
    sym (length-take-le kept_at (N s) (fronts_inside (p s) (v s) (N s) (D s) (F s) (G s) (ok t)).0)

slice-relend-prefix-launch-2 : tie.Need-slice_bounds-launch-end-in-Ok-2
slice-relend-prefix-launch-2 c =
    let t : tie.In_default = search in
    let s = start t in
    (fronts_inside (p s) (v s) (N s) (D s) (F s) (G s) (ok t)).1

slice-aggregate-launch-2 : tie.Need-slice_bounds-launch-end-in-Ok-3
slice-aggregate-launch-2 c =
    let t : tie.In_default = search in
    let s = start t in
    sym (length-take-le objective_at (D s) (fronts_inside (p s) (v s) (N s) (D s) (F s) (G s) (ok t)).1)

array-share-prefix-kept-2 : tie.Need-slice_bounds-kept-end-in-Ok
array-share-prefix-kept-2 c =
    let k : tie.After-keep_rows-m = search in
    let s = start (told k) in
    front_inside (p s) (v s) (N s) (D s) (F s) (G s) (ok (told k)) _ _ _ k.keep_rows-m.ensures
    k.keep_rows-m.auto.kept

slice-aggregate-launch-3 : tie.Need-slice_bounds-launch-end-in-Ok-4
slice-aggregate-launch-3 c =
    let k : tie.After-keep_rows-m = search in
    let s = start (told k) in
    front_long (p s) (v s) (N s) (D s) (F s) (G s) (ok (told k)) _ _ _ k.keep_rows-m.ensures
    k.keep_rows-m.auto.kept

launch-requires : tie.Need-launch-ran-requires
launch-requires c κs =
    let b : tie.After-begin-begun = search in
    let g : tie.In-Ok = search in
    let k = kept b in
    let s = start (told k) in
    let x = b.begin-begun.new in
    launch_asks (p s) (v s) (N s) (D s) (F s) (G s) (ok (told k)) _ _ _ k.keep_rows-m.ensures _
    (was_filled b.begin-begun.result x.xs x.slacks x.norms _ b.begin-begun.ensures _ g.in-Ok.is)

array-share-prefix-kept-3 : tie.Need-slice_bounds-kept-end-in-Ok-2
array-share-prefix-kept-3 c =
    let l : tie.After-launch-ran = search in
    let k = kept (began l) in
    let s = start (told k) in
    front_inside (p s) (v s) (N s) (D s) (F s) (G s) (ok (told k)) _ _ _ k.keep_rows-m.ensures
    k.keep_rows-m.auto.kept

slice-aggregate-close : tie.Need-slice_bounds-close-end
slice-aggregate-close c =
    let l : tie.After-launch-ran = search in
    let k = kept (began l) in
    let s = start (told k) in
    front_long (p s) (v s) (N s) (D s) (F s) (G s) (ok (told k)) _ _ _ k.keep_rows-m.ensures
    k.keep_rows-m.auto.kept

close-requires : tie.Need-close-requires
close-requires c κs =
    let l : tie.After-launch-ran = search in
    let b = began l in
    let k = kept b in
    let s = start (told k) in
    let x = b.begin-begun.new in
    close_asks (p s) (v s) (N s) (D s) (F s) (G s) (ok (told k)) _ _ _ k.keep_rows-m.ensures _
    (was_filled b.begin-begun.result x.xs x.slacks x.norms _ b.begin-begun.ensures _ (going l).in-Ok.is)
    l.launch-ran.result (M l) (E l) (H l) (J l) l.launch-ran.auto.numbers l.launch-ran.auto.doubles l.launch-ran.ensures

same-length-6 : tie.Need-shape_of-values-in-Err
same-length-6 c = search rules

same-length-7 : tie.Need-shape_of-numbers-in-Err
same-length-7 c = search rules

same-length-8 : tie.Need-shape_of-doubles-in-Err
same-length-8 c = search rules

same-length-9 : tie.Need-shape_of-factor_numbers-in-Err
same-length-9 c = search rules

same-length-10 : tie.Need-shape_of-factor_coeffs-in-Err
same-length-10 c = search rules

returns-2 : tie.Need-returns-in-Err
returns-2 c =
    let b : tie.After-begin-begun = search in
    let k = kept b in
    let s = start (told k) in
    let x = b.begin-begun.new in
    start_refuses (p s) (v s) (N s) (D s) (F s) (G s) (ok (told k)) _ _ _ k.keep_rows-m.ensures _
    (was_refused b.begin-begun.result x.xs x.slacks x.norms _ b.begin-begun.ensures _ c.in-Err.is)

same-length-11 : tie.Need-shape_of-values-in-Ok
same-length-11 c = let e : tie.After-close = search in
    e.close.auto.values

same-length-12 : tie.Need-shape_of-numbers-in-Ok
same-length-12 c =
    let e : tie.After-close = search in
    let l : tie.After-launch-ran = search in
    let s = start (told (kept (began l))) in
    e.close.auto.numbers ∙ length_front (N s) (M l) kept_at l.launch-ran.auto.numbers

same-length-13 : tie.Need-shape_of-doubles-in-Ok
same-length-13 c =
    let e : tie.After-close = search in
    let l : tie.After-launch-ran = search in
    let s = start (told (kept (began l))) in
    e.close.auto.doubles ∙ length_front (D s) (E l) objective_at l.launch-ran.auto.doubles

same-length-14 : tie.Need-shape_of-factor_numbers-in-Ok
same-length-14 c =
    let l : tie.After-launch-ran = search in
    l.launch-ran.auto.factor_numbers

same-length-15 : tie.Need-shape_of-factor_coeffs-in-Ok
same-length-15 c =
    let l : tie.After-launch-ran = search in
    l.launch-ran.auto.factor_coeffs

returns-3 : tie.Need-returns-in-Ok
returns-3 c =
    let e : tie.After-close = search in
    let l : tie.After-launch-ran = search in
    let b = began l in
    let k = kept b in
    let s = start (told k) in
    let x = b.begin-begun.new in
    solves (p s) (v s) (N s) (D s) (F s) (G s) (ok (told k)) _ _ _ k.keep_rows-m.ensures _
    (was_filled b.begin-begun.result x.xs x.slacks x.norms _ b.begin-begun.ensures _ (going l).in-Ok.is)
    l.launch-ran.result (M l) (E l) (H l) (J l) l.launch-ran.auto.numbers l.launch-ran.auto.doubles l.launch-ran.ensures
    (e.close.ensures (H l) (J l))

pub solve_spec : {M : Type 1} → statement M
solve_spec =
    tie.close
    (tie.spec
    refusal-requires
    enum-known-refusal
    same_length
    same-length-2
    same-length-3
    same-length-4
    same-length-5
    returns
    enum_told
    slice-aggregate-keep-rows
    keep-rows-requires
    array-share-prefix-kept
    slice-aggregate-begin
    begin-requires
    enum-known-begun
    enum-known-begun-2
    slice-relend-prefix-launch
    slice-aggregate-launch
    slice-relend-prefix-launch-2
    slice-aggregate-launch-2
    array-share-prefix-kept-2
    slice-aggregate-launch-3
    launch-requires
    array-share-prefix-kept-3
    slice-aggregate-close
    close-requires
    same-length-6
    same-length-7
    same-length-8
    same-length-9
    same-length-10
    returns-2
    same-length-11
    same-length-12
    same-length-13
    same-length-14
    same-length-15
    returns-3)
