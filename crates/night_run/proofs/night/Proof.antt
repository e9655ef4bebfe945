-- `night_run::night` meets its contract: each way through it ends where the definition does. Assumes nothing.
use mathlib.Core.Path.{◌≡◌, sym, ◌∙◌}
use mathlib.Core.Bool.{true}
use mathlib.Core.List.{List, []}
use Prim.Native.Nat.{◌≤◌}
use native.Mathlib.Omega.{arith}
use lib.ListN.{length}
use lib.IntN.{ℤ}
use borrow.Author.Rules.{rules}
use borrow.Author.Tests.{not-true, not-false}
use Rattle.sheet_rules.specs.Sum.{◌‼◌}
use Rattle.sheet_rules.specs.Sheet.{Plan, plan_of}
use Rattle.sheet_terms.proofs.Machine.{word, result}
use Rattle.night_rules.specs.Arrays.{Arrays, arrays_of}
use Rattle.night_rules.specs.Stage.{found_at, Lends}
use Rattle.night_rules.specs.Night.{NightPlan, night_of, whole_end, sizes_in, plan_long, memory_long}
use Rattle.night_run.proofs.Calls.{too_big, short_plan, short_memory, few, lends, whole_long, stopped}
use Rattle.night_run.proofs.Calls.{rows_fewer, went}
use Rattle.night_run.proofs.night.Statement.{statement}
use Rattle.night_run.proofs.night.Tie as tie

abbrev p : tie.Start → Plan
p s =
    let a = s.args in
    plan_of a.rows a.columns a.coefs.now a.alarm_costs.now a.lowers.now a.uppers.now
    a.lower_marks.now a.upper_marks.now a.rhs.now a.ops.now [] []

abbrev n : tie.Start → NightPlan
n s = let a = s.args in night_of (p s) a.report_costs.now a.budget a.tolerance

abbrev lent : tie.Start → Arrays
lent s =
    let a = s.args in
    arrays_of a.values.now a.numbers.now a.doubles.now a.factor_numbers.now a.factor_coeffs.now

abbrev w : tie.Start → List ℤ
w s = s.args.whole.now

-- the way back, and what has passed
abbrev start1 : tie.Else-not-sizes_in → tie.Start
start1 e = search

abbrev sizes : tie.Else-not-plan_long → tie.Else-not-sizes_in
sizes e = search

abbrev plans : tie.Else-not-memory_long → tie.Else-not-plan_long
plans e = search

abbrev memories : tie.After-stage-first → tie.Else-not-memory_long
memories g = search

in_limits : (e : tie.Else-not-sizes_in) → sizes_in (start1 e).args.rows (start1 e).args.columns ≡ true
in_limits e = sym e.sizes_in.ensures ∙ not-false _ e.if-not-sizes_in.false-raw

long_plan_holds : (e : tie.Else-not-plan_long) → let s = start1 (sizes e) in plan_long (p s) s.args.report_costs.now ≡ true
long_plan_holds e = sym e.plan_long.ensures ∙ not-false _ e.if-not-plan_long.false-raw

long_memory_holds : (e : tie.Else-not-memory_long)
    → let s = start1 (sizes (plans e)) in memory_long s.args.rows s.args.columns (lent s) (w s) ≡ true
long_memory_holds e =
    let m : tie.After-memory_long = search in
    sym m.memory_long.ensures ∙ not-false _ e.if-not-memory_long.false-raw

lent_plan : (e : tie.Else-not-plan_long)
    → let s = start1 (sizes e) in Lends (p s) × (s.args.columns ≤ length s.args.report_costs.now)
lent_plan e = let s = start1 (sizes e) in
    lends (n s) (lent s) (w s) (in_limits (sizes e)) (long_plan_holds e)

lent_whole : (e : tie.Else-not-memory_long) → whole_end ≤ length (w (start1 (sizes (plans e))))
lent_whole e = let s = start1 (sizes (plans e)) in
    whole_long (n s) (lent s) (w s) (in_limits (sizes (plans e))) (long_plan_holds (plans e)) (long_memory_holds e)

abbrev staged : tie.After-tests-next → tie.After-stage-first
staged t = search

abbrev asked : tie.After-second_part → tie.In-None
asked d = search

abbrev tested : tie.In-None → tie.After-tests-next
tested o = search

-- the found cost, as it was read
abbrev cell : tie.After-stage-first → ℤ
cell g = g.stage-first.new.section ‼ found_at

read : (t : tie.After-tests-next) → word (cell (staged t)) ≡ cell (staged t)
read t = let f : tie.After-found-1 = search in result _ f.found-1.given

sizes-in-requires : tie.Need-sizes_in-requires
sizes-in-requires c κs = search rules

returns : tie.Need-returns-then-not-sizes_in
returns c =
    let s : tie.Start = search in
    too_big (n s) (lent s) (w s) (sym c.sizes_in.ensures ∙ not-true _ c.if-not-sizes_in.true-raw)

plan-long-requires : tie.Need-plan_long-requires
plan-long-requires c κs =
    let e : tie.Else-not-sizes_in = search in
    let s = start1 e in
    few (n s) (lent s) (w s) (in_limits e)

returns-2 : tie.Need-returns-then-not-plan_long
returns-2 c =
    let e : tie.Else-not-sizes_in = search in
    let s = start1 e in
    short_plan (n s) (lent s) (w s) (in_limits e) (sym c.plan_long.ensures ∙ not-true _ c.if-not-plan_long.true-raw)

memory-long-requires : tie.Need-memory_long-requires
memory-long-requires c κs =
    let e : tie.Else-not-plan_long = search in
    let s = start1 (sizes e) in
    few (n s) (lent s) (w s) (in_limits (sizes e))

same_length : tie.Need-shape_of-values-then-not-memory_long
same_length c = search rules

same-length-2 : tie.Need-shape_of-numbers-then-not-memory_long
same-length-2 c = search rules

same-length-3 : tie.Need-shape_of-doubles-then-not-memory_long
same-length-3 c = search rules

same-length-4 : tie.Need-shape_of-factor_numbers-then-not-memory_long
same-length-4 c = search rules

same-length-5 : tie.Need-shape_of-factor_coeffs-then-not-memory_long
same-length-5 c = search rules

same-length-6 : tie.Need-shape_of-whole-then-not-memory_long
same-length-6 c = search rules

returns-3 : tie.Need-returns-then-not-memory_long
returns-3 c =
    let e : tie.Else-not-plan_long = search in
    let m : tie.After-memory_long = search in
    let t : tie.Then-not-memory_long = search in
    let s = start1 (sizes e) in
    short_memory (n s) (lent s) (w s) (in_limits (sizes e)) (long_plan_holds e)
    (sym m.memory_long.ensures ∙ not-true _ t.if-not-memory_long.true-raw)

stage-requires : tie.Need-stage-first-requires
stage-requires c κs =
    let e : tie.Else-not-memory_long = search in
    ((lent_plan (plans e)).0, omega (arith, lent_whole e))

slice-copy-out-found : tie.Need-slice_copy_out-found
slice-copy-out-found c =
    let g : tie.After-stage-first = search in
    let e = memories g in
    omega (arith, lent_whole e, g.stage-first.auto.section)

tests-requires : tie.Need-tests-next-requires
tests-requires c κs =
    let g : tie.After-stage-first = search in
    let l = (lent_plan (plans (memories g))).0 in
    (l.rows_few, l.cols_few, l.coefs_long, l.costs_long)

enum-known-next : tie.Need-enum_known-next
enum-known-next c = search rules

enum_told : tie.Need-enum_told-1
enum_told c = search rules

second-part-requires : tie.Need-second_part-requires
second-part-requires c κs =
    let o : tie.In-None = search in
    let t = tested o in
    let g = staged t in
    let e = memories g in
    let l = lent_plan (plans e) in
    let s = start1 (sizes (plans e)) in (
      l.0,
      rows_fewer (n s) (lent s) (w s) (in_limits (sizes (plans e))) (long_plan_holds (plans e)) (long_memory_holds e)
          g.stage-first.ensures (read t) t.tests-next.ensures o.in-None.is,
      l.1,
      omega (arith, lent_whole e, g.stage-first.auto.section),
    )

same-length-7 : tie.Need-shape_of-values-in-Some
same-length-7 c = search rules

same-length-8 : tie.Need-shape_of-numbers-in-Some
same-length-8 c = search rules

same-length-9 : tie.Need-shape_of-doubles-in-Some
same-length-9 c = search rules

same-length-10 : tie.Need-shape_of-factor_numbers-in-Some
same-length-10 c = search rules

same-length-11 : tie.Need-shape_of-factor_coeffs-in-Some
same-length-11 c = search rules

same-length-12 : tie.Need-shape_of-whole-in-Some
same-length-12 c = search rules

returns-4 : tie.Need-returns-in-Some
returns-4 c =
    let t : tie.After-tests-next = search in
    let g = staged t in
    let e = memories g in
    let s = start1 (sizes (plans e)) in
    stopped (n s) (lent s) (w s) (in_limits (sizes (plans e))) (long_plan_holds (plans e)) (long_memory_holds e)
    g.stage-first.ensures (read t) t.tests-next.ensures _ c.in-Some.is

same-length-13 : tie.Need-shape_of-values-in-None
same-length-13 c =
    let d : tie.After-second_part = search in
    let g = staged (tested (asked d)) in
    d.second_part.auto.values
    ∙ g.stage-first.auto.values

same-length-14 : tie.Need-shape_of-numbers-in-None
same-length-14 c =
    let d : tie.After-second_part = search in
    let g = staged (tested (asked d)) in
    d.second_part.auto.numbers
    ∙ g.stage-first.auto.numbers

same-length-15 : tie.Need-shape_of-doubles-in-None
same-length-15 c = search rules

same-length-16 : tie.Need-shape_of-factor_numbers-in-None
same-length-16 c = search rules

same-length-17 : tie.Need-shape_of-factor_coeffs-in-None
same-length-17 c = search rules

same-length-18 : tie.Need-shape_of-whole-in-None
same-length-18 c = search rules

returns-5 : tie.Need-returns-in-None
returns-5 c =
    let d : tie.After-second_part = search in
    let o = asked d in
    let t = tested o in
    let g = staged t in
    let e = memories g in
    let s = start1 (sizes (plans e)) in
    went (n s) (lent s) (w s) (in_limits (sizes (plans e))) (long_plan_holds (plans e)) (long_memory_holds e)
    g.stage-first.ensures (read t) t.tests-next.ensures o.in-None.is d.second_part.ensures

pub night_spec : {M : Type 1} → statement M
night_spec =
    tie.close
    (tie.spec
    sizes-in-requires
    returns
    plan-long-requires
    returns-2
    memory-long-requires
    same_length
    same-length-2
    same-length-3
    same-length-4
    same-length-5
    same-length-6
    returns-3
    stage-requires
    slice-copy-out-found
    tests-requires
    enum-known-next
    enum_told
    second-part-requires
    same-length-7
    same-length-8
    same-length-9
    same-length-10
    same-length-11
    same-length-12
    returns-4
    same-length-13
    same-length-14
    same-length-15
    same-length-16
    same-length-17
    same-length-18
    returns-5)
