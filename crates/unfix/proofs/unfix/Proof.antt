-- `unfix::unfix` meets its contract: each way through it ends where the definition does. Assumes nothing.
use borrow.Author.Rules.{rules}
use mathlib.Core.Path.{◌≡◌, sym, ◌∙◌}
use mathlib.Core.Bool.{true}
use mathlib.Core.List.{List}
use Prim.Native.Nat.{ℕ}
use lib.Seq.{length-take-le, length_front}
use lib.Ieee.{Float}
use Rattle.rules.specs.Plan.{Plan, Problem, State}
use Rattle.rules.specs.Parts.{plan_of}
use Rattle.state.specs.Packed.{kept_at, objective_at}
use Rattle.state.specs.Memory.{memory_in}
use Rattle.fix_rules.specs.Fix.{unfixed}
use Rattle.fix_rules.specs.Calls.{passes44}
use Rattle.fix_gate.specs.Gate.{unfix_refusal}
use Rattle.std.specs.Prelude.{None}
use Rattle.fix_gate.proofs.Laws.{Known}
use Rattle.fix_run.proofs.Parts.{unfixed_part}
use Rattle.fix_parts.proofs.Laws.{keeps_asks, fronts_inside, front_inside, front_long, takes_asks, no_steps, budget_most, close_asks, calls}
use Rattle.fix_calls.proofs.Laws.{unfix_refuses, unfix_known, runs, place_lent, unfix_fits, unfix_goes}
use Rattle.unfix.proofs.unfix.Statement.{statement}
use Rattle.unfix.proofs.unfix.Tie as tie

abbrev p : tie.Start → Plan
p s = let a = s.args in plan_of a.columns a.rows a.entries a.budget a.tolerance a.costs.now a.lowers.now a.uppers.now a.starts.now a.cols.now a.coeffs.now a.ops.now a.rhs.now

abbrev v : tie.Start → List Float
v s = s.args.values.now

abbrev N : tie.Start → List ℕ
N s = s.args.numbers.now

abbrev D : tie.Start → List Float
D s = s.args.doubles.now

abbrev F : tie.Start → List ℕ
F s = s.args.factor_numbers.now

abbrev G : tie.Start → List Float
G s = s.args.factor_coeffs.now

-- the way back
abbrev start : tie.In_default → tie.Start
start c = search

abbrev told : tie.After-keep_rows-m → tie.In_default
told c = search

abbrev kept : tie.After-take_up-tally → tie.After-keep_rows-m
kept c = search

abbrev taken : tie.After-unfixed-ran → tie.After-take_up-tally
taken c = search

-- nothing was refused
ok : (c : tie.In_default)
    → let s = start c in None ≡ unfix_refusal (p s) (memory_in (v s) (N s) (D s) (F s) (G s)) s.args.column
ok c =
    let r : tie.After-unfix_refusal-refusal = search in
    sym c.in_default.is ∙ r.unfix_refusal-refusal.ensures

passed : (c : tie.In_default)
    → let s = start c in
    Known (p s) (v s) (N s) (D s) (F s) (G s) s.args.column × (passes44 (p s) (memory_in (v s) (N s) (D s) (F s) (G s)) s.args.column ≡ true)
passed c = let s = start c in unfix_known (p s) (v s) (N s) (D s) (F s) (G s) s.args.column (ok c)

-- the factor's arrays as they are taken up, and what the run left of its fronts and of them
abbrev H : tie.After-take_up-tally → List ℕ
H u = u.take_up-tally.new.factor_numbers

abbrev J : tie.After-take_up-tally → List Float
J u = u.take_up-tally.new.factor_coeffs

abbrev M : tie.After-unfixed-ran → List ℕ
M c = c.unfixed-ran.new.numbers

abbrev E : tie.After-unfixed-ran → List Float
E c = c.unfixed-ran.new.doubles

abbrev K : tie.After-unfixed-ran → List ℕ
K c = c.unfixed-ran.new.factor_numbers

abbrev X : tie.After-unfixed-ran → List Float
X c = c.unfixed-ran.new.factor_coeffs

unfix-refusal-requires : tie.Need-unfix_refusal-refusal-requires
unfix-refusal-requires c κs = search rules

enum-known-refusal : tie.Need-enum_known-refusal
enum-known-refusal c = search rules

same_length : tie.Need-shape_of-values-in-Some
same_length c = search rules

same-length-2 : tie.Need-shape_of-numbers-in-Some
same-length-2 c = search rules

same-length-3 : tie.Need-shape_of-doubles-in-Some
same-length-3 c = search rules

same-length-4 : tie.Need-shape_of-factor_numbers-in-Some
same-length-4 c = search rules

same-length-5 : tie.Need-shape_of-factor_coeffs-in-Some
same-length-5 c = search rules

returns : tie.Need-returns-in-Some
returns c =
    let s : tie.Start = search in
    let r : tie.After-unfix_refusal-refusal = search in
    let w : tie.In-Some = search in
    unfix_refuses (p s) (v s) (N s) (D s) (F s) (G s) s.args.column _ (sym w.in-Some.is ∙ r.unfix_refusal-refusal.ensures)

enum_told : tie.Need-enum_told-1
enum_told c = search rules

slice-aggregate-keep-rows : tie.Need-slice_bounds-keep_rows-end
slice-aggregate-keep-rows c = search rules

keep-rows-requires : tie.Need-keep_rows-m-requires
keep-rows-requires c κs =
    let t : tie.In_default = search in
    let s = start t in
    keeps_asks (p s) (v s) (N s) (D s) (F s) (G s) (passed t).0.memory

take-up-requires : tie.Need-take_up-tally-requires
take-up-requires c κs =
    let k : tie.After-keep_rows-m = search in
    let t = told k in
    let s = start t in
    takes_asks (p s) (v s) (N s) (D s) (F s) (G s) (passed t).0.memory _ _ _ k.keep_rows-m.ensures k.keep_rows-m.auto.kept

slice-relend-prefix-unfixed : tie.Need-slice_bounds-unfixed-end
slice-relend-prefix-unfixed c =
    let u : tie.After-take_up-tally = search in
    let t = told (kept u) in
    let s = start t in
    (fronts_inside (p s) (v s) (N s) (D s) (F s) (G s) (passed t).0.memory).0

slice-aggregate-unfixed : tie.Need-slice_bounds-unfixed-end-2
slice-aggregate-unfixed c =
    let u : tie.After-take_up-tally = search in
    let t = told (kept u) in
    let s = start t in
    sym (length-take-le kept_at (N s) (fronts_inside (p s) (v s) (N s) (D s) (F s) (G s) (passed t).0.memory).0)

slice-relend-prefix-unfixed-2 : tie.Need-slice_bounds-unfixed-end-3
slice-relend-prefix-unfixed-2 c =
    let u : tie.After-take_up-tally = search in
    let t = told (kept u) in
    let s = start t in
    (fronts_inside (p s) (v s) (N s) (D s) (F s) (G s) (passed t).0.memory).1

slice-aggregate-unfixed-2 : tie.Need-slice_bounds-unfixed-end-4
slice-aggregate-unfixed-2 c =
    let u : tie.After-take_up-tally = search in
    let t = told (kept u) in
    let s = start t in
    sym (length-take-le objective_at (D s) (fronts_inside (p s) (v s) (N s) (D s) (F s) (G s) (passed t).0.memory).1)

array-share-prefix-kept : tie.Need-slice_bounds-kept-end
array-share-prefix-kept c =
    let u : tie.After-take_up-tally = search in
    let k = kept u in
    let t = told k in
    let s = start t in
    front_inside (p s) (v s) (N s) (D s) (F s) (G s) (passed t).0.memory _ _ _ k.keep_rows-m.ensures k.keep_rows-m.auto.kept

slice-aggregate-unfixed-3 : tie.Need-slice_bounds-unfixed-end-5
slice-aggregate-unfixed-3 c =
    let u : tie.After-take_up-tally = search in
    let k = kept u in
    let t = told k in
    let s = start t in
    front_long (p s) (v s) (N s) (D s) (F s) (G s) (passed t).0.memory _ _ _ k.keep_rows-m.ensures k.keep_rows-m.auto.kept

unfixed-requires : tie.Need-unfixed-ran-requires
unfixed-requires c κs =
    let u : tie.After-take_up-tally = search in
    let k = kept u in
    let t = told k in
    let s = start t in
    ((runs (p s) (v s) (N s) (D s) (F s) (G s) s.args.column (passed t).0 _ _ _ k.keep_rows-m.ensures k.keep_rows-m.auto.kept (H u) (J u) u.take_up-tally.result u.take_up-tally.ensures, no_steps (p s) (v s) (N s) (D s) (F s) (G s) (passed t).0.memory _ _ _ k.keep_rows-m.ensures k.keep_rows-m.auto.kept (H u) (J u) u.take_up-tally.result u.take_up-tally.ensures, (passed t).0.column, budget_most (p s) (v s) (N s) (D s) (F s) (G s) (passed t).0.memory _ _ _ k.keep_rows-m.ensures k.keep_rows-m.auto.kept (H u) (J u) u.take_up-tally.result u.take_up-tally.ensures), place_lent (p s) (v s) (N s) (D s) (F s) (G s) s.args.column (passed t).0 _ _ _ k.keep_rows-m.ensures k.keep_rows-m.auto.kept (H u) (J u) u.take_up-tally.result u.take_up-tally.ensures (passed t).1)

array-share-prefix-kept-2 : tie.Need-slice_bounds-kept-end-2
array-share-prefix-kept-2 c =
    let r : tie.After-unfixed-ran = search in
    let u = taken r in
    let k = kept u in
    let t = told k in
    let s = start t in
    front_inside (p s) (v s) (N s) (D s) (F s) (G s) (passed t).0.memory _ _ _ k.keep_rows-m.ensures k.keep_rows-m.auto.kept

slice-aggregate-close : tie.Need-slice_bounds-close-end
slice-aggregate-close c =
    let r : tie.After-unfixed-ran = search in
    let u = taken r in
    let k = kept u in
    let t = told k in
    let s = start t in
    front_long (p s) (v s) (N s) (D s) (F s) (G s) (passed t).0.memory _ _ _ k.keep_rows-m.ensures k.keep_rows-m.auto.kept

close-requires : tie.Need-close-requires
close-requires c κs =
    let r : tie.After-unfixed-ran = search in
    let u = taken r in
    let k = kept u in
    let t = told k in
    let s = start t in
    let kn = passed t in
    close_asks (p s) (v s) (N s) (D s) (F s) (G s) (passed t).0.memory _ _ _ k.keep_rows-m.ensures k.keep_rows-m.auto.kept (H u) (J u) u.take_up-tally.result u.take_up-tally.ensures
    (λ (Q : Problem) (x : State). unfixed Q x s.args.column) (unfix_fits (p s) (v s) (N s) (D s) (F s) (G s) s.args.column kn.0) _ (λ x. unfixed_part _ x s.args.column) _ (unfix_goes (p s) (v s) (N s) (D s) (F s) (G s) s.args.column kn.0 (ok t)) r.unfixed-ran.result (M r) (E r) (K r) (X r) r.unfixed-ran.auto.numbers r.unfixed-ran.auto.doubles r.unfixed-ran.ensures

same-length-6 : tie.Need-shape_of-values
same-length-6 c = let e : tie.After-close = search in
    e.close.auto.values

same-length-7 : tie.Need-shape_of-numbers
same-length-7 c =
    let e : tie.After-close = search in
    let r : tie.After-unfixed-ran = search in
    let u = taken r in
    let k = kept u in
    let t = told k in
    let s = start t in
    e.close.auto.numbers ∙ length_front (N s) (M r) kept_at r.unfixed-ran.auto.numbers

same-length-8 : tie.Need-shape_of-doubles
same-length-8 c =
    let e : tie.After-close = search in
    let r : tie.After-unfixed-ran = search in
    let u = taken r in
    let k = kept u in
    let t = told k in
    let s = start t in
    e.close.auto.doubles ∙ length_front (D s) (E r) objective_at r.unfixed-ran.auto.doubles

same-length-9 : tie.Need-shape_of-factor_numbers
same-length-9 c =
    let r : tie.After-unfixed-ran = search in
    let u = taken r in
    r.unfixed-ran.auto.factor_numbers ∙ u.take_up-tally.auto.factor_numbers

same-length-10 : tie.Need-shape_of-factor_coeffs
same-length-10 c =
    let r : tie.After-unfixed-ran = search in
    let u = taken r in
    r.unfixed-ran.auto.factor_coeffs ∙ u.take_up-tally.auto.factor_coeffs

returns-2 : tie.Need-returns
returns-2 c =
    let e : tie.After-close = search in
    let r : tie.After-unfixed-ran = search in
    let u = taken r in
    let k = kept u in
    let t = told k in
    let s = start t in
    let kn = passed t in
    calls (p s) (v s) (N s) (D s) (F s) (G s) (passed t).0.memory _ _ _ k.keep_rows-m.ensures k.keep_rows-m.auto.kept (H u) (J u) u.take_up-tally.result u.take_up-tally.ensures
    (λ (Q : Problem) (x : State). unfixed Q x s.args.column) (unfix_fits (p s) (v s) (N s) (D s) (F s) (G s) s.args.column kn.0) _ (λ x. unfixed_part _ x s.args.column) _ (unfix_goes (p s) (v s) (N s) (D s) (F s) (G s) s.args.column kn.0 (ok t)) r.unfixed-ran.result (M r) (E r) (K r) (X r) r.unfixed-ran.auto.numbers r.unfixed-ran.auto.doubles r.unfixed-ran.ensures (e.close.ensures (K r) (X r))

pub unfix_spec : {M : Type 1} → statement M
unfix_spec =
    tie.close
    (tie.spec
    unfix-refusal-requires
    enum-known-refusal
    same_length
    same-length-2
    same-length-3
    same-length-4
    same-length-5
    returns
    enum_told
    slice-aggregate-keep-rows
    keep-rows-requires
    take-up-requires
    slice-relend-prefix-unfixed
    slice-aggregate-unfixed
    slice-relend-prefix-unfixed-2
    slice-aggregate-unfixed-2
    array-share-prefix-kept
    slice-aggregate-unfixed-3
    unfixed-requires
    array-share-prefix-kept-2
    slice-aggregate-close
    close-requires
    same-length-6
    same-length-7
    same-length-8
    same-length-9
    same-length-10
    returns-2)
