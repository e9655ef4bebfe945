-- `sheet_verdict::verdict` meets its contract. Assumes nothing.
use mathlib.Core.Path.{◌≡◌, sym, ap, ap₂, ◌∙◌}
use mathlib.Core.Bool.{Bool, true, false, ◌&&◌}
use Prim.Native.Nat.{ℕ}
use native.Mathlib.Omega.{arith}
use lib.Dec.{lit≤}
use lib.IntN.{ℤ, pos}
use borrow.Author.Tests.{not-true, not-false}
use Rattle.doubles.specs.Limits.{max_c, max_b, unit}
use Rattle.sheet_rules.specs.Sum.{◌‼◌}
use Rattle.sheet_rules.specs.Sheet.{Sheet, plan_of, kept_of, sheet_of}
use Rattle.sheet_rules.specs.Opening.{sizes_fine}
use Rattle.sheet_rules.specs.Verdict.{verdict, verdict_by, kept_fine, none_exists, gap, is_zero}
use Rattle.sheet_rules.specs.Words.{Sized, KeptIn}
use Rattle.sheet_rules.specs.declared.Verdict.TheVariants.{Gap}
use Rattle.sheet_rules.proofs.Tests.{sizes_decide, kept_decides}
use Rattle.sheet_tests.proofs.Tells.{kept_sized}
use Rattle.sheet_terms.proofs.Machine.{result, E, num, mul, exact, fit, sub}
use Rattle.sheet_verdict.proofs.verdict.Statement.{statement}
use Rattle.sheet_verdict.proofs.verdict.Tie as tie

-- the way back from each test to the one before it
abbrev start : tie.Else-not-sizes_fine → tie.Start
start c = c.before.before.before.before.before

abbrev else1 : tie.Else-not-kept_fine → tie.Else-not-sizes_fine
else1 c = c.before.before

abbrev else2 : tie.Else-none_exists → tie.Else-not-kept_fine
else2 c = c.before.before

abbrev else3 : tie.After-is_zero-2 → tie.Else-none_exists
else3 c = c.before.before.before.before

abbrev else4 : tie.After-is_zero-4 → tie.Else-not-is_zero
else4 c = c.before.before.before.before

abbrev sheet : tie.Else-not-sizes_fine → Sheet
sheet c =
    let a = (start c).args in
    sheet_of (plan_of a.rows a.columns a.coefs.now a.costs.now a.lowers.now a.uppers.now a.lower_marks.now a.upper_marks.now a.rhs.now a.ops.now a.amounts.now a.mults.now)
    (kept_of a.r.now a.d.now a.c.now a.b.now a.counts.now)

-- ---- what each test that is passed says

module _ (c : tie.Else-not-sizes_fine) where
  sizes : sizes_fine (sheet c) ≡ true
  sizes = sym c.sizes_fine.ensures ∙ not-false _ c.if-not-sizes_fine.false-raw

  sized : Sized (sheet c)
  sized = (sizes_decide (sheet c)).yes_so sizes

-- 14 not given
keeps : (c : tie.Else-not-kept_fine) → kept_fine (sheet (else1 c)) ≡ true
unfolding kept_fine
keeps c = sym c.kept_fine.ensures ∙ not-false _ c.if-not-kept_fine.false-raw

-- it doesn't show that none exists
abbrev shows : tie.Else-not-kept_fine → Bool
shows c = let s = sheet (else1 c) in none_exists s.plan.cols s.plan.costs s.kept

others : (c : tie.Else-none_exists) → shows (else2 c) ≡ false
unfolding none_exists
others c = sym c.none_exists.ensures ∙ c.if-none_exists.false

abbrev count : ℕ → tie.Else-none_exists → ℤ
count k c = (sheet (else1 (else2 c))).kept.counts ‼ k

plan : (c : tie.After-is_zero-2) → (c.is_zero.result && c.is_zero-2.result) ≡ (is_zero (count 0 (else3 c)) && is_zero (count 1 (else3 c)))
plan c =
    ap₂ ◌&&◌
    (c.is_zero.ensures ∙ ap is_zero (result (count 0 (else3 c)) c.is_zero-arg-1.given))
    (c.is_zero-2.ensures ∙ ap is_zero (result (count 1 (else3 c)) c.is_zero-arg-2-1.given))

floor : (c : tie.After-is_zero-4) → let t = else3 (else4 c).before in (c.is_zero-3.result && c.is_zero-4.result) ≡ (is_zero (count 2 t) && is_zero (count 3 t))
floor c =
    let t = else3 (else4 c).before in
    ap₂ ◌&&◌
    (c.is_zero-3.ensures ∙ ap is_zero (result (count 2 t) c.is_zero-arg-3-1.given))
    (c.is_zero-4.ensures ∙ ap is_zero (result (count 3 t) c.is_zero-arg-4-1.given))

-- 1024 * C - B
module _ (c : tie.Else-not-kept_fine) where
  abbrev s : Sheet
  s = sheet (else1 c)

  in_size : KeptIn s
  in_size = (kept_decides s).yes_so (keeps c)

  abbrev scaled : E
  scaled = mul (num (pos unit) unit (lit≤ tt)) (num (s.kept.C ‼ 0) max_c (in_size.c_in 0 (lit≤ tt)))

  abbrev whole : E
  whole = sub scaled (num (s.kept.B ‼ 0) max_b (in_size.b_in 0 (lit≤ tt)))

sizes-fine-requires : tie.Need-sizes_fine-requires
sizes-fine-requires c κs = tt

returns : tie.Need-returns-then-not-sizes_fine
unfolding verdict verdict_by
returns c = record { answers = rw (sym c.sizes_fine.ensures ∙ not-true _ c.if-not-sizes_fine.true-raw) }

kept-fine-requires : tie.Need-kept_fine-requires
kept-fine-requires c κs = kept_sized (sheet c) (sized c)

returns-2 : tie.Need-returns-then-not-kept_fine
unfolding verdict verdict_by kept_fine
returns-2 c = record { answers = rw (sizes c.before.before, sym c.kept_fine.ensures ∙ not-true _ c.if-not-kept_fine.true-raw) }

none-exists-requires : tie.Need-none_exists-requires
none-exists-requires c κs = let z = sized (else1 c) in (z.costs_fit, z.b_fits, z.counts_fit)

returns-3 : tie.Need-returns-then-none_exists
unfolding verdict verdict_by none_exists
returns-3 c = record { answers = rw (sizes (else1 c.before.before), keeps c.before.before, sym c.none_exists.ensures ∙ c.if-none_exists.true) }

shared-slice-copy-out-is-zero : tie.Need-bounds-counts-0
shared-slice-copy-out-is-zero c = omega (arith, (sized (else1 (else2 c))).counts_fit)

is-zero-requires : tie.Need-is_zero-requires
is-zero-requires c κs = tt

shared-slice-copy-out-is-zero-2 : tie.Need-bounds-counts-1
shared-slice-copy-out-is-zero-2 c = omega (arith, (sized (else1 (else2 c.before.before))).counts_fit)

is-zero-requires-2 : tie.Need-is_zero-requires-2
is-zero-requires-2 c κs = tt

returns-4 : tie.Need-returns-then-not-is_zero
unfolding verdict verdict_by
returns-4 c =
    let t = else3 c.before in
    record { answers = rw (sizes (else1 (else2 t)), keeps (else2 t), others t, sym (plan c.before) ∙ not-true _ c.if-not-is_zero.true-raw) }

shared-slice-copy-out-is-zero-3 : tie.Need-bounds-counts-2
shared-slice-copy-out-is-zero-3 c = omega (arith, (sized (else1 (else2 (else3 c.before)))).counts_fit)

is-zero-requires-3 : tie.Need-is_zero-requires-3
is-zero-requires-3 c κs = tt

shared-slice-copy-out-is-zero-4 : tie.Need-bounds-counts-3
shared-slice-copy-out-is-zero-4 c = omega (arith, (sized (else1 (else2 (else3 c.before.before.before)))).counts_fit)

is-zero-requires-4 : tie.Need-is_zero-requires-4
is-zero-requires-4 c κs = tt

returns-5 : tie.Need-returns-then-not-is_zero-2
unfolding verdict verdict_by
returns-5 c =
    let u = else4 c.before in
    let t = else3 u.before in
    record { answers = rw (sizes (else1 (else2 t)), keeps (else2 t), others t, sym (plan u.before) ∙ not-false _ u.if-not-is_zero.false-raw, sym (floor c.before) ∙ not-true _ c.if-not-is_zero-2.true-raw) }

-- from the last test back to the third
abbrev last : tie.Else-not-is_zero-2 → tie.Else-none_exists
last c = else3 (else4 c.before).before

shared-slice-copy-out-t22 : tie.Need-bounds-c-0
shared-slice-copy-out-t22 c = omega (arith, (sized (else1 (else2 (last c)))).c_fits)

mul-t24 : tie.Need-overflow_mul-result
mul-t24 c = fit (scaled (else2 (last c.before))) tt

shared-slice-copy-out-t31 : tie.Need-bounds-b-0
shared-slice-copy-out-t31 c = omega (arith, (sized (else1 (else2 (last c.before)))).b_fits)

sub-t32 : tie.Need-overflow_sub-result
sub-t32 c = fit (whole (else2 (last c.before.before))) tt

returns-6 : tie.Need-returns
unfolding verdict verdict_by gap
returns-6 c =
    let v : tie.Else-not-is_zero-2 = c.before.before in
    let u = else4 v.before in
    let t = else3 u.before in
    record {
      answers = rw (sizes (else1 (else2 t)), keeps (else2 t), others t, sym (plan u.before) ∙ not-false _ u.if-not-is_zero.false-raw, sym (floor v.before) ∙ not-false _ v.if-not-is_zero-2.false-raw)
          (ap Gap (exact (whole (else2 t)) tt));
    }

pub verdict_spec : {M : Type 1} → statement M
verdict_spec =
    tie.close
    (tie.spec
    sizes-fine-requires
    returns
    kept-fine-requires
    returns-2
    none-exists-requires
    returns-3
    shared-slice-copy-out-is-zero
    is-zero-requires
    shared-slice-copy-out-is-zero-2
    is-zero-requires-2
    returns-4
    shared-slice-copy-out-is-zero-3
    is-zero-requires-3
    shared-slice-copy-out-is-zero-4
    is-zero-requires-4
    returns-5
    shared-slice-copy-out-t22
    mul-t24
    shared-slice-copy-out-t31
    sub-t32
    returns-6)
