-- `night_doubles::lay_row` meets its contract. Assumes nothing.
use Rattle.std.proofs.Common.{◌≡◌, ℕ, ℤ, ◌+◌, ◌<◌, false, length, sym, ap, ◌∙◌, arith}
use Rattle.doubles.specs.Limits.{max_entries}
use Rattle.sheet_rules.specs.Sum.{◌‼◌}
use Rattle.sheet_rules.specs.Verdict.{is_zero}
use Rattle.sheet_terms.proofs.Machine.{result, word}
use Rattle.night_rules.specs.Doubles.{as_double}
use Rattle.night_doubles.proofs.Laws.{nonzeros_upto, count_one, row_begun, cell_passed, cell_laid}
use Rattle.night_doubles.proofs.lay_row.Goals.{After-is_zero, then-not-is_zero, else-not-is_zero}
use Rattle.night_doubles.proofs.lay_row.Goals as goal

module _ (c : After-is_zero) where
  abbrev row : ℕ → ℤ
  row i = c.args.row.now ‼ i

  -- the coefficient that the machine reads
  own : word (row c.loop-j.j) ≡ row c.loop-j.j
  own = result (row c.loop-j.j) search

  -- this turn's test
  tested : is_zero (row c.loop-j.j) ≡ c.is_zero.result
  tested = sym (c.is_zero.ensures ∙ ap is_zero own)

  -- the next cell is there
  room : c.is_zero.result ≡ false → c.loop-j.k < max_entries
  room h =
      omega (
        arith,
        c.requires,
        c.loop-j.invariant.row_counted,
        c.loop-j-test.true,
        count_one row c.loop-j.j (tested ∙ h),
        nonzeros_upto row (c.loop-j.j + 1) (length c.args.row.now) (omega (arith, c.loop-j-test.true)),
      )

pub loop-j-init : goal.loop-j-init
loop-j-init c = row_begun _ _ _ _

pub offset_bounds-cols-k : goal.offset_bounds-cols-k
offset_bounds-cols-k c = omega (arith, room (goal.at.offset_bounds-cols-k c).After-is_zero c.if-not-is_zero.true)

pub bounds-cols-k : goal.bounds-cols-k
bounds-cols-k c = omega (arith, room (goal.at.bounds-cols-k c).After-is_zero c.if-not-is_zero.true)

pub offset_bounds-coeffs-k : goal.offset_bounds-coeffs-k
offset_bounds-coeffs-k c = omega (arith, room (goal.at.offset_bounds-coeffs-k c).After-is_zero c.if-not-is_zero.true)

pub bounds-coeffs-k : goal.bounds-coeffs-k
bounds-coeffs-k c = omega (arith, room (goal.at.bounds-coeffs-k c).After-is_zero c.if-not-is_zero.true)

pub overflow_add-k : goal.overflow_add-k
overflow_add-k c = omega (arith, room (goal.at.overflow_add-k c).After-is_zero c.if-not-is_zero.true)

pub loop-j-preserved : goal.loop-j-preserved
loop-j-preserved c =
    let q = (goal.at.loop-j-preserved c).After-is_zero in
    let a = c.args in
    let l = c.loop-j in
    elim c.if-not-is_zero.branch [
      | then-not-is_zero w ↦ rw (w.cols-is, w.coeffs-is, w.k-is)
          (cell_laid (row q) a.at a.cols.now a.coeffs.now l.j l.k l.cols l.coeffs l.invariant w.nearest_i64_to_f64.result (tested q ∙ w.if-not-is_zero.true) (room q w.if-not-is_zero.true) (w.nearest_i64_to_f64.ensures ∙ ap as_double (own q)))
      | else-not-is_zero w ↦ rw (w.cols-is, w.coeffs-is, w.k-is)
          (cell_passed (row q) a.at a.cols.now a.coeffs.now l.j l.k l.cols l.coeffs l.invariant (tested q ∙ w.if-not-is_zero.false))
    ]
