-- `night_doubles::lay_rows` meets its contract. Assumes nothing.
use Rattle.std.proofs.Common.{◌≡◌, ◌+◌, ◌*◌, ◌≤◌, length, refl, le_trans, arith}
use Rattle.doubles.specs.Loop.{run}
use Rattle.doubles.proofs.Loops.{filled_none, filled_more, filled_over}
use Rattle.sheet_open.proofs.Laws.{row_within}
use Rattle.night_rules.specs.Doubles.{start_at, entry_count}
use Rattle.night_doubles.specs.Laid.{cells_of}
use Rattle.night_doubles.proofs.Laws.{start_next, start_upto, cut_count, row_start, row_placed, none_laid}
use Rattle.night_doubles.proofs.lay_rows.Goals.{In-loop-i}
use Rattle.night_doubles.proofs.lay_rows.Goals as goal

-- this row's coefficients are there
inside : (c : In-loop-i) → c.loop-i.i * c.args.columns + c.args.columns ≤ length c.args.coefs.now
inside c = le_trans (row_within c.loop-i.i c.args.rows c.args.columns c.loop-i-test.true) c.requires.rows_le_max_rows.1

pub loop-i-init : goal.loop-i-init
unfolding start_at run
loop-i-init c = (refl, filled_none, none_laid _ _ _ _ _ c.requires.starts_len.1)

pub lay_row-at-requires : goal.lay_row-at-requires
unfolding entry_count
lay_row-at-requires c =
    let o = (goal.at.lay_row-at-requires c).In-loop-i in
    let a = c.args in
    let p = cells_of a.rows a.columns a.coefs.now in
    omega (
      arith,
      c.loop-i.invariant.0,
      cut_count a.coefs.now a.rows a.columns c.loop-i.i (inside o),
      start_next p c.loop-i.i,
      start_upto p (c.loop-i.i + 1) a.rows (omega (arith, c.loop-i-test.true)),
      c.requires.rows_le_max_rows.2,
    )

pub loop-i-preserved : goal.loop-i-preserved
loop-i-preserved c =
    let o = (goal.at.loop-i-preserved c).In-loop-i in
    let a = c.args in
    let l = c.loop-i in (
      row_start a.coefs.now a.rows a.columns l.i (inside o) _ _ _ _ _ _ c.lay_row-at.ensures l.invariant.0,
      filled_more l.invariant.1 (omega (arith, c.loop-i-test.true, c.requires.rows_le_max_rows.0, c.requires.starts_len.0)) l.invariant.0,
      row_placed a.coefs.now a.rows a.columns l.i (inside o) _ _ _ _ _ _ c.lay_row-at.ensures l.invariant.0 l.invariant.2,
    )

pub returns : goal.returns
unfolding entry_count
returns c =
    let l = c.loop-i in
    let q : l.i ≡ c.args.rows = omega (arith, l.auto.i-end, c.loop-i-test.false) in
    let e = rw q at l.invariant.0 in
    (filled_over (filled_more (rw q at l.invariant.1) (omega (arith, c.requires.rows_le_max_rows.0, c.requires.starts_len.0)) e), rw (← e) (rw q at l.invariant.2))
