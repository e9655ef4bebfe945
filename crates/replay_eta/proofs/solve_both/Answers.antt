-- `replay_eta::solve_both` is safe: a store that passes the tests can be read. Assumes nothing.
use Rattle.std.proofs.Common.{sym}
use mathlib.Core.Path.{◌∙◌}
use Rattle.doubles.proofs.Loops.{both_true}
use Rattle.replay_eta.proofs.Laws.{Long, long, readable, all_within_holds}
use Rattle.replay_eta.proofs.solve_both.Goals as goal

pub column_solve-requires : goal.column_solve-requires
column_solve-requires g c =
    let a = c.args in
    let z : Long a.leaving.now a.starts.now a.rows.now a.coeffs.now a.n a.entries a.at.now a.xs.now a.listed = long _ _ _ _ _ _ _ _ _ c.if-not-n-leaving.false in
    let all = both_true _ _ c.if-not-starts_rise-all_places.false in
    let two = both_true _ _ all.0 in
    let one = both_true _ _ two.0 in (
      readable _ _ _ _ _ _ _ _ _ z (sym c.starts_rise.ensures ∙ one.0) (sym c.all_places.ensures ∙ one.1) (sym c.all_places-2.ensures ∙ two.1),
      z.at_long,
      z.xs_long,
      all_within_holds a.at.now a.listed z.at_long (sym c.all_places-3.ensures ∙ all.1),
    )

pub row_solve-requires : goal.row_solve-requires
row_solve-requires g c =
    let a = c.args in
    let z : Long a.leaving.now a.starts.now a.rows.now a.coeffs.now a.n a.entries a.at.now a.xs.now a.listed = long _ _ _ _ _ _ _ _ _ c.if-not-n-leaving.false in
    let all = both_true _ _ c.if-not-starts_rise-all_places.false in
    let two = both_true _ _ all.0 in
    let one = both_true _ _ two.0 in (
      readable _ _ _ _ _ _ _ _ _ z (sym c.starts_rise.ensures ∙ one.0) (sym c.all_places.ensures ∙ one.1) (sym c.all_places-2.ensures ∙ two.1),
      z.at_long,
      z.xs_long,
      all_within_holds a.at.now a.listed z.at_long (sym c.all_places-3.ensures ∙ all.1),
    )
