-- `replay_eta::column_solve` is safe: a fresh vector, loaded, is a good one. Assumes nothing.
use Rattle.std.proofs.Common.{subst, sym}
use Rattle.doubles.specs.Limits.{places}
use Rattle.sparse.specs.Scattered.{Good, blank}
use Rattle.sparse.proofs.Laws.{good_blank, good_loaded}
use Rattle.replay_eta.proofs.column_solve.Goals as goal

pub load-count-requires-clause-good : goal.load-count-requires-clause-good
load-count-requires-clause-good g c = good_blank

pub solve_etas-c-requires : goal.solve_etas-c-requires
solve_etas-c-requires g c = (subst (Good places) (sym c.load-count.ensures) (good_loaded c.args.at.now c.args.xs.now c.args.listed c.requires.3 blank good_blank), c.requires.0)
