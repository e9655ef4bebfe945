-- `basis_etas::solve_etas_transp` meets its contract: what is left of the definition's turns gives the whole's vector. Assumes nothing.
use Rattle.std.proofs.Common.{◌-◌, refl, sym, subst}
use native.Mathlib.Omega.{arith}
use Rattle.doubles.proofs.Loops.{back, back_done}
use Rattle.sparse.specs.Scattered.{Good}
use Rattle.rules.specs.Basis.{solve_etas_transp}
use Rattle.basis_etas.proofs.Laws.{good_eta_turn_transp}
use Rattle.basis_etas.proofs.solve_etas_transp.Goals as goal

pub loop-k-init : goal.loop-k-init
unfolding solve_etas_transp
loop-k-init c = (c.requires.0, refl)

pub eta_turn_transp-c-requires : goal.eta_turn_transp-c-requires
eta_turn_transp-c-requires c = (c.loop-k.invariant.0, c.requires.1.column (c.loop-k.k - 1) (omega arith))

pub loop-k-preserved : goal.loop-k-preserved
loop-k-preserved c =
    let e = c.eta_turn_transp-c.ensures in (
      subst (Good _) (sym e) (good_eta_turn_transp _ _ (c.requires.1.column (c.loop-k.k - 1) (omega arith)) _ c.loop-k.invariant.0),
      back _ c.loop-k.k c.loop-k-test.true e c.loop-k.invariant.1,
    )

pub returns : goal.returns
returns c = back_done _ c.loop-k.k c.loop-k-test.false c.loop-k.invariant.1
