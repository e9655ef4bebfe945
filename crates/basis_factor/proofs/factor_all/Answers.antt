-- `basis_factor::factor_all` meets its contract. Assumes nothing.
use Rattle.std.proofs.Common.{sym, subst, arith}
use Rattle.doubles.proofs.Loops.{stopped}
use Rattle.lu_factor_rules.specs.Counted.{partial_of, parts_of}
use Rattle.lu_factor_rules.specs.Sound.{Sound}
use Rattle.lu_factor_rules.proofs.Keeps.{sound_nothing, sound_more}
use Rattle.lu_factor_rules.proofs.Turns.{goes_on, ends_wild, ends_flat, begins_with, goes, ends_all}
use Rattle.basis_factor.specs.Basis.{columns_of}
use Rattle.basis_factor.proofs.factor_all.Goals as goal

pub loop-i-init : goal.loop-i-init
loop-i-init c =
    let a = c.args in (
      subst (Sound a.m) (sym c.requires.none_value) (sound_nothing a.m c.requires.m_le_max_rows.0),
      begins_with a.m (columns_of a.col_starts.now a.col_rows.now a.col_coeffs.now a.n a.basis.now) c.requires.none_value,
    )

pub turn-r-requires : goal.turn-r-requires
turn-r-requires c = record { i_lt_m = (c.loop-i-test.true, c.requires.m_le_max_rows.1); sound = c.loop-i.invariant.0 }

pub returns-in-NotFinite : goal.returns-in-NotFinite
returns-in-NotFinite c = stopped c.loop-i.invariant.1 (omega arith) (ends_wild _ _ _ _ _ _ _ _ _ _ _ _ c.turn-r.ensures c.in-NotFinite.is)

pub returns-in-Singular : goal.returns-in-Singular
returns-in-Singular c = stopped c.loop-i.invariant.1 (omega arith) (ends_flat _ _ _ _ _ _ _ _ _ _ _ _ c.turn-r.ensures c.in-Singular.is)

pub loop-i-preserved : goal.loop-i-preserved
loop-i-preserved c =
    let a = c.args in
    let columns = columns_of a.col_starts.now a.col_rows.now a.col_coeffs.now a.n a.basis.now in
    let e = goes_on _ _ _ _ _ _ _ _ _ _ _ _ c.turn-r.ensures c.in-Added.is in (
      sound_more columns c.loop-i.invariant.0 c.loop-i-test.true (c.requires.m_le_max_rows.1.vector c.loop-i.i c.loop-i-test.true) (sym e),
      goes columns c.loop-i.invariant.1 c.loop-i-test.true e,
    )

pub returns : goal.returns
returns c =
    let l = c.loop-i in
    ends_all _
    (λ j. partial_of j l.order l.number l.lstarts l.ustarts l.diag (parts_of l.lrows l.lvals l.urows l.uvals l.counts))
    l.invariant.1 l.auto.i-end c.loop-i-test.false
