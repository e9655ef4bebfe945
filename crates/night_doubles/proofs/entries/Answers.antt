-- `night_doubles::entries` meets its contract. Assumes nothing.
use Rattle.std.proofs.Common.{◌≡◌, refl, ◌+◌, le_trans, ap, ◌∙◌, arith}
use native.Mathlib.Nat.{le_antisymm}
use Rattle.doubles.specs.Loop.{run}
use Rattle.sheet_open.proofs.Laws.{row_within}
use Rattle.night_rules.specs.Doubles.{start_at, entry_count}
use Rattle.night_doubles.specs.Laid.{cells_of}
use Rattle.night_doubles.proofs.Laws.{start_few, start_next, cut_count}
use Rattle.night_doubles.proofs.entries.Goals.{After-row_entries-k}
use Rattle.night_doubles.proofs.entries.Goals as goal

-- this turn's count
counted : (c : After-row_entries-k) → c.loop-i.k + c.row_entries-k.result ≡ start_at (cells_of c.args.rows c.args.columns c.args.coefs.now) (c.loop-i.i + 1)
counted c =
    let a = c.args in
    let within = le_trans (row_within c.loop-i.i a.rows a.columns c.loop-i-test.true) c.requires in
    omega (
      arith,
      c.loop-i.invariant,
      start_next (cells_of a.rows a.columns a.coefs.now) c.loop-i.i,
      c.row_entries-k.ensures ∙ cut_count a.coefs.now a.rows a.columns c.loop-i.i within,
    )

pub loop-i-init : goal.loop-i-init
unfolding start_at run
loop-i-init c = refl

pub overflow_add-k : goal.overflow_add-k
overflow_add-k c =
    omega (
      arith,
      counted c,
      start_few (cells_of c.args.rows c.args.columns c.args.coefs.now) (c.loop-i.i + 1),
      row_within c.loop-i.i c.args.rows c.args.columns c.loop-i-test.true,
      c.requires,
    )

pub loop-i-preserved : goal.loop-i-preserved
loop-i-preserved c = counted c

pub returns : goal.returns
unfolding entry_count
returns c = c.loop-i.invariant ∙ ap (start_at (cells_of c.args.rows c.args.columns c.args.coefs.now)) (le_antisymm c.loop-i.auto.i-end c.loop-i-test.false)
