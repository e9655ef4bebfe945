-- `lu_transpose::count_rows` meets its contract. Assumes nothing.
use Rattle.std.proofs.Common.{◌≡◌, ◌<◌, ◌≤◌, List, ℕ, length, get_or, take, arith, refl, ap, ◌∙◌}
use Rattle.doubles.specs.Limits.{max_rows, max_tri_entries}
use Rattle.doubles.specs.Loop.{run}
use Rattle.doubles.specs.Lists.{◌#◌}
use Rattle.doubles.proofs.Loops.{next}
use Rattle.lu_factor_rules.specs.Transpose.{count_turn, counted, empty}
use Rattle.lu_transpose.specs.Read.{Countable}
use Rattle.lu_transpose.proofs.Counts.{count_small}
use Rattle.doubles.proofs.Items.{within, item, item_below, done_items}
use Rattle.lu_transpose.proofs.count_rows.Goals as goal

-- in a turn the row's count is small
count_in : {n k : ℕ} {l counts : List ℕ} → Countable n l → counts ≡ run (count_turn l) k empty.starts → k < length (take n l) → counts # get_or (take n l) k 0 ≤ max_tri_entries
count_in {n} {k} {l} r e t =
    let w = within n l r.rows_long t in
    omega (arith, count_small l n r.held k (omega (arith, w)) e _ (item_below {m = max_rows} l r.rows_long r.held t), w, r.few)

pub loop-r-init : goal.loop-r-init
unfolding run
loop-r-init c = refl

pub overflow_add-counts : goal.overflow_add-counts
overflow_add-counts c =
    omega (arith, count_in c.requires.0 (c.loop-r.invariant ∙ ap (run (count_turn c.args.rows.now) c.loop-r.r-index) c.requires.1) c.loop-r-test.true)

pub loop-r-preserved : goal.loop-r-preserved
loop-r-preserved c =
    let q = item c.args.n c.args.rows.now c.requires.0.rows_long c.loop-r-test.true 0 in
    rw q (next _ _ c.loop-r.r-index c.loop-r.invariant refl)

pub returns : goal.returns
unfolding counted
returns c = done_items _ c.args.rows.now _ _ c.loop-r.r-index c.requires.0.rows_long c.loop-r.auto.r-index-end c.loop-r-test.false c.loop-r.invariant
