-- `basis_factor::renumber` meets its contract. Assumes nothing.
use Rattle.std.proofs.Common.{List, ℕ, set, ◌≡◌, ◌++◌, ◌<◌, ◌∙◌, drop, take, length, sym, ap, arith}
use lib.ListN.{take-append-drop, get_or-append}
use lib.Seq.{set-append_left, length-take-le}
use Rattle.doubles.specs.Limits.{max_rows}
use Rattle.doubles.specs.Loop.{run}
use Rattle.doubles.specs.Lists.{◌#◌}
use Rattle.doubles.proofs.Loops.{next, done}
use Rattle.lu_factor_rules.specs.Factor.{renumber_turn, renumbered}
use Rattle.lu_factor_rules.specs.Ready.{Renumberable}
use Rattle.lu_factor_rules.proofs.Turns.{renumber_ahead}
use Rattle.basis_factor.proofs.renumber.Goals as goal

-- the item in hand is still the cell's row
row_below : (number l items rest : List ℕ) (k n : ℕ) → Renumberable n l → items ++ rest ≡ run (renumber_turn number) k l → k < length items → k < n → items # k < max_rows
row_below number l items rest k n r e h b =
    let same : items # k ≡ l # k = sym (get_or-append items rest 0 k h) ∙ ap (λ (t : List ℕ). t # k) e ∙ renumber_ahead number l k k (omega arith) in
    omega (arith, same, r.held k b)

-- a number stored over it is the definition's turn
stored : (number items rest : List ℕ) (k : ℕ) → k < length items → set items k (number # (items # k)) ++ rest ≡ renumber_turn number k (items ++ rest)
stored number items rest k h = rw (get_or-append items rest 0 k h) (sym (set-append_left items rest k (number # (items # k)) h))

pub loop-row-init : goal.loop-row-init
unfolding run
loop-row-init c = take-append-drop c.args.n c.args.lrows.now

pub offset_bounds-number-row : goal.offset_bounds-number-row
offset_bounds-number-row c =
    let a = c.args in
    let l = c.loop-row in
    let k : l.row-index < a.n = omega (arith, length-take-le a.n a.lrows.now (omega arith)) in
    omega (arith, row_below a.number.now a.lrows.now l.row-items (drop a.n a.lrows.now) l.row-index a.n c.requires l.invariant (omega arith) k)

pub bounds-number-row : goal.bounds-number-row
bounds-number-row c =
    let a = c.args in
    let l = c.loop-row in
    let k : l.row-index < a.n = omega (arith, length-take-le a.n a.lrows.now (omega arith)) in
    row_below a.number.now a.lrows.now l.row-items (drop a.n a.lrows.now) l.row-index a.n c.requires l.invariant (omega arith) k

pub loop-row-preserved : goal.loop-row-preserved
loop-row-preserved c = next _ _ c.loop-row.row-index c.loop-row.invariant (stored c.args.number.now c.loop-row.row-items (drop c.args.n c.args.lrows.now) c.loop-row.row-index (omega arith))

pub returns : goal.returns
unfolding renumbered
returns c =
    let long : length (take c.args.n c.args.lrows.now) ≡ c.args.n = length-take-le _ _ (omega arith) in
    done _ _ c.loop-row.row-index c.args.n (omega arith) (omega arith) c.loop-row.invariant
