-- Where each array's blocks begin, and the plan that stands there. Assumes nothing.
use Rattle.std.specs.Prelude.{List, ℕ, suc, ◌+◌, ◌*◌, ◌≤◌, length}
use Rattle.doubles.specs.Limits.{max_rows, max_columns}
use Rattle.doubles.specs.Loop.{table}
use Rattle.sheet_rules.specs.Sheet.{Plan, plan_of}
use Rattle.file_rules.specs.Block.{size_of_block}
use Rattle.file_rules.specs.PlanFile.{ceil}
use Rattle.file_read.specs.Cells.{number_at, byte_at}
use Rattle.file_open.specs.declared.Places.{Places}

abbrev pub places_of : ℕ → ℕ → Places
places_of m n =
    let costs = 1 + ceil (8 * (m * n)) in
    let lowers = costs + ceil (8 * n) in
    let uppers = lowers + ceil (8 * n) in
    let lower_marks = uppers + ceil (8 * n) in
    let upper_marks = lower_marks + ceil n in
    let rhs = upper_marks + ceil n in
    let ops = rhs + ceil (8 * m) in
    let amounts = ops + ceil m in
    let mults = amounts + ceil (8 * n) in
    record {
      costs = costs;
      lowers = lowers;
      uppers = uppers;
      lower_marks = lower_marks;
      upper_marks = upper_marks;
      rhs = rhs;
      ops = ops;
      amounts = amounts;
      mults = mults;
      end = mults + ceil (8 * m);
    }

unfoldable pub plan_at : List ℕ → ℕ → ℕ → Plan
plan_at f m n =
    let p = places_of m n in
    plan_of m n (table (m * n) (number_at f 1)) (table n (number_at f p.costs)) (table n (number_at f p.lowers)) (table n (number_at f p.uppers)) (table n (byte_at f p.lower_marks)) (table n (byte_at f p.upper_marks)) (table m (number_at f p.rhs)) (table m (byte_at f p.ops)) (table n (number_at f p.amounts)) (table m (number_at f p.mults))

-- a file that has every block of these sizes
pub record Whole (m n : ℕ) (f : List ℕ) : Type 0 where
  pub rows_few : m ≤ max_rows
  pub cols_few : n ≤ max_columns
  pub there : size_of_block * suc (places_of m n).end ≤ length f
