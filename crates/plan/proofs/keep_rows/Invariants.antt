-- The numbers kept of the first i rows stand at the front. Assumes nothing.
use mathlib.Core.List.{[]}
use Prim.Native.Nat.{◌≤◌}
use Rattle.doubles.specs.Loop.{run}
use Rattle.rules.specs.Plan.{kept_turn}
use Rattle.plan.specs.Lent.{rows_of, Front}
use Rattle.plan.proofs.keep_rows.Given as goal

abbrev pub invariant-loop-i : goal.invariant-loop-i
invariant-loop-i l = record { few : l.m ≤ l.i; front : Front (run (kept_turn (rows_of 0 l.rows l.starts [])) l.i []) l.initial.kept l.m l.kept }
