-- The places passed lead back. Assumes nothing.
use Rattle.std.proofs.Common.{◌≡◌, true, ◌+◌}
use Rattle.doubles.specs.Lists.{◌#◌}
use Rattle.doubles.specs.Loop.{all}
use Rattle.state_maps.specs.Maps.{leads_back}
use Rattle.state_maps.proofs.all_lead_back.Given as goal

abbrev pub invariant-loop-i : goal.invariant-loop-i
invariant-loop-i l = all l.i (λ k. leads_back l.vars l.states (l.from + k) (l.at # k)) ≡ true
