-- What a run leaves passes the test: after every answer but a refusal. Assumes nothing.
use mathlib.Core.Path.{◌≡◌, refl, sym, ap, ◌∙◌, subst}
use mathlib.Core.Logic.{◌⊎◌}
use Prim.Native.Nat.{ℕ, ◌≤◌, ◌<◌}
use lib.ListN.{length, drop, get_or-append}
use Rattle.doubles.specs.Lists.{◌#◌}
use Rattle.rules.specs.Plan.{Plan, Memory, problem_of, m_of}
use Rattle.rules.specs.Invariant.{Maps}
use Rattle.rules.specs.Answers.{as_row, number_of}
use Rattle.rules.specs.Solve.{Solved, close, end_of, memory_after, solve_plan}
use Rattle.rules.proofs.Answers.{answer_exact}
use Rattle.rules.proofs.Ran.{solved_closes, solved_ran}
use Rattle.state_maps.specs.Maps.{Kept}

module _ (p : Plan) (m : Memory) (h : (number_of (solve_plan p m).answer ≡ 0) ⊎ (20 ≤ number_of (solve_plan p m).answer)) where
  closes : solve_plan p m ≡ close (problem_of p) m (end_of (problem_of p) m)
  closes = solved_closes p m ((answer_exact p m (as_row (solve_plan p m).answer) h).0 refl).0

  counted : (solve_plan p m).memory.counts # 0 ≡ m_of (problem_of p)
  unfolding close memory_after
  counted = ap (λ (x : Solved). x.memory.counts # 0) closes

  rows : (r : ℕ) → r < m_of (problem_of p) → (solve_plan p m).memory.kept # r ≡ (problem_of p).kept # r
  unfolding close memory_after
  rows r l =
      let ks = (problem_of p).kept in
      ap (λ (x : Solved). x.memory.kept # r) closes ∙ get_or-append ks (drop (length ks) m.kept) 0 r l

  maps : Maps (problem_of p) (solve_plan p m).memory.ws
  maps = let r = solved_ran p m h in subst (Maps (problem_of p)) (sym r.lent) r.sound.fits.maps

  pub left_kept : Kept p (solve_plan p m).memory
  left_kept = record { counted = counted; rows = rows; maps = maps }
