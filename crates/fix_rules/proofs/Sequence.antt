-- 02, Ask 9: "Start-to-end equality in demand 2 now reads a list of fix and unfix calls besides the plan". Assumes
-- nothing.
use mathlib.Core.Path.{◌≡◌, refl, sym, ap, ◌∙◌}
use mathlib.Core.List.{List, [], ◌∷◌}
use mathlib.Core.Logic.{◌⊎◌}
use Prim.Native.Nat.{ℕ, ◌+◌, ◌<◌, ◌≤◌}
use lib.Ieee.{Float}
use Rattle.rules.specs.Plan.{Plan, Memory, problem_of, n_of, m_of}
use Rattle.rules.specs.Answers.{number_of}
use Rattle.rules.specs.Solve.{Solved, solve_plan}
use Rattle.fix_rules.specs.Calls.{Called}
use Rattle.fix_rules.specs.Sequence.{Call, call_plan, Sequence, sequence, calls, Allowed, no_call, one_call, Session, session_of, AllowedFrom, session, Spares, one_more}
use Rattle.fix_rules.specs.Meaning.{Held, Free}
use Rattle.fix_rules.proofs.Meaning.{call_held, call_free, solve_free}

-- ---- what the contracts allow of a list of calls is one sequence
pub allowed_is : {p : Plan} {l : List Call} {m : Memory} {x : Sequence} → Allowed p l m x → x ≡ calls p l m
unfolding calls
allowed_is no_call = refl
allowed_is {p} (one_call {m} {l} {rest} c r q a) =
    ap (λ (x : Sequence). sequence (r.answer ∷ x.answers) x.memory) (allowed_is a)
    ∙ ap (λ (u : Called). sequence (u.answer ∷ (calls p l u.memory).answers) (calls p l u.memory).memory) q

-- and it is allowed
pub calls_allowed : (p : Plan) (l : List Call) (m : Memory) → Allowed p l m (calls p l m)
unfolding calls
calls_allowed p [] m = no_call
calls_allowed p (c ∷ l) m = one_call c (call_plan p c m) refl (calls_allowed p l (call_plan p c m).memory)

-- a solve and any list of calls after it: the answers, in order, and the memory behind the last are those of the
-- definitions
pub session_is : (p : Plan) (l : List Call) (m : Memory) (x : Session) → AllowedFrom p l m x → x ≡ session p l m
unfolding session
session_is p l m x a =
    ap (λ (y : Sequence). session_of x.solved y) (allowed_is a.by_calls)
    ∙ ap (λ (s : Solved). session_of s (calls p l s.memory)) a.by_solve

-- 01: "Any two results allowed by a promise are shown equal"
pub sessions_same : (p : Plan) (l : List Call) (m : Memory) (x y : Session) → AllowedFrom p l m x → AllowedFrom p l m y
    → x ≡ y
sessions_same p l m x y a b = session_is p l m x a ∙ sym (session_is p l m y b)

-- ---- through any list of calls that name other columns, a fixed column keeps its place, its mark and its value
pub calls_held : (p : Plan) (l : List Call) (m : Memory) (k c : ℕ) (x : Float) → Spares k l
    → Held (problem_of p) m.ws k c x
    → Held (problem_of p) (calls p l m).memory.ws k c x
unfolding calls
calls_held p [] m k c x spared h = h
calls_held p (d ∷ l) m k c x (one_more d' apart spared) h =
    calls_held p l (call_plan p d m).memory k c x spared (call_held p m d k c x apart h)

-- and a column without a mark gets none
pub calls_free : (p : Plan) (l : List Call) (m : Memory) (k : ℕ) → k < n_of (problem_of p) + m_of (problem_of p)
    → Spares k l
    → Free (problem_of p) m.ws k → Free (problem_of p) (calls p l m).memory.ws k
unfolding calls
calls_free p [] m k i spared h = h
calls_free p (d ∷ l) m k i (one_more d' apart spared) h =
    calls_free p l (call_plan p d m).memory k i spared (call_free p m d k i apart h)

-- so it is from a solve on
pub session_free : (p : Plan) (l : List Call) (m : Memory)
    → (number_of (solve_plan p m).answer ≡ 0) ⊎ (20 ≤ number_of (solve_plan p m).answer)
    → (k : ℕ) → k < n_of (problem_of p) + m_of (problem_of p) → Spares k l
    → Free (problem_of p) (session p l m).after.memory.ws k
unfolding session
session_free p l m ran k i spared = calls_free p l (solve_plan p m).memory k i spared (solve_free p m ran k i)
