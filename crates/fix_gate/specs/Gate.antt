-- 02: "Refuse, lowest first and changing nothing": 1 to 5 as solve gives them, 41, 42, then 43 of a fix or 44 of an
-- unfix. A call that names no column has those up to 41. Assumes nothing.
use Rattle.std.specs.Prelude.{Bool, true, false, ℕ, Float, Some, None, Option}
use Rattle.rules.specs.Plan.{Plan, Memory}
use Rattle.start_gate.specs.Gate.{refusal_by}
use Rattle.fix_rules.specs.Kept.{passes41}
use Rattle.fix_rules.specs.Calls.{passes42, passes43, passes44}
use Rattle.fix_rules.specs.declared.FixAnswer.{FixAnswer}
use Rattle.fix_rules.specs.declared.FixAnswer.TheVariants.{Told, NotKept, BadColumn, BadValue, NotFixed}

-- go on where the test passes
abbrev pub passing : Bool → FixAnswer → Option FixAnswer → Option FixAnswer
passing b a r = elim b [ true ↦ r | false ↦ Some a ]

-- go on where nothing was refused
abbrev pub or_else : Option FixAnswer → Option FixAnswer → Option FixAnswer
or_else (Some a) r = Some a
or_else None r = r

-- 1 to 5 and 41, of every call over a memory that was kept
unfoldable pub kept_refusal : Plan → Memory → Option FixAnswer
kept_refusal p m =
    elim (refusal_by p m) [ Some a ↦ Some (Told a) | None ↦ passing (passes41 p m) NotKept None ]

-- and 42
unfoldable pub call_refusal : Plan → Memory → ℕ → Option FixAnswer
call_refusal p m j = or_else (kept_refusal p m) (passing (passes42 p j) BadColumn None)

-- and 43
unfoldable pub fix_refusal : Plan → Memory → ℕ → Float → Option FixAnswer
fix_refusal p m j value = or_else (call_refusal p m j) (passing (passes43 p j value) BadValue None)

-- or 44
unfoldable pub unfix_refusal : Plan → Memory → ℕ → Option FixAnswer
unfix_refusal p m j = or_else (call_refusal p m j) (passing (passes44 p m j) NotFixed None)
