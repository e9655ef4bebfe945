-- The numbers that the face hands out for an answer of fix and unfix: those of a solve's table, with 41 to 44. Assumes nothing.
use Rattle.std.specs.Prelude.{ℕ}
use Rattle.doubles.specs.Num.{f0}
use Rattle.rules.specs.Answers.{nowhere}
use Rattle.face.specs.declared.TevalumiAnswer.{TevalumiAnswer}
use Rattle.face.specs.Face.{placed, Faced}
use Rattle.fix_rules.specs.declared.FixAnswer.{FixAnswer}
use Rattle.fix_rules.specs.Calls.{as_fix_row}
use Rattle.fix_ends.specs.Ends.{HandedCall}

-- "A refused call answers no place (1 to 5: as solve does), objective +0.0 and 0 steps"
abbrev pub refused_by : ℕ → TevalumiAnswer
refused_by n = placed n f0 0 f0 nowhere

unfoldable pub fix_numbers : FixAnswer → TevalumiAnswer
fix_numbers a = let t = as_fix_row a in placed t.number t.objective t.steps t.excess t.place

-- with every lent cell
abbrev pub faced_by_call : HandedCall → Faced
faced_by_call h = record { numbers = fix_numbers h.call.answer; memory = h.call.memory; past = h.past }
