-- The two public calls: their answer, and every lent cell afterwards, refusals too. Assumes nothing.
use Rattle.std.specs.Prelude.{◌≡◌, ◌&&◌, List, [], ◌∷◌, ℕ, zero, suc, leb, length}
use Rattle.doubles.specs.Lists.{over}
use Rattle.sheet_rules.specs.Sheet.{Plan, plan_of}
use Rattle.sheet_rules.specs.Opening.{◌unless◌, first_failed, numbers_fine, uncrossed}
use Rattle.file_rules.specs.PlanFile.{write_file, Answer, refused, plan, plan_sized, read_file}
use Rattle.file_rules.specs.declared.Writing.{Writing}
use Rattle.file_rules.specs.declared.Writing.TheVariants.{Written, Refused}
use Rattle.file_rules.specs.declared.Reading.{Reading}
use Rattle.file_rules.specs.declared.Reading.TheVariants.{Held, Refused as Reading-as-Refused}

-- ---- writing: opening's numbers. A lent file that is too short is a short array, so 11
unfoldable pub write_refusal : Plan → List ℕ → ℕ
write_refusal p out = first_failed (11 unless (plan_sized p && leb (length (write_file p)) (length out)) ∷ 12 unless numbers_fine p ∷ 13 unless uncrossed p ∷ [])

unfoldable pub writing_by : ℕ → Plan → Writing
writing_by zero p = Written (length (write_file p))
writing_by (suc n) p = Refused (suc n)

unfoldable pub written_by : ℕ → Plan → List ℕ → List ℕ
written_by zero p out = over (write_file p) out
written_by (suc n) p out = out

abbrev pub writing : Plan → List ℕ → Writing
writing p out = writing_by (write_refusal p out) p

abbrev pub written : Plan → List ℕ → List ℕ
written p out = written_by (write_refusal p out) p out

pub record Writes (p : Plan) (out : List ℕ) (answer : Writing) (out' : List ℕ) : Type 0 where
  pub answers : answer ≡ writing p out
  pub left : out' ≡ written p out

-- ---- reading: the plan's sizes are handed out, its arrays written over the front of the lent ones
unfoldable pub reading_of : Answer → Reading
reading_of (refused n b) = Reading-as-Refused n b
reading_of (plan p) = Held p.rows p.cols

unfoldable pub over_plan : Plan → Plan → Plan
over_plan p l =
    plan_of l.rows l.cols (over p.coefs l.coefs) (over p.costs l.costs) (over p.lowers l.lowers) (over p.uppers l.uppers) (over p.lower_marks l.lower_marks) (over p.upper_marks l.upper_marks) (over p.rhs l.rhs) (over p.ops l.ops) (over p.amounts l.amounts) (over p.mults l.mults)

unfoldable pub left_of : Answer → Plan → Plan
left_of (refused n b) l = l
left_of (plan p) l = over_plan p l

-- l has the ten lent arrays
abbrev pub reading : Plan → List ℕ → Reading
reading l f = reading_of (read_file l f)

abbrev pub taken : Plan → List ℕ → Plan
taken l f = left_of (read_file l f) l

pub record Reads (f : List ℕ) (l : Plan) (answer : Reading) (l' : Plan) : Type 0 where
  pub answers : answer ≡ reading l f
  pub left : l' ≡ taken l f
