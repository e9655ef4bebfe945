-- The second stage's plan. 02, Ask 14: "add the row "alarm cost at most what was found", and solve with the report
-- costs". Assumes nothing.
use Rattle.std.specs.Prelude.{List, [], ◌∷◌, ◌++◌, ◌+◌, ◌*◌, take, ℤ}
use Rattle.sheet_rules.specs.Sheet.{Plan, plan_of}

-- p has the alarm costs; 0 is Le
unfoldable pub second_plan : Plan → List ℤ → ℤ → Plan
second_plan p report_costs found =
    plan_of (p.rows + 1) p.cols
    (take (p.rows * p.cols) p.coefs ++ take p.cols p.costs)
    report_costs p.lowers p.uppers p.lower_marks p.upper_marks
    (take p.rows p.rhs ++ (found ∷ []))
    (take p.rows p.ops ++ (0 ∷ []))
    p.amounts p.mults
