-- Night case N5's sheets, and one on which no plan exists; crate `night` has what is given for each. Assumes nothing.
use Rattle.std.specs.Prelude.{[], ◌∷◌, ℕ, ℤ, pos, neg_ℤ}
use Rattle.sheet_rules.specs.Sheet.{Sheet, plan_of, kept_of, sheet_of}
use Rattle.sheet_rules.specs.declared.Edit.{Edit}

abbrev pub minus : ℕ → ℤ
minus n = neg_ℤ (pos n)

-- 01: "N2: costs -3, -1; bounds 0 to +inf, 0 to 2; row x0 + x1 <= 4", with the first amount and the multiplier given, before it is opened
abbrev pub n2 : ℤ → ℤ → Sheet
n2 amount y =
    sheet_of
    (plan_of 1 2 (pos 1 ∷ pos 1 ∷ []) (minus 3 ∷ minus 1 ∷ []) (pos 0 ∷ pos 0 ∷ []) (pos 0 ∷ pos 2 ∷ []) (1 ∷ 1 ∷ []) (0 ∷ 1 ∷ []) (pos 4 ∷ []) (0 ∷ []) (amount ∷ pos 0 ∷ []) (y ∷ []))
    (kept_of (pos 0 ∷ []) (pos 0 ∷ pos 0 ∷ []) (pos 0 ∷ []) (pos 0 ∷ []) (pos 0 ∷ pos 0 ∷ pos 0 ∷ pos 0 ∷ []))

-- 02, Ask 13: cost 0, bounds 0 to +inf, row x <= -1 with multiplier -1, before it is opened
abbrev pub no_plan : Sheet
no_plan =
    sheet_of (plan_of 1 1 (pos 1 ∷ []) (pos 0 ∷ []) (pos 0 ∷ []) (pos 0 ∷ []) (1 ∷ []) (0 ∷ []) (minus 1 ∷ []) (0 ∷ []) (pos 0 ∷ []) (minus 1024 ∷ []))
    (kept_of (pos 0 ∷ []) (pos 0 ∷ []) (pos 0 ∷ []) (pos 0 ∷ []) (pos 0 ∷ pos 0 ∷ pos 0 ∷ pos 0 ∷ []))

-- the edit of the first amount
abbrev pub amount_to : ℕ → Edit
amount_to n = record { kind = 1; row = 0; column = 0; number = pos n }
