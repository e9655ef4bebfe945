-- A kind's refusal, the limit of the number handed in, and the edited cell as it was. Assumes nothing.
use Rattle.std.specs.Prelude.{[], ◌∷◌, ℕ, ◌^◌, get_or}
use Rattle.doubles.specs.Limits.{max_coefficient, max_cost, max_right_side, max_bound, max_amount, max_multiplier}
use Rattle.sheet_rules.specs.Opening.{◌unless◌, first_failed}
use Rattle.sheet_rules.specs.Sheet.{Plan}
use Rattle.sheet_rules.specs.Edit.{known_kind, todays_kind, old_number, old_mark}
use Rattle.sheet_rules.specs.declared.Edit.{Edit}
use Rattle.sheet_change_edit.specs.declared.Cell.{Cell}
use Rattle.sheet_change_edit.specs.declared.Rule.{Rule}

unfoldable pub kind_refusal : ℕ → ℕ
kind_refusal k = first_failed (16 unless known_kind k ∷ 15 unless todays_kind k ∷ [])

-- no number of an i64 is larger in size
abbrev pub any_number : ℕ
any_number = 2 ^ 63

unfoldable pub limit_of : ℕ → ℕ
limit_of k = get_or (0 ∷ max_amount ∷ max_cost ∷ max_bound ∷ max_bound ∷ max_right_side ∷ max_coefficient ∷ max_multiplier ∷ any_number ∷ any_number ∷ []) k 0

unfoldable pub rule_of : ℕ → Rule
rule_of k = record { refusal = kind_refusal k; limit = limit_of k }

unfoldable pub cell_at : Plan → Edit → Cell
cell_at p e = record { number = old_number p e; mark = old_mark p e }
