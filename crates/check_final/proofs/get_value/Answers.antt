-- `check_final::get_value`: by where the variable stands. Assumes nothing.
use mathlib.Core.Path.{sym, ◌∙◌}
use native.Mathlib.Omega.{arith}
use Rattle.check_final.proofs.Laws.{row_cell, place_cell, value_basic, value_non_basic}
use Rattle.check_final.proofs.get_value.Goals as goal

-- the row that the cell says is there
pub offset_bounds-basic_var_vals-row : goal.offset_bounds-basic_var_vals-row
offset_bounds-basic_var_vals-row c = omega (arith, row_cell _ _ _ (sym c.var_state-state.ensures ∙ c.in-Basic.is), c.requires.cell_fits)

pub bounds-basic_var_vals-row : goal.bounds-basic_var_vals-row
bounds-basic_var_vals-row c = omega (arith, row_cell _ _ _ (sym c.var_state-state.ensures ∙ c.in-Basic.is), c.requires.cell_fits)

-- and so is the place
pub offset_bounds-nb_var_vals-col : goal.offset_bounds-nb_var_vals-col
offset_bounds-nb_var_vals-col c = omega (arith, place_cell _ _ _ (sym c.var_state-state.ensures ∙ c.in-NonBasic.is), c.requires.vals_long)

pub bounds-nb_var_vals-col : goal.bounds-nb_var_vals-col
bounds-nb_var_vals-col c = omega (arith, place_cell _ _ _ (sym c.var_state-state.ensures ∙ c.in-NonBasic.is), c.requires.vals_long)

pub returns-in-Basic : goal.returns-in-Basic
returns-in-Basic c = value_basic _ _ _ c.var_state-state.ensures c.in-Basic.is

pub returns-in-NonBasic : goal.returns-in-NonBasic
returns-in-NonBasic c = value_non_basic _ _ _ c.var_state-state.ensures c.in-NonBasic.is
