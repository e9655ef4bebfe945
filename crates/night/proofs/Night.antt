-- 01: "Those with * are proved together, by one statement over a list". Assumes nothing.
use mathlib.Core.Path.{◌≡◌, refl}
use mathlib.Core.List.{map}
use lib.Ieee.{add, sub, mul, div, lt, le, eq, neg, of_bits, of_int, is_nan}
use Rattle.doubles.specs.Num.{finite, infinite, size}
use Rattle.doubles.specs.Loop.{run, down, all, seek, tab, until, each}
use Rattle.sparse.specs.Scattered.{touched, put_at, sq_norm, take_off, relisted, listed_finite, dot}
use Rattle.rules.specs.Plan.{slack_min, slack_max, var_min, var_max, kept_rows, column, var_state_of, var_cell, flags_cell, flags_of}
use Rattle.rules.specs.Refusals.{sizes_fit, plan_long, store_is_long, workspace_long, memory_long, starts_rise, passes1, passes2, bad_at, first_bad_row, first_crossed, zero_holds, first_false}
use Rattle.rules.specs.Start.{start_val, start_dual, start_vals, dual_feasible, start_objective, start_slack, start_norm, start_workspace, start_state, passes6, passes7}
use Rattle.rules.specs.Choose.{may_enter, score_of, better_turn, best_column, other_val, entering_of, choose}
use Rattle.rules.specs.DualRow.{too_low, outside as outsideRow, infeasibility_of, bound_broken, better_row_turn, best_row, leaving_row_of, choose_row}
use Rattle.rules.specs.DualRatio.{leaving_rises, eligible, clamped, dual_sound, dual_pass_one, dual_candidate, dual_pass_two_turn, dual_pass_two, dual_exchange_of, dual_ratio_by}
use Rattle.rules.specs.Basis.{factor_solve, factor_solve_transp, eta_turn, solve_etas, solve, eta_turn_transp, solve_etas_transp, solve_transp, column_coeffs, add_entry, add_row, combine, row_coeffs_of, helper_of, tau_of, touch_at, eta_entry, eta_fits, write_column, push_eta}
use Rattle.rules.specs.Ratio.{towards_max, ahead, limit_by, limit, examined, relaxed, step_to, sound_ratios, pass_one, candidate, pass_two_turn, pass_two, flip_of, exchange_of, pivot_of, sound_distance, ratio}
use Rattle.rules.specs.Pivot.{stored, stores_finite, flags_at, new_objective, moved_val, flip_finite, flipped, new_val, new_price, new_norm, new_dual_norm, numbers_finite, eta_finite, exchanged}
use Rattle.rules.specs.Step.{exchange, both_norms, flip, pivot, step, dual_pivot, dual_step_by, next, at_budget, run_of, dual_next, dual_at_budget, dual_run_of, both_runs}
use Rattle.rules.specs.FinalCheck.{value_of, values_of, counted, beyond, larger, value_excess, row_excess, excess_at, worst_turn, worst, judged, final_check}
use Rattle.rules.specs.Answers.{as_row}
use Rattle.rules.specs.Solve.{checked_answer, answer_of, values_after, memory_after, close, end_of, solve_plan}
use Rattle.sheet_rules.specs.Sum.{sum, bit}
use Rattle.sheet_rules.specs.Sheet.{holds, wrong, outside, term_by, term, lacks_by, lacks, activity, price, cost, floor, broken_rows, outside_amounts, wrong_signs, absent_needed, fresh, over_kept}
use Rattle.sheet_rules.specs.Opening.{first_failed, sizes_fine, all_within, bound_fine, bounds_fine, ops_fine, arrays_fine, numbers_fine, crosses, uncrossed, opening, opened}
use Rattle.sheet_rules.specs.Verdict.{count_fine, counts_fine, kept_fine, is_zero, gap, none_exists, verdict_by, verdict}
use Rattle.night.specs.Plans.{num, minus, one_row, N1, N2, N3, N4, room_for, kinds_from, dual_kinds_from, kinds_of}
use Rattle.night.specs.Cases.{shown, wanted, cases}

pub night : map shown cases ≡ map wanted cases
unfolding
    add sub mul div lt le eq neg of_bits of_int is_nan finite infinite size run down all seek tab until each touched put_at sq_norm
    slack_min slack_max var_min var_max kept_rows dot column var_state_of var_cell flags_cell flags_of
    sizes_fit plan_long store_is_long workspace_long memory_long starts_rise passes1 passes2 bad_at first_bad_row first_crossed zero_holds first_false
    start_val start_dual start_vals dual_feasible start_objective start_slack start_norm start_workspace start_state passes6 passes7
    may_enter score_of better_turn best_column other_val entering_of choose
    too_low outsideRow infeasibility_of bound_broken better_row_turn best_row leaving_row_of choose_row
    leaving_rises eligible clamped dual_sound dual_pass_one dual_candidate dual_pass_two_turn dual_pass_two dual_exchange_of dual_ratio_by
    factor_solve factor_solve_transp take_off eta_turn solve_etas solve eta_turn_transp solve_etas_transp solve_transp column_coeffs add_entry add_row combine row_coeffs_of relisted helper_of tau_of touch_at listed_finite eta_entry eta_fits write_column push_eta
    towards_max ahead limit_by limit examined relaxed step_to sound_ratios pass_one candidate pass_two_turn pass_two flip_of exchange_of pivot_of sound_distance ratio
    stored stores_finite flags_at new_objective moved_val flip_finite flipped new_val new_price new_norm new_dual_norm numbers_finite eta_finite exchanged
    exchange both_norms flip pivot step dual_pivot dual_step_by next at_budget run_of dual_next dual_at_budget dual_run_of both_runs value_of values_of counted beyond larger value_excess row_excess excess_at worst_turn worst judged final_check as_row
    checked_answer answer_of values_after memory_after close end_of solve_plan
    sum bit holds wrong outside term_by term lacks_by lacks activity price cost floor broken_rows outside_amounts wrong_signs absent_needed fresh over_kept
    first_failed sizes_fine all_within bound_fine bounds_fine ops_fine arrays_fine numbers_fine crosses uncrossed opening opened count_fine counts_fine kept_fine is_zero gap none_exists verdict_by verdict
    num minus one_row N1 N2 N3 N4 room_for kinds_from dual_kinds_from kinds_of shown wanted cases
night = refl
