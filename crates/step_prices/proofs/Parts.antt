-- The ratio on prices reads only what is lent to it: a workspace may stand for its parts. Assumes nothing.
use mathlib.Core.Path.{◌≡◌, refl}
use mathlib.Core.List.{List}
use mathlib.Core.Bool.{Bool}
use Prim.Native.Nat.{ℕ}
use lib.Ieee.{Float}
use Rattle.sparse.specs.Scattered.{Sv}
use Rattle.rules.specs.Plan.{Workspace}
use Rattle.rules.specs.DualRatio.{leaving_rises, dual_sound, dual_pass_one, dual_candidate, dual_pass_two_turn, dual_pass_two, dual_exchange_of, test_by, dual_ratio_by}
use Rattle.rules.specs.declared.NonBasicVarState.{NonBasicVarState}
use Rattle.rules.specs.declared.LeavingVar.{LeavingVar}
use Rattle.step_prices.specs.Lent.{priced_of, columns_of, Passing, Pricing}
use Rattle.step_prices.specs.Parts.{max_step_of}

abbrev pub pricing_part : Workspace → Workspace
pricing_part w = columns_of w.basic_var_vals w.nb_var_vals w.prices w.flags

abbrev pub passing_part : Workspace → Workspace
passing_part w = priced_of w.prices w.flags

pub dual_ratio_part : (still : Bool) (w : Workspace) (l : LeavingVar) (r : Sv)
    → dual_ratio_by (test_by still (leaving_rises w l)) w l r ≡ dual_ratio_by (test_by still (leaving_rises (pricing_part w) l)) (pricing_part w) l r
unfolding dual_ratio_by leaving_rises dual_sound dual_pass_one dual_pass_two dual_pass_two_turn dual_candidate dual_exchange_of
dual_ratio_part still w l r = refl

-- inside the ratio
pub max_step_part : (w : Workspace) (test : NonBasicVarState → Float → Bool) (r : Sv) → max_step_of (passing_part w) test r ≡ max_step_of w test r
unfolding max_step_of dual_sound dual_pass_one
max_step_part w test r = refl

pub pass_two_part : (w : Workspace) (test : NonBasicVarState → Float → Bool) (r : Sv) (t : Float)
    → (dual_pass_two (passing_part w) test r t).at ≡ (dual_pass_two w test r t).at
unfolding dual_pass_two dual_pass_two_turn dual_candidate
pass_two_part w test r t = refl

pub passing_part_holds : {w : Workspace} {list : List ℕ} {count : ℕ} → Passing w list count → Passing (passing_part w) list count
passing_part_holds f =
    record { count_fits = f.count_fits; column = λ k l. let c = f.column k l in record { inside = c.inside; priced = c.priced; flagged = c.flagged } }

pub pricing_part_holds : {w : Workspace} {l : LeavingVar} {list : List ℕ} {count : ℕ} → Pricing w l list count → Pricing (pricing_part w) l list count
pricing_part_holds f =
    record {
      passing =
          record {
            count_fits = f.passing.count_fits;
            column = λ k l. let c = f.passing.column k l in record { inside = c.inside; priced = c.priced; flagged = c.flagged };
          };
      valued = f.valued;
      row_inside = f.row_inside;
    }
