-- After a run that gives 0 the proposal is never refused: it is made exactly when every number is Whole. Assumes
-- nothing.
use mathlib.Core.Path.{◌≡◌, refl, sym, ap, ◌∙◌}
use mathlib.Core.Logic.{◌↔◌, inl, ⊎_elim}
use mathlib.Core.List.{List}
use Prim.Native.Nat.{ℕ}
use native.Mathlib.Omega.{arith}
use lib.ListN.{length-replicate}
use lib.IntN.{pos}
use lib.Ieee.{Float}
use Rattle.doubles.specs.Limits.{max_rows, max_columns}
use Rattle.doubles.specs.Lists.{◌#◌}
use Rattle.doubles.proofs.Bools.{truth}
use Rattle.rules.specs.Plan as Rules
use Rattle.rules.specs.Answers.{number_of}
use Rattle.rules.specs.Solve.{solve_plan}
use Rattle.sheet_rules.specs.Sheet.{Plan}
use Rattle.whole_propose.specs.Propose.{Lent, memory, status_of, proposal, is_proposed, proposed}
use Rattle.whole_propose.specs.Words.{Enough, Readable, Says}
use Rattle.whole_propose.specs.declared.Proposal.{Proposal}
use Rattle.whole_propose.specs.declared.Proposal.TheVariants.{Proposed, Refused}
use Rattle.whole_propose.proofs.Exact.{proposal_says, proposal_only}
use Rattle.whole_propose.proofs.Meaning.{never_41}
use Rattle.night_rules.specs.Doubles.{doubles_plan}
use Rattle.night_rules.specs.Arrays.{Arrays, memory as lentMemory, in_arrays, ran_by, run_on}
use Rattle.night_rules.specs.Words.{the_run, the_lent, the_proposal, AllWhole}
use Rattle.night_rules.proofs.Left.{run_back, values_long, status_told, counts_back, numbers_long, doubles_long}
use Rattle.night_rules.proofs.Left.{sizes_in_holds, plan_long_holds}

module _ (budget : ℕ) (tolerance : Float) (p : Plan) (a : Arrays)
    (z : number_of (the_run budget tolerance p a).answer ≡ 0) where
  abbrev q : Rules.Plan
  q = doubles_plan budget tolerance p

  abbrev l : Lent
  l = the_lent budget tolerance p a

  solved_0 : number_of (solve_plan q (lentMemory a)).answer ≡ 0
  unfolding run_on ran_by
  solved_0 = z

  enough : Enough l
  unfolding run_on ran_by in_arrays
  enough =
      let s = sizes_in_holds q a (inl solved_0) in
      let k = plan_long_holds q a (inl solved_0) in
      record {
        long = record {
          columns_fit = s.0;
          rows_fit = s.1;
          starts_long = omega (arith, k.starts_long);
          ops_long = k.ops_long;
          numbers_long = numbers_long q a (inl solved_0);
          doubles_long = doubles_long q a (inl solved_0);
        };
        values_long = values_long q a (inl solved_0) solved_0;
        amounts_long = omega (arith, s.0, length-replicate max_columns (pos 0));
        mults_long = omega (arith, s.1, length-replicate max_rows (pos 0));
      }

  status : status_of (memory l) ≡ 0
  status =
      ap (λ (c : List ℕ). c # 4) (counts_back q a (inl solved_0)) ∙ status_told q a (inl solved_0) ∙ solved_0

  not_41 : ¬ (proposal l ≡ Refused 41)
  not_41 =
      never_41 q (lentMemory a) (the_run budget tolerance p a).arrays.all_factor_numbers
      (the_run budget tolerance p a).arrays.all_factor_coeffs l solved_0 refl (run_back q a (inl solved_0)).0

  readable_by : {u : Proposal} → Says l u → proposal l ≡ u → Readable l
  readable_by (Says.size h) e = absurd (h enough)
  readable_by (Says.no_run k h) e = absurd (h status)
  readable_by (Says.broken k h b) e = absurd (not_41 e)
  readable_by (Says.amount r j f) e = r
  readable_by (Says.multiplier r b i f) e = r
  readable_by (Says.proposed r b c) e = r

  readable : Readable l
  readable = readable_by (proposal_says l) refl

  whole_by : {u : Proposal} → Says l u → u ≡ Proposed → AllWhole budget tolerance p a
  unfolding doubles_plan
  whole_by (Says.size h) w = absurd (let y : ◌≡◌ {A = ℕ} 0 1 = cc in omega arith)
  whole_by (Says.no_run e h) w = absurd (let y : ◌≡◌ {A = ℕ} 0 1 = cc in omega arith)
  whole_by (Says.broken e k h) w = absurd (let y : ◌≡◌ {A = ℕ} 0 1 = cc in omega arith)
  whole_by (Says.amount r j f) w = absurd (let y : ◌≡◌ {A = ℕ} 0 1 = cc in omega arith)
  whole_by (Says.multiplier r b i f) w = absurd (let y : ◌≡◌ {A = ℕ} 0 1 = cc in omega arith)
  whole_by (Says.proposed r b c) w = record { amounts = b; mults = c }

  answer_is : (the_proposal budget tolerance p a).answer ≡ proposal l
  unfolding proposed
  answer_is = ⊎_elim (λ t. rw t) (λ f. rw f) (truth (is_proposed (proposal l)))

  pub whole_exactly : ((the_proposal budget tolerance p a).answer ≡ Proposed) ↔ AllWhole budget tolerance p a
  unfolding doubles_plan
  whole_exactly = (
    λ e. whole_by (proposal_says l) (sym answer_is ∙ e),
    λ w. answer_is ∙ proposal_only l (Says.proposed readable w.amounts w.mults),
  )
