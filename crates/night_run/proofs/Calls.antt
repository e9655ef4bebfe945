-- How each way through the public call ends. No contract cites this file. Assumes nothing.
use mathlib.Core.Path.{◌≡◌, refl, sym, ap, ◌∙◌}
use mathlib.Core.Logic.{⊎_elim}
use mathlib.Core.Bool.{Bool, true, false, ◌&&◌}
use mathlib.Core.List.{List}
use Prim.Native.Nat.{ℕ, ◌+◌, ◌<◌, ◌≤◌}
use native.Mathlib.Omega.{arith}
use lib.ListN.{length, take}
use lib.IntN.{ℤ}
use lib.Ieee.{Float}
use lib.Dec.{ltb, leb}
use borrow.Author.Tests.{leb-true, ltb-true, ltb-false}
use Rattle.doubles.specs.Limits.{max_rows, max_columns, max_entries, max_budget}
use Rattle.doubles.proofs.Bools.{truth}
use Rattle.doubles.proofs.Tests.{not_both}
use Rattle.doubles.proofs.Loops.{both_true}
use Rattle.rules.specs.Plan as Rules
use Rattle.rules.specs.Refusals as Refusals
use Rattle.rules.specs.Refusals.{sizes_fit, starts_rise, passes1}
use Rattle.rules.specs.Solve.{solve_plan}
use Rattle.rules.specs.Answers.{as_row}
use Rattle.rules.specs.declared.Answer.TheVariants.{BadSize}
use Rattle.sheet_rules.specs.Sum.{◌‼◌}
use Rattle.sheet_rules.specs.Sheet.{Plan}
use Rattle.lu_factor_rules.specs.Packed.{all_factor_numbers, all_factor_coeffs}
use Rattle.state.specs.Memory.{numbers_end, doubles_end}
use Rattle.night_rules.specs.Doubles.{doubles_plan, start_at, entry_count}
use Rattle.night_rules.specs.Arrays.{Arrays, memory, ran, run_on}
use Rattle.night_rules.specs.Stage.{audit_of, is_judged, Staged, stage_says, stage_after, stage_of, found_at, section_into}
use Rattle.night_rules.specs.Stage.{Lends, Left, left, leaves}
use Rattle.night_rules.specs.Night.{NightPlan, whole_end, sizes_in, plan_long, memory_long, enough, shows_gap}
use Rattle.night_rules.specs.Night.{entries_after, first_beyond, tests_after, Called, called, second_part, after_first}
use Rattle.night_rules.specs.Night.{night_plan}
use Rattle.night_rules.specs.declared.Audit.{Audit}
use Rattle.night_rules.specs.declared.Audit.TheVariants.{NotRun, NotWhole, NotOpened, Judged}
use Rattle.night_rules.specs.declared.Stage.{Stage}
use Rattle.night_rules.specs.declared.NightAnswer.{NightAnswer}
use Rattle.night_rules.specs.declared.NightAnswer.TheVariants.{ShortMemory, NoGap}
use Rattle.std.specs.Prelude.{Option, Some, None}
use Rattle.night_rules.proofs.Arrays.{refused_is}
use Rattle.night_second.specs.Costed.{costed}
use Rattle.night_second.proofs.Laws.{no_gap, rows_full}
use Rattle.night_rules.proofs.Shaped.{Shaped, stage_shaped}
use Rattle.night_handing.proofs.Sections.{front_amounts, front_found}

-- ---- sizes over their limits are the solver's 1
sizes_off : (c r e b x y z : Bool) → r && c ≡ false → (c && r && e && b) && x && y && z ≡ false
sizes_off true true e b x y z h = absurd (not_both refl h)
sizes_off true false e b x y z h = refl
sizes_off false r e b x y z h = refl

module _ (budget : ℕ) (tolerance : Float) (p : Plan) (a : Arrays) (h : sizes_in p.rows p.cols ≡ false) where
  abbrev q : Rules.Plan
  q = doubles_plan budget tolerance p

  over_limit : passes1 q (memory a) ≡ false
  unfolding passes1 sizes_fit sizes_in doubles_plan
  over_limit =
      sizes_off (leb p.cols max_columns) (leb p.rows max_rows) (leb (entry_count p) max_entries)
      (leb budget max_budget)
      (Refusals.plan_long q) (Refusals.memory_long q (memory a)) (starts_rise q) h

  refused_run : ran BadSize a ≡ run_on q a
  unfolding solve_plan
  refused_run = refused_is q a BadSize (rw (over_limit, solve_plan))

  refused_stage : stage_of budget tolerance p a ≡ stage_after p q (ran BadSize a)
  unfolding stage_of
  refused_stage = ap (stage_after p q) (sym refused_run)

-- ---- the tests
gap_judged : (a : Audit) → shows_gap a ≡ true → is_judged a ≡ true
unfolding shows_gap is_judged
gap_judged NotRun h = sym (sym h ∙ refl)
gap_judged (NotWhole z) h = sym (sym h ∙ refl)
gap_judged (NotOpened n) h = sym (sym h ∙ refl)
gap_judged (Judged v) h = refl

same_tests : (f : Stage) (p : Plan) (z : ℤ)
    → tests_after f (costed p.rows p.cols p.coefs p.costs) z ≡ tests_after f p z
unfolding tests_after entries_after entry_count start_at first_beyond
same_tests f p z = refl

-- where they let the second stage begin
gone_few : (f : Stage) (p : Plan) (z : ℤ) → tests_after f p z ≡ None
    → (shows_gap f.audit ≡ true) × (p.rows < max_rows)
gone_few f p z h = (gap, few)
  where
    stops_not : (r : NightAnswer) → Some r ≡ None → ⊥
    stops_not r q = let w : ◌≡◌ {A = ℕ} 0 1 = ap number q in omega arith
      where
        number : Option NightAnswer → ℕ
        number (Some r) = 0
        number None = 1

    gap : shows_gap f.audit ≡ true
    gap = ⊎_elim (λ g. g) (λ g. absurd (stops_not _ (no_gap f p z g ∙ h))) (truth (shows_gap f.audit))

    few : p.rows < max_rows
    few =
        ⊎_elim (λ l. ltb-true p.rows max_rows l)
        (λ l. absurd (stops_not _ (rows_full f p z gap (ltb-false p.rows max_rows l) ∙ h)))
        (truth (ltb p.rows max_rows))

module _ (n : NightPlan) (a : Arrays) (w : List ℤ) where
  abbrev p : Plan
  p = n.plan

  abbrev F : Staged
  F = stage_of n.budget n.tolerance p a

  -- a first stage that shows no gap and left no sheet
  no_sheet : (g : Staged) → shows_gap g.stage.audit ≡ false → is_judged g.stage.audit ≡ false
      → called (NoGap g.stage) g.arrays w ≡ after_first n g w
  unfolding after_first section_into
  no_sheet g h k = rw (← no_gap g.stage p (g.sheet.kept.C ‼ 0) h, k, after_first, section_into)

  pub too_big : sizes_in p.rows p.cols ≡ false → called (NoGap (stage_says BadSize NotRun)) a w ≡ night_plan n a w
  unfolding night_plan enough stage_after audit_of as_row shows_gap is_judged
  too_big h =
      no_sheet (stage_after p (doubles_plan n.budget n.tolerance p) (ran BadSize a)) refl refl
      ∙ ap (λ (g : Staged). after_first n g w) (sym (refused_stage n.budget n.tolerance p a h))
      ∙ rw (h, enough, night_plan) refl

  module _ (h : sizes_in p.rows p.cols ≡ true) where
    pub short_plan : plan_long p n.report_costs ≡ false → called ShortMemory a w ≡ night_plan n a w
    unfolding night_plan enough
    short_plan k = rw (h, k, enough, night_plan)

    pub few : (p.rows ≤ max_rows) × (p.cols ≤ max_columns)
    unfolding sizes_in
    few = let e = both_true _ _ h in (leb-true _ _ e.0, leb-true _ _ e.1)

    module _ (k : plan_long p n.report_costs ≡ true) where
      pub short_memory : memory_long p.rows p.cols a w ≡ false → called ShortMemory a w ≡ night_plan n a w
      unfolding night_plan enough
      short_memory l = rw (h, k, l, enough, night_plan)

      pub lends : Lends p × (p.cols ≤ length n.report_costs)
      unfolding plan_long
      lends =
          let o = both_true _ _ k in
          let r = both_true _ _ o.0 in
          let um = both_true _ _ r.0 in
          let lm = both_true _ _ um.0 in
          let u = both_true _ _ lm.0 in
          let l = both_true _ _ u.0 in
          let rc = both_true _ _ l.0 in
          let co = both_true _ _ rc.0 in (
            record {
              rows_few = few.0;
              cols_few = few.1;
              coefs_long = leb-true _ _ co.0;
              costs_long = leb-true _ _ co.1;
              lowers_long = leb-true _ _ l.1;
              uppers_long = leb-true _ _ u.1;
              lower_marks_long = leb-true _ _ lm.1;
              upper_marks_long = leb-true _ _ um.1;
              rhs_long = leb-true _ _ r.1;
              ops_long = leb-true _ _ o.1;
            },
            leb-true _ _ rc.1,
          )

      module _ (l : memory_long p.rows p.cols a w ≡ true) where
        pub whole_long : whole_end ≤ length w
        unfolding memory_long
        whole_long =
            leb-true _ _ (both_true
            (leb (p.cols + p.rows + 1) (length a.values) && leb numbers_end (length a.numbers)
            && leb doubles_end (length a.doubles) && leb all_factor_numbers (length a.all_factor_numbers)
            && leb all_factor_coeffs (length a.all_factor_coeffs))
            (leb whole_end (length w)) l).1

        begun : night_plan n a w ≡ after_first n F w
        unfolding night_plan enough
        begun = rw (h, k, l, enough, night_plan)

        -- the stage as its call leaves it: what it says, the arrays b and `whole` as u
        module _ {f : Stage} {b : Arrays} {u : List ℤ} (e : left f b u ≡ leaves F w) where
          says : f ≡ F.stage
          unfolding leaves
          says = ap (λ (o : Left). o.stage) e

          arrays_are : b ≡ F.arrays
          unfolding leaves
          arrays_are = ap (λ (o : Left). o.arrays) e

          whole_is : u ≡ section_into 0 F w
          unfolding leaves
          whole_is = ap (λ (o : Left). o.section) e

          shaped : Shaped F.sheet
          shaped = stage_shaped n.budget n.tolerance p a few.0 few.1

          -- where it shows a gap, the found cost stands in its section
          found_is : shows_gap F.stage.audit ≡ true → u ‼ found_at ≡ F.sheet.kept.C ‼ 0
          found_is g = ap (λ (t : List ℤ). t ‼ found_at) whole_is ∙ front_found F shaped (gap_judged _ g) w

          -- the tests read no more than the code lends them
          tests_are : tests_after f (costed p.rows p.cols p.coefs p.costs) (u ‼ found_at)
              ≡ tests_after F.stage p (F.sheet.kept.C ‼ 0)
          tests_are =
              ap (λ (g : Stage). tests_after g (costed p.rows p.cols p.coefs p.costs) (u ‼ found_at)) says
              ∙ same_tests F.stage p (u ‼ found_at)
              ∙ ⊎_elim
              (λ (g : shows_gap F.stage.audit ≡ true). ap (tests_after F.stage p) (found_is g))
              (λ (g : shows_gap F.stage.audit ≡ false).
              sym (no_gap F.stage p (u ‼ found_at) g) ∙ no_gap F.stage p (F.sheet.kept.C ‼ 0) g)
              (truth (shows_gap F.stage.audit))

          module _ {z : ℤ} (v : z ≡ u ‼ found_at) {x : Option NightAnswer}
              (t : x ≡ tests_after f (costed p.rows p.cols p.coefs p.costs) z) where
            next_is : x ≡ tests_after F.stage p (F.sheet.kept.C ‼ 0)
            next_is = t ∙ ap (tests_after f (costed p.rows p.cols p.coefs p.costs)) v ∙ tests_are

            pub stopped : (r : NightAnswer) → x ≡ Some r → called r b u ≡ night_plan n a w
            unfolding after_first
            stopped r s =
                ap (λ (o : Arrays). called r o u) arrays_are ∙ ap (called r F.arrays) whole_is
                ∙ rw (sym next_is ∙ s, after_first) refl ∙ sym begun

            goes : x ≡ None → tests_after F.stage p (F.sheet.kept.C ‼ 0) ≡ None
            goes s = sym next_is ∙ s

            pub rows_fewer : x ≡ None → p.rows < max_rows
            rows_fewer s = (gone_few F.stage p _ (goes s)).1

            pub went : {c : Called} → x ≡ None → c ≡ second_part n f (take max_columns u) z b u → c ≡ night_plan n a w
            unfolding after_first
            went {c} s q =
                let g = (gone_few F.stage p _ (goes s)).0 in
                q
                ∙ ap (λ (o : Stage). second_part n o (take max_columns u) z b u) says
                ∙ ap (λ (o : Arrays). second_part n F.stage (take max_columns u) z o u) arrays_are
                ∙ ap (λ (y : ℤ). second_part n F.stage (take max_columns u) y F.arrays u) (v ∙ found_is g)
                ∙ ap (λ (t : List ℤ). second_part n F.stage (take max_columns t) (F.sheet.kept.C ‼ 0) F.arrays t)
                whole_is
                ∙ ap (λ (t : List ℤ). second_part n F.stage t (F.sheet.kept.C ‼ 0) F.arrays (section_into 0 F w))
                (front_amounts F shaped (gap_judged _ g) w)
                ∙ rw (goes s, after_first) refl ∙ sym begun
