-- The whole numbers as the night leaves them. Assumes nothing.
use mathlib.Core.Path.{◌≡◌, refl, sym, ap, ◌∙◌, subst}
use mathlib.Core.List.{List, ◌++◌, append_assoc}
use Prim.Native.Nat.{ℕ, ◌+◌, ◌*◌, ◌≤◌}
use native.Mathlib.Nat.{mul-le-mul}
use native.Mathlib.Omega.{arith}
use lib.ListN.{length, take, drop, length-append}
use lib.Seq.{length-take-le, drop-drop}
use lib.IntN.{ℤ}
use lib.Ieee.{Float}
use borrow.Rule.Slice.PartMut.{put_mid}
use Rattle.doubles.specs.Limits.{max_rows, max_columns}
use Rattle.doubles.proofs.Bools.{fails, by_test}
use Rattle.lu_packed.specs.Written.{written}
use Rattle.state.specs.Packed.{section}
use Rattle.state.proofs.Sections.{Changed, lent, section_length}
use Rattle.state.proofs.Memory.{rest}
use Rattle.sheet_rules.specs.Sheet.{Plan}
use Rattle.night_rules.specs.Arrays.{Arrays}
use Rattle.night_rules.specs.Second.{second_plan}
use Rattle.night_rules.specs.Stage.{is_judged, Staged, stage_of, section_cells, section_of, section_into}
use Rattle.night_rules.specs.Night.{NightPlan, second_at, handed_at, coefs_at}
use Rattle.night_rules.specs.declared.NightAnswer.{NightAnswer}
use Rattle.night_rules.specs.Words.{Opens, first_stage, second_plan_of, second_stage, Long, Stands, not_opened}
use Rattle.night_rules.specs.Words.{PastMemory, PastFound, Says}
use Rattle.night_rules.specs.Words.{Section, Stopped, HandsOut, Leaves}
use Rattle.night_rules.proofs.Stages.{is_judged_holds, opened_exactly, section_written, section_left, sized}
use Rattle.night_rules.proofs.Stages.{section_long, amounts_long}
use Rattle.night_rules.proofs.Answers.{leaves}

-- what is written at a place changes its cells and no other
module _ {A : Type 0} (p k : ℕ) (ys xs : List A) (long : length ys ≡ k) (fits : p + k ≤ length xs) where
  same_put : written p ys xs ≡ put_mid p k xs ys
  same_put =
      append_assoc (take p xs) ys (drop (p + length ys) xs)
      ∙ ap (λ (l : List A). take p xs ++ (ys ++ l)) (ap (λ (j : ℕ). drop (p + j) xs) long ∙ sym (drop-drop k p xs))

  put : Changed p k (λ _. ys) xs (written p ys xs)
  put =
      subst (Changed p k (λ _. ys) xs) (sym same_put)
      (lent p k xs (λ _. ys) ys fits refl (long ∙ sym (section_length p k xs fits)))

-- ---- a stage's section
module _ (place budget : ℕ) (tolerance : Float) (p : Plan) (a : Arrays) (w : List ℤ) where
  abbrev g : Staged
  g = stage_of budget tolerance p a

  -- its cells, and no other
  record Own (u : List ℤ) : Type 0 where
    its : Section place budget tolerance p a w u
    before : (b j : ℕ) → b + j ≤ place → section b j u ≡ section b j w
    after : (b j : ℕ) → place + section_cells ≤ b → section b j u ≡ section b j w
    rest_same : (b : ℕ) → place + section_cells ≤ b → drop b u ≡ drop b w
    long : length u ≡ length w

  own : (Opens budget tolerance p a → place + section_cells ≤ length w) → Own (section_into place g w)
  own fits = by_test (is_judged g.stage.audit)
      (λ t. yes ((opened_exactly budget tolerance p a).0 ((is_judged_holds _).0 t)))
      (λ f. else (λ o. (fails (is_judged_holds _)).0 f ((opened_exactly budget tolerance p a).1 o)))
    where
      yes : Opens budget tolerance p a → Own (section_into place g w)
      yes o =
          let k = put place section_cells (section_of g.sheet) w (section_long budget tolerance p a o) (fits o) in
          subst Own (sym (section_written budget tolerance p a place w o)) (record {
            its = record { filled = λ _. k.here; left = λ h. absurd (h o) };
            before = k.before;
            after = k.after;
            rest_same = rest k;
            long = k.long;
          })

      else : ¬ Opens budget tolerance p a → Own (section_into place g w)
      else h = subst Own (sym (section_left budget tolerance p a place w h)) (record {
        its = record { filled = λ o. absurd (h o); left = λ _. refl };
        before = λ b j l. refl;
        after = λ b j l. refl;
        rest_same = λ b l. refl;
        long = refl;
      })

module _ (n : NightPlan) (a : Arrays) (w : List ℤ) where
  first_long : PastMemory n a w → Opens n.budget n.tolerance n.plan a → Long n a w
  first_long m o = let z = sized n.budget n.tolerance n.plan a o in
      m.long (record { rows_in = z.rows_fit; cols_in = z.cols_fit })

  abbrev one : List ℤ
  one = section_into 0 (first_stage n a) w

  first_own : PastMemory n a w → Own 0 n.budget n.tolerance n.plan a w one
  first_own m = own 0 n.budget n.tolerance n.plan a w (λ o. omega (arith, (first_long m o).whole_long))

  pub stopped : PastMemory n a w → Stopped n a w one
  stopped m = record { first_section = (first_own m).its; rest = (first_own m).rest_same section_cells (omega arith) }

  module _ (d : PastFound n a w) where
    pub first_opens : Opens n.budget n.tolerance n.plan a
    first_opens =
        (opened_exactly n.budget n.tolerance n.plan a).0 (_, d.before.before.before.before.gap.1)

    past_memory : PastMemory n a w
    past_memory = d.before.before.before.before.memory

    long : Long n a w
    long = first_long past_memory first_opens

    abbrev cells : ℕ
    cells = (n.plan.rows + 1) * n.plan.cols

    -- the second stage's coefficients
    coefs_long : length (second_plan_of n a).coefs ≡ cells
    unfolding second_plan
    coefs_long =
        let p = n.plan in
        let e : (p.rows + 1) * p.cols ≡ p.rows * p.cols + p.cols = omega arith in
        length-append (take (p.rows * p.cols) p.coefs) (take p.cols p.costs)
        ∙ omega (
          arith,
          e,
          length-take-le (p.rows * p.cols) p.coefs long.coefs_long,
          length-take-le p.cols p.costs long.alarms_long,
        )

    pub cells_in : cells ≤ max_rows * max_columns
    cells_in =
        let z = sized n.budget n.tolerance n.plan a first_opens in
        let r : n.plan.rows + 1 ≤ max_rows = omega (arith, d.before.before.before.rows_left) in
        mul-le-mul r z.cols_fit

    abbrev two : List ℤ
    two = written coefs_at (second_plan_of n a).coefs one

    one_own : Own 0 n.budget n.tolerance n.plan a w one
    one_own = first_own past_memory

    two_put : Changed coefs_at cells (λ _. (second_plan_of n a).coefs) one two
    two_put =
        put coefs_at cells (second_plan_of n a).coefs one coefs_long
        (omega (arith, cells_in, one_own.long, long.whole_long))

    two_long : length two ≡ length w
    two_long = two_put.long ∙ one_own.long

    abbrev three : List ℤ
    three = section_into second_at (second_stage n a) two

    three_own : Own second_at n.budget n.tolerance (second_plan_of n a) (first_stage n a).arrays two three
    three_own =
        own second_at n.budget n.tolerance (second_plan_of n a) (first_stage n a).arrays two
        (λ o. omega (arith, two_long, long.whole_long))

    -- whatever 128 amounts are handed out then
    pub hands_out : (x : List ℤ) → length x ≡ max_columns → HandsOut n a w x (written handed_at x three)
    hands_out x h =
        let k = put handed_at max_columns x three h (omega (arith, three_own.long, two_long, long.whole_long)) in
        record {
          first_section = record {
            filled = λ o. k.before 0 section_cells (omega arith) ∙ three_own.before 0 section_cells (omega arith)
                ∙ two_put.before 0 section_cells (omega arith) ∙ one_own.its.filled o;
            left = λ o. absurd (o first_opens);
          };
          second_section = record {
            filled = λ o. k.before second_at section_cells (omega arith) ∙ three_own.its.filled o;
            left = λ o. k.before second_at section_cells (omega arith) ∙ three_own.its.left o
                ∙ two_put.before second_at section_cells (omega arith)
                ∙ one_own.after second_at section_cells (omega arith);
          };
          amounts = k.here;
          coefs = k.after coefs_at cells (omega arith) ∙ three_own.after coefs_at cells (omega arith) ∙ two_put.here;
          rest = rest k (coefs_at + cells) (omega arith) ∙ three_own.rest_same (coefs_at + cells) (omega arith)
              ∙ rest two_put (coefs_at + cells) (omega arith) ∙ one_own.rest_same (coefs_at + cells) (omega arith);
        }

-- ---- by the answer
module _ (n : NightPlan) (a : Arrays) (w : List ℤ) where
  pub second_opens : (d : PastFound n a w) → ¬ Stands (second_stage n a).stage.audit
      → Opens n.budget n.tolerance (second_plan_of n a) (first_stage n a).arrays
  second_opens d h = (opened_exactly n.budget n.tolerance (second_plan_of n a) (first_stage n a).arrays).0
      (by_test (is_judged (second_stage n a).stage.audit) (λ t. (is_judged_holds _).0 t)
      (λ f. absurd (h (not_opened ((fails (is_judged_holds _)).0 f)))))

  pub leaves_so : {r : NightAnswer} → Says n a w r → Leaves n a w r (leaves n a w r).whole
  leaves_so (Says.short z h) = refl
  leaves_so (Says.no_gap m h) = stopped n a w m
  leaves_so (Says.rows_full g h) = stopped n a w g.memory
  leaves_so (Says.entries_full r h) = stopped n a w r.before.memory
  leaves_so (Says.cost_beyond e j b) = stopped n a w e.before.before.memory
  leaves_so (Says.found_beyond k h) = stopped n a w k.before.before.before.memory
  leaves_so (Says.first_stands_holds d h) =
      hands_out n a w d _ (amounts_long n.budget n.tolerance n.plan a (first_opens n a w d))
  leaves_so (Says.hands d h) =
      hands_out n a w d _
      (amounts_long n.budget n.tolerance (second_plan_of n a) (first_stage n a).arrays (second_opens d h))
