-- Each answer of the night exactly when its words hold: what is given holds (`night_says`), and nothing else can be
-- said (`night_only`), which settles what is left too. Assumes nothing.
use mathlib.Core.Path.{◌≡◌, refl, sym, ap, ◌∙◌, subst}
use mathlib.Core.Logic.{◌↔◌}
use mathlib.Core.Bool.{Bool, true, false, not, ◌&&◌}
use mathlib.Core.List.{List}
use Prim.Native.Nat.{ℕ, ◌<◌, ◌≤◌}
use native.Mathlib.Omega.{arith}
use lib.Dec.{ltb, leb, eqb}
use lib.IntN.{ℤ, nat_abs}
use borrow.Author.Tests.{leb-true, le-leb, ne_eqb}
use Rattle.doubles.specs.Limits.{max_rows, max_entries, max_coefficient, max_right_side}
use Rattle.doubles.proofs.Bools.{by_test, never, fails, leb_holds, leb_fails, ltb_holds, ltb_fails, eqb_holds}
use Rattle.doubles.proofs.Bools.{eqb_fails, ◌both◌, lack_has, lack_only, lack_none}
use Rattle.doubles.proofs.Loops.{both_true, first_means}
use Rattle.lu_packed.specs.Written.{written}
use Rattle.sheet_rules.specs.Sheet.{Plan, c}
use Rattle.sheet_rules.specs.Opening.{within}
use Rattle.sheet_rules.specs.declared.Verdict.TheVariants.{NoneExists, NotPlan, NoFloor, Gap, Refused}
use Rattle.sheet_rules.proofs.Bools.{unlike}
use Rattle.night_rules.specs.Arrays.{Arrays}
use Rattle.night_rules.specs.Stage.{is_judged, Staged, section_into}
use Rattle.night_rules.specs.Night.{NightPlan, sizes_in, plan_long, memory_long, enough, shows_gap, entries_after}
use Rattle.night_rules.specs.Night.{first_beyond, tests_after, first_stands}
use Rattle.night_rules.specs.Night.{Called, called, hand_out, second_part, after_first, night_plan, second_at}
use Rattle.night_rules.specs.Night.{handed_at}
use Rattle.night_rules.specs.Night.{coefs_at}
use Rattle.night_rules.specs.declared.Audit.{Audit}
use Rattle.night_rules.specs.declared.Audit.TheVariants.{NotRun, NotWhole, NotOpened, Judged}
use Rattle.night_rules.specs.declared.NightAnswer.{NightAnswer}
use Rattle.night_rules.specs.declared.NightAnswer.TheVariants.{ShortMemory, NoGap, RowsFull, EntriesFull}
use Rattle.night_rules.specs.declared.NightAnswer.TheVariants.{CostBeyond}
use Rattle.night_rules.specs.declared.NightAnswer.TheVariants.{FoundBeyond, FirstStands, Handed}
use Rattle.std.specs.Prelude.{Option, Some, None}
use Rattle.night_rules.specs.Words.{first_stage, found, second_plan_of, second_stage, SizesIn, Long, ShowsGap}
use Rattle.night_rules.specs.Words.{FirstBeyond, Stands, not_opened, not_plan, none_exists_holds, Opened}
use Rattle.night_rules.specs.Words.{PastMemory, PastGap, PastRows, PastEntries, PastCosts, PastFound, Says}
use Rattle.night_rules.proofs.Stages.{is_judged_holds}

-- ---- each test and its words
sizes_in_holds : (p : Plan) → (sizes_in p.rows p.cols ≡ true) ↔ SizesIn p
unfolding sizes_in
sizes_in_holds p = (
  λ t. let h = both_true _ _ t in record { rows_in = leb-true _ _ h.0; cols_in = leb-true _ _ h.1 },
  λ z. rw (le-leb _ _ z.rows_in, le-leb _ _ z.cols_in),
)

module _ (n : NightPlan) (a : Arrays) (w : List ℤ) where
  abbrev long_plan : Bool
  long_plan = plan_long n.plan n.report_costs

  abbrev long_memory : Bool
  long_memory = memory_long n.plan.rows n.plan.cols a w

  is_long : (long_plan && long_memory ≡ true) ↔ Long n a w
  unfolding plan_long memory_long
  is_long = (
    yes,
    λ l. rw (
      le-leb _ _ l.coefs_long,
      le-leb _ _ l.alarms_long,
      le-leb _ _ l.reports_long,
      le-leb _ _ l.lowers_long,
      le-leb _ _ l.uppers_long,
      le-leb _ _ l.lower_marks_long,
      le-leb _ _ l.upper_marks_long,
      le-leb _ _ l.rhs_long,
      le-leb _ _ l.ops_long,
      le-leb _ _ l.values_long,
      le-leb _ _ l.numbers_long,
      le-leb _ _ l.doubles_long,
      le-leb _ _ l.factor_numbers_long,
      le-leb _ _ l.factor_coeffs_long,
      le-leb _ _ l.whole_long,
    ),
  )
    where
      yes : long_plan && long_memory ≡ true → Long n a w
      yes t =
          let h = both_true long_plan long_memory t in
          let p8 = both_true _ _ h.0 in
          let p7 = both_true _ _ p8.0 in
          let p6 = both_true _ _ p7.0 in
          let p5 = both_true _ _ p6.0 in
          let p4 = both_true _ _ p5.0 in
          let p3 = both_true _ _ p4.0 in
          let p2 = both_true _ _ p3.0 in
          let p1 = both_true _ _ p2.0 in
          let m5 = both_true _ _ h.1 in
          let m4 = both_true _ _ m5.0 in
          let m3 = both_true _ _ m4.0 in
          let m2 = both_true _ _ m3.0 in
          let m1 = both_true _ _ m2.0 in
          record {
            coefs_long = leb-true _ _ p1.0;
            alarms_long = leb-true _ _ p1.1;
            reports_long = leb-true _ _ p2.1;
            lowers_long = leb-true _ _ p3.1;
            uppers_long = leb-true _ _ p4.1;
            lower_marks_long = leb-true _ _ p5.1;
            upper_marks_long = leb-true _ _ p6.1;
            rhs_long = leb-true _ _ p7.1;
            ops_long = leb-true _ _ p8.1;
            values_long = leb-true _ _ m1.0;
            numbers_long = leb-true _ _ m1.1;
            doubles_long = leb-true _ _ m2.1;
            factor_numbers_long = leb-true _ _ m3.1;
            factor_coeffs_long = leb-true _ _ m4.1;
            whole_long = leb-true _ _ m5.1;
          }

  short_exactly : (enough n a w ≡ false) ↔ (SizesIn n.plan × (¬ Long n a w))
  unfolding enough
  short_exactly = (
    λ f. by_test (sizes_in n.plan.rows n.plan.cols)
        (λ t. ((sizes_in_holds n.plan).0 t, (fails is_long).0 (rw t at f)))
        (λ g. never refl (rw g at f)),
    λ h. rw ((sizes_in_holds n.plan).1 h.0, (fails is_long).1 h.1),
  )

  enough_exactly : (enough n a w ≡ true) ↔ PastMemory n a w
  enough_exactly = (
    λ t. record {
      long = λ z. by_test (long_plan && long_memory) is_long.0
          (λ f. never t (short_exactly.1 (z, (fails is_long).0 f)));
    },
    λ m. by_test (enough n a w) (λ t. t) (λ f. let h = short_exactly.0 f in absurd (h.1 (m.long h.0))),
  )

gap_shown : (u : Audit) → (shows_gap u ≡ true) ↔ ShowsGap u
unfolding shows_gap is_judged
gap_shown NotRun = (λ h. unlike h, λ o. unlike ((is_judged_holds NotRun).1 (Gap o.0, o.1)))
gap_shown (NotWhole u) = (λ h. unlike h, λ o. unlike ((is_judged_holds (NotWhole u)).1 (Gap o.0, o.1)))
gap_shown (NotOpened n) = (λ h. unlike h, λ o. unlike ((is_judged_holds (NotOpened n)).1 (Gap o.0, o.1)))
gap_shown (Judged NoneExists) =
    (λ h. unlike h, λ o. absurd (let w = o.1 in let z : ◌≡◌ {A = ℕ} 0 1 = cc in omega arith))
gap_shown (Judged NotPlan) = (λ h. unlike h, λ o. absurd (let w = o.1 in let z : ◌≡◌ {A = ℕ} 0 1 = cc in omega arith))
gap_shown (Judged NoFloor) = (λ h. unlike h, λ o. absurd (let w = o.1 in let z : ◌≡◌ {A = ℕ} 0 1 = cc in omega arith))
gap_shown (Judged (Gap g)) = (λ _. (g, refl), λ _. refl)
gap_shown (Judged (Refused n)) =
    (λ h. unlike h, λ o. absurd (let w = o.1 in let z : ◌≡◌ {A = ℕ} 0 1 = cc in omega arith))

costs_in : (p : Plan) → (first_beyond p ≡ p.cols) ↔ ((j : ℕ) → j < p.cols → nat_abs (c p j) ≤ max_coefficient)
unfolding first_beyond
costs_in p = lack_none {p = λ j. within max_coefficient (c p j)} p.cols
    (λ j. leb_holds (nat_abs (c p j)) max_coefficient)

beyond_first : (p : Plan) → ¬ (first_beyond p ≡ p.cols) → FirstBeyond p (first_beyond p)
unfolding first_beyond
beyond_first p h =
    let s = lack_has {p = λ j. within max_coefficient (c p j)} p.cols (λ j. leb_holds (nat_abs (c p j)) max_coefficient)
    (omega (arith, (first_means (λ j. not (within max_coefficient (c p j))) p.cols).upto)) in
    record { column = s.0; beyond = omega (arith, s.1); none_before = s.2 }

beyond_only : (p : Plan) (j : ℕ) → FirstBeyond p j → first_beyond p ≡ j
unfolding first_beyond
beyond_only p j b =
    lack_only {p = λ j. within max_coefficient (c p j)} p.cols (λ j. leb_holds (nat_abs (c p j)) max_coefficient) j
    (b.column, (λ h. omega (arith, b.beyond)), b.none_before)

else : {u : Audit} → Stands u → Opened u → ¬ (u ≡ Judged NotPlan) → ¬ (u ≡ Judged NoneExists) → ⊥
else (not_opened h) o k l = h o
else not_plan o k l = k refl
else none_exists_holds o k l = l refl

stands_exactly : (u : Audit) → (first_stands u ≡ true) ↔ Stands u
unfolding first_stands is_judged
stands_exactly NotRun = (λ _. not_opened ((fails (is_judged_holds NotRun)).0 refl), λ _. refl)
stands_exactly (NotWhole u) = (λ _. not_opened ((fails (is_judged_holds (NotWhole u))).0 refl), λ _. refl)
stands_exactly (NotOpened n) = (λ _. not_opened ((fails (is_judged_holds (NotOpened n))).0 refl), λ _. refl)
stands_exactly (Judged NoneExists) = (λ _. none_exists_holds, λ _. refl)
stands_exactly (Judged NotPlan) = (λ _. not_plan, λ _. refl)
stands_exactly (Judged NoFloor) = (
  λ h. unlike h,
  λ s. absurd
      (else s (_, refl) (λ e. let z : ◌≡◌ {A = ℕ} 0 1 = cc in omega arith)
      (λ e. let z : ◌≡◌ {A = ℕ} 0 1 = cc in omega arith)),
)
stands_exactly (Judged (Gap g)) = (
  λ h. unlike h,
  λ s. absurd
      (else s (_, refl) (λ e. let z : ◌≡◌ {A = ℕ} 0 1 = cc in omega arith)
      (λ e. let z : ◌≡◌ {A = ℕ} 0 1 = cc in omega arith)),
)
stands_exactly (Judged (Refused n)) = (
  λ h. unlike h,
  λ s. absurd
      (else s (_, refl) (λ e. let z : ◌≡◌ {A = ℕ} 0 1 = cc in omega arith)
      (λ e. let z : ◌≡◌ {A = ℕ} 0 1 = cc in omega arith)),
)

-- ---- the answers
module _ (n : NightPlan) (a : Arrays) (w : List ℤ) where
  abbrev f : Staged
  f = first_stage n a

  abbrev s : Staged
  s = second_stage n a

  -- what each answer leaves
  abbrev after_one : List ℤ
  after_one = section_into 0 f w

  abbrev after_two : List ℤ
  after_two = section_into second_at s (written coefs_at (second_plan_of n a).coefs after_one)

  abbrev pub leaves : NightAnswer → Called
  leaves ShortMemory = called ShortMemory a w
  leaves (NoGap g) = called (NoGap g) f.arrays after_one
  leaves (RowsFull g) = called (RowsFull g) f.arrays after_one
  leaves (EntriesFull g) = called (EntriesFull g) f.arrays after_one
  leaves (CostBeyond g j) = called (CostBeyond g j) f.arrays after_one
  leaves (FoundBeyond g) = called (FoundBeyond g) f.arrays after_one
  leaves (FirstStands g h) = called (FirstStands g h) s.arrays (written handed_at f.sheet.plan.amounts after_two)
  leaves (Handed g h) = called (Handed g h) s.arrays (written handed_at s.sheet.plan.amounts after_two)

  pub same_answer : (r : NightAnswer) → (leaves r).answer ≡ r
  same_answer ShortMemory = refl
  same_answer (NoGap g) = refl
  same_answer (RowsFull g) = refl
  same_answer (EntriesFull g) = refl
  same_answer (CostBeyond g j) = refl
  same_answer (FoundBeyond g) = refl
  same_answer (FirstStands g h) = refl
  same_answer (Handed g h) = refl

  abbrev tests : Option NightAnswer
  tests = tests_after f.stage n.plan (found n a)

  first_only : PastMemory n a w → night_plan n a w ≡ after_first n f w
  unfolding night_plan
  first_only m = rw ((enough_exactly n a w).1 m, night_plan)

  stops : PastMemory n a w → {r : NightAnswer} → tests ≡ Some r → night_plan n a w ≡ called r f.arrays after_one
  unfolding after_first
  stops m e = first_only m ∙ rw (e, after_first)

  past_gap : PastGap n a w → shows_gap f.stage.audit ≡ true
  past_gap g = (gap_shown _).1 g.gap

  past_rows : PastRows n a w → ltb n.plan.rows max_rows ≡ true
  past_rows r = (ltb_holds _ _).1 r.rows_left

  past_entries : PastEntries n a w → leb (entries_after n.plan) max_entries ≡ true
  past_entries e = (leb_holds _ _).1 e.entries_left

  past_costs : PastCosts n a w → eqb (first_beyond n.plan) n.plan.cols ≡ true
  past_costs k = (eqb_holds _ _).1 ((costs_in n.plan).1 k.costs_in)

  goes : PastFound n a w → tests ≡ None
  unfolding tests_after
  goes d =
      let k = d.before in
      let e = k.before in
      let r = e.before in
      rw (past_gap r.before, past_rows r, past_entries e, past_costs k, (leb_holds _ _).1 d.found_in, tests_after)

  second : PastFound n a w → night_plan n a w ≡ hand_out f.stage f.sheet.plan.amounts s after_two
  unfolding after_first second_part
  second d = first_only d.before.before.before.before.memory ∙ rw (goes d, after_first)

  pub night_only : {r : NightAnswer} → Says n a w r → night_plan n a w ≡ leaves r
  unfolding night_plan tests_after hand_out
  night_only (Says.short z h) = rw ((short_exactly n a w).1 (z, h), night_plan)
  night_only (Says.no_gap m h) = stops m (rw ((fails (gap_shown f.stage.audit)).1 h, tests_after))
  night_only (Says.rows_full g h) = stops g.memory (rw (past_gap g, (ltb_fails _ _).1 h, tests_after))
  night_only (Says.entries_full r h) =
      stops r.before.memory (rw (past_gap r.before, past_rows r, (leb_fails _ _).1 h, tests_after))
  night_only (Says.cost_beyond e j b) =
      let r = e.before in
      let q = beyond_only n.plan j b in
      stops r.before.memory
      (rw (
        past_gap r.before,
        past_rows r,
        past_entries e,
        q,
        ne_eqb j n.plan.cols (λ (z : j ≡ n.plan.cols). absurd (omega (arith, z, b.column))),
        tests_after,
      ))
  night_only (Says.found_beyond k h) =
      let e = k.before in
      let r = e.before in
      stops r.before.memory
      (rw (past_gap r.before, past_rows r, past_entries e, past_costs k, (leb_fails _ _).1 h, tests_after))
  night_only (Says.first_stands_holds d h) = second d ∙ rw ((stands_exactly s.stage.audit).1 h, hand_out)
  night_only (Says.hands d h) = second d ∙ rw ((fails (stands_exactly s.stage.audit)).1 h, hand_out)

  said : {r : NightAnswer} → Says n a w r → Says n a w (night_plan n a w).answer
  said {r} x = subst (Says n a w) (sym (ap (λ (k : Called). k.answer) (night_only x) ∙ same_answer r)) x

  pub night_says : Says n a w (night_plan n a w).answer
  night_says =
      by_test (enough n a w) (λ t. gap ((enough_exactly n a w).0 t))
      (λ e. let h = (short_exactly n a w).0 e in said (Says.short h.0 h.1))
    where
      last : PastFound n a w → Says n a w (night_plan n a w).answer
      last d =
          by_test (first_stands s.stage.audit) (λ t. said (Says.first_stands_holds d ((stands_exactly _).0 t)))
          (λ e. said (Says.hands d ((fails (stands_exactly _)).0 e)))

      cost : PastCosts n a w → Says n a w (night_plan n a w).answer
      cost k =
          by_test (within max_right_side (found n a)) (λ t. last (record { before = k; found_in = (leb_holds _ _).0 t }))
          (λ e. said (Says.found_beyond k ((leb_fails _ _).0 e)))

      entries : PastEntries n a w → Says n a w (night_plan n a w).answer
      entries k =
          by_test (eqb (first_beyond n.plan) n.plan.cols)
          (λ t. cost (record { before = k; costs_in = (costs_in n.plan).0 ((eqb_holds _ _).0 t) }))
          (λ e. said (Says.cost_beyond k _ (beyond_first n.plan ((eqb_fails _ _).0 e))))

      rows : PastRows n a w → Says n a w (night_plan n a w).answer
      rows k =
          by_test (leb (entries_after n.plan) max_entries)
          (λ t. entries (record { before = k; entries_left = (leb_holds _ _).0 t }))
          (λ e. said (Says.entries_full k ((leb_fails _ _).0 e)))

      gaps : PastGap n a w → Says n a w (night_plan n a w).answer
      gaps k =
          by_test (ltb n.plan.rows max_rows) (λ t. rows (record { before = k; rows_left = (ltb_holds _ _).0 t }))
          (λ e. said (Says.rows_full k ((ltb_fails _ _).0 e)))

      gap : PastMemory n a w → Says n a w (night_plan n a w).answer
      gap m =
          by_test (shows_gap f.stage.audit) (λ t. gaps (record { memory = m; gap = (gap_shown _).0 t }))
          (λ e. said (Says.no_gap m ((fails (gap_shown _)).0 e)))
