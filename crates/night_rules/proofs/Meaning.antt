-- What the night's call promises: the file to start from. Its contract is one equation: whatever is lent, the answer,
-- the solver's arrays and the whole numbers afterwards are those of `night_plan`. Here each theorem is said of any
-- result r that this equation allows. Assumes nothing.
use mathlib.Core.Path.{◌≡◌, refl, sym, ap, ◌∙◌, subst}
use mathlib.Core.Logic.{◌↔◌, ◌⊎◌, ⊎_elim}
use mathlib.Core.Bool.{true}
use mathlib.Core.List.{List}
use Prim.Native.Nat.{ℕ, ◌+◌, ◌-◌, ◌*◌, ◌<◌, ◌≤◌}
use native.Mathlib.Omega.{arith}
use lib.ListN.{drop, take}
use lib.Seq.{drop-drop}
use lib.IntN.{ℤ, pos, ◌*ℤ◌}
use lib.Ieee.{Float}
use Rattle.doubles.specs.Limits.{max_columns}
use Rattle.rules.specs.Solve.{solve_plan}
use Rattle.state.specs.Packed.{section}
use Rattle.state.specs.Memory.{handed, answered}
use Rattle.state.proofs.Sections.{section_at}
use Rattle.sheet_rules.specs.Sum.{◌‼◌}
use Rattle.sheet_rules.specs.Sheet.{Plan, c, x, cost}
use Rattle.sheet_rules.specs.declared.Verdict.TheVariants.{Gap}
use Rattle.sheet_rules.proofs.Bools.{unlike}
use Rattle.sheet_rules.proofs.Sums.{sum_ext}
use Rattle.night_rules.specs.Doubles.{doubles_plan}
use Rattle.night_rules.specs.Arrays.{Arrays, memory, past}
use Rattle.night_rules.specs.Stage.{Staged, stage_after, stage_of, section_cells}
use Rattle.night_rules.specs.Night.{NightPlan, Called, night_plan, handed_at, whole_end}
use Rattle.night_rules.specs.declared.Audit.TheVariants.{Judged}
use Rattle.night_rules.specs.declared.Stage.{Stage}
use Rattle.night_rules.specs.declared.NightAnswer.{NightAnswer}
use Rattle.night_rules.specs.declared.NightAnswer.TheVariants.{ShortMemory, NoGap, RowsFull, EntriesFull}
use Rattle.night_rules.specs.declared.NightAnswer.TheVariants.{CostBeyond}
use Rattle.night_rules.specs.declared.NightAnswer.TheVariants.{FoundBeyond, FirstStands, Handed}
use Rattle.night_rules.specs.Words.{first_stage, second_stage, PastFound, Says}
use Rattle.night_rules.specs.Words.{coefs_end, HandsOut, Leaves, hands_none, arrays_left, AlarmsFirst}
use Rattle.night_rules.proofs.Left.{run_promised}
use Rattle.night_rules.proofs.Stages.{sized}
use Rattle.night_rules.proofs.Answers.{leaves, same_answer, night_says, night_only}
use Rattle.night_rules.proofs.Whole.{first_opens, cells_in, leaves_so}
use Rattle.night_rules.proofs.Alarms.{first_alarms, handed_alarms}

-- ---- a stage's run is a solve of the stage's own plan: what solve's contract says of its answer and of the five
-- arrays
-- holds of the stage, so all of `solve!Meaning` does (demand 2)
module _ (budget : ℕ) (tolerance : Float) (p : Plan) (a : Arrays) where
  abbrev g : Staged
  g = stage_of budget tolerance p a

  pub stage_solves : answered g.stage.run g.arrays.values g.arrays.numbers g.arrays.doubles
      g.arrays.all_factor_numbers g.arrays.all_factor_coeffs
      ≡ handed (solve_plan (doubles_plan budget tolerance p) (memory a)) (past a)
  unfolding stage_of stage_after
  stage_solves = run_promised (doubles_plan budget tolerance p) a

-- what the call's contract says of a result
abbrev pub Promised : NightPlan → Arrays → List ℤ → Called → Type 0
Promised n a w r = r ≡ night_plan n a w

-- cells that are the same from b on are so from any later one on
later : {A : Type 0} (u w : List A) (b j : ℕ) → b ≤ j → drop b u ≡ drop b w → drop j u ≡ drop j w
later {A} u w b j h e =
    let q : j ≡ b + (j - b) = omega arith in
    ap (λ (i : ℕ). drop i u) q ∙ sym (drop-drop (j - b) b u) ∙ ap (drop (j - b)) e ∙ drop-drop (j - b) b w
    ∙ ap (λ (i : ℕ). drop i w) (sym q)

arrays_by : (n : NightPlan) (a : Arrays) (w : List ℤ) (v : NightAnswer) → (leaves n a w v).arrays ≡ arrays_left n a w v
arrays_by n a w ShortMemory = refl
arrays_by n a w (NoGap f) = refl
arrays_by n a w (RowsFull f) = refl
arrays_by n a w (EntriesFull f) = refl
arrays_by n a w (CostBeyond f j) = refl
arrays_by n a w (FoundBeyond f) = refl
arrays_by n a w (FirstStands f s) = refl
arrays_by n a w (Handed f s) = refl

none_by : (n : NightPlan) (a : Arrays) (w : List ℤ) (v : NightAnswer) (u : List ℤ) → hands_none v ≡ true
    → Leaves n a w v u
    → drop section_cells u ≡ drop section_cells w
none_by n a w ShortMemory u h l = ap (drop section_cells) l
none_by n a w (NoGap f) u h l = l.rest
none_by n a w (RowsFull f) u h l = l.rest
none_by n a w (EntriesFull f) u h l = l.rest
none_by n a w (CostBeyond f j) u h l = l.rest
none_by n a w (FoundBeyond f) u h l = l.rest
none_by n a w (FirstStands f s) u h l = unlike h
none_by n a w (Handed f s) u h l = unlike h

-- the cost of amounts that are the same
cost_same : (p : Plan) (y z : ℕ → ℤ) → ((j : ℕ) → j < p.cols → z j ≡ y j) → cost p z ≡ cost p y
unfolding cost
cost_same p y z h = sum_ext p.cols _ _ (λ j l. ap (λ (v : ℤ). c p j *ℤ v) (h j l))

alarms_same : (p : Plan) (o : ℕ → ℤ) (g : ℤ) (y z : ℕ → ℤ) → ((j : ℕ) → j < p.cols → z j ≡ y j)
    → AlarmsFirst p o g y → AlarmsFirst p o g z
alarms_same p o g y z h t =
    let e = cost_same p y z h in
    record { not_higher = rw e t.not_higher; near_least = λ k u b. rw e (t.near_least k u b) }

module _ (n : NightPlan) (a : Arrays) (w : List ℤ) where
  abbrev Alarms : ℤ → (ℕ → ℤ) → Type 0
  Alarms g z = AlarmsFirst n.plan (x (first_stage n a).sheet.plan) g z

  -- the amounts y, where they are handed out
  handed_so : PastFound n a w → (g : ℤ) (u y : List ℤ) → HandsOut n a w y u → Alarms g (λ j. y ‼ j)
      → Alarms g (λ j. u ‼ (handed_at + j))
  handed_so d g u y h =
      alarms_same n.plan (x (first_stage n a).sheet.plan) g (λ j. y ‼ j) (λ j. u ‼ (handed_at + j))
      (λ j l. sym (section_at handed_at max_columns u j (pos 0)
      (omega (arith, l, (sized n.budget n.tolerance n.plan a (first_opens n a w d)).cols_fit)))
      ∙ ap (λ (z : List ℤ). z ‼ j) h.amounts)

  -- what both kinds of answer say
  abbrev AlarmsOf : Stage → List ℤ → Type 0
  AlarmsOf f u = (g : ℤ) × (f.audit ≡ Judged (Gap g)) × Alarms g (λ j. u ‼ (handed_at + j))

  alarms_by : {v : NightAnswer} → Says n a w v → (u : List ℤ) → Leaves n a w v u → (f s : Stage)
      → (v ≡ FirstStands f s) ⊎ (v ≡ Handed f s) → AlarmsOf f u
  alarms_by (Says.short z h) u l f s e =
      absurd (let q : ◌≡◌ {A = ℕ} 0 1 = ⊎_elim (λ i. cc) (λ i. cc) e in omega arith)
  alarms_by (Says.no_gap m h) u l f s e =
      absurd (let q : ◌≡◌ {A = ℕ} 0 1 = ⊎_elim (λ i. cc) (λ i. cc) e in omega arith)
  alarms_by (Says.rows_full m h) u l f s e =
      absurd (let q : ◌≡◌ {A = ℕ} 0 1 = ⊎_elim (λ i. cc) (λ i. cc) e in omega arith)
  alarms_by (Says.entries_full m h) u l f s e =
      absurd (let q : ◌≡◌ {A = ℕ} 0 1 = ⊎_elim (λ i. cc) (λ i. cc) e in omega arith)
  alarms_by (Says.cost_beyond m j h) u l f s e =
      absurd (let q : ◌≡◌ {A = ℕ} 0 1 = ⊎_elim (λ i. cc) (λ i. cc) e in omega arith)
  alarms_by (Says.found_beyond m h) u l f s e =
      absurd (let q : ◌≡◌ {A = ℕ} 0 1 = ⊎_elim (λ i. cc) (λ i. cc) e in omega arith)
  alarms_by (Says.first_stands_holds d h) u l f s e =
      let k = d.before.before.before.before.gap in
      let b : (first_stage n a).stage ≡ f = ⊎_elim (λ i. cc) (λ i. cc) e in
      subst (λ (z : Stage). AlarmsOf z u) b (
        k.0,
        k.1,
        handed_so d k.0 u (first_stage n a).sheet.plan.amounts l (first_alarms n a w d k.0 k.1),
      )
  alarms_by (Says.hands d h) u l f s e =
      let k = d.before.before.before.before.gap in
      let b : (first_stage n a).stage ≡ f = ⊎_elim (λ i. cc) (λ i. cc) e in
      subst (λ (z : Stage). AlarmsOf z u) b (
        k.0,
        k.1,
        handed_so d k.0 u (second_stage n a).sheet.plan.amounts l (handed_alarms n a w d k.0 k.1 h),
      )

  past_by : {v : NightAnswer} → Says n a w v → (u : List ℤ) → Leaves n a w v u → drop whole_end u ≡ drop whole_end w
  past_by (Says.short z h) u l = ap (drop whole_end) l
  past_by (Says.no_gap m h) u l = later u w section_cells whole_end (omega arith) l.rest
  past_by (Says.rows_full m h) u l = later u w section_cells whole_end (omega arith) l.rest
  past_by (Says.entries_full m h) u l = later u w section_cells whole_end (omega arith) l.rest
  past_by (Says.cost_beyond m j h) u l = later u w section_cells whole_end (omega arith) l.rest
  past_by (Says.found_beyond m h) u l = later u w section_cells whole_end (omega arith) l.rest
  past_by (Says.first_stands_holds d h) u l = later u w (coefs_end n) whole_end
      (omega (arith, cells_in n a w d)) l.rest
  past_by (Says.hands d h) u l = later u w (coefs_end n) whole_end
      (omega (arith, cells_in n a w d)) l.rest

module _ (n : NightPlan) (a : Arrays) (w : List ℤ) (r : Called) (e : Promised n a w r) where
  -- 01: "Any two results allowed by a promise are shown equal": the answer and every lent cell
  pub settled : (s : Called) → Promised n a w s → r ≡ s
  settled s f = e ∙ sym f

  said : Says n a w r.answer
  said = subst (λ (k : Called). Says n a w k.answer) (sym e) (night_says n a w)

  whole_result : r ≡ leaves n a w r.answer
  whole_result = e ∙ night_only n a w said

  -- each answer exactly when its words hold, and none of the earlier
  pub night_exactly : (v : NightAnswer) → (r.answer ≡ v) ↔ Says n a w v
  night_exactly v = (
    λ h. subst (Says n a w) h said,
    λ h. ap (λ (k : Called). k.answer) (e ∙ night_only n a w h) ∙ same_answer n a w v,
  )

  -- every cell of the whole numbers, by the answer: the stages' sections, the amounts and the coefficients
  pub night_leaves : Leaves n a w r.answer r.whole
  night_leaves =
      subst (Leaves n a w r.answer) (sym (ap (λ (k : Called). k.whole) whole_result)) (leaves_so n a w said)

  -- the solver's arrays are those of the last stage that ran
  pub night_arrays : r.arrays ≡ arrays_left n a w r.answer
  night_arrays = ap (λ (k : Called). k.arrays) whole_result ∙ arrays_by n a w r.answer

  -- the refusal changes nothing
  pub short_keeps : r.answer ≡ ShortMemory → (r.arrays ≡ a) × (r.whole ≡ w)
  short_keeps h = (
    night_arrays ∙ ap (arrays_left n a w) h,
    subst (λ (v : NightAnswer). Leaves n a w v r.whole) h night_leaves,
  )

  -- "hands out no amounts and stops"
  pub no_amounts : hands_none r.answer ≡ true → section handed_at max_columns r.whole ≡ section handed_at max_columns w
  no_amounts h =
      ap (take max_columns)
      (later r.whole w section_cells handed_at (omega arith) (none_by n a w r.answer r.whole h night_leaves))

  -- 01: "cells past what is written never change"
  pub past_stays : drop whole_end r.whole ≡ drop whole_end w
  past_stays = past_by n a w said r.whole night_leaves

  -- "the handed-out amounts never have a higher alarm cost than the first stage's", and "their alarm cost lies within
  -- the first gap of the least possible"
  pub alarms_first : (f s : Stage) → (r.answer ≡ FirstStands f s) ⊎ (r.answer ≡ Handed f s)
      → (g : ℤ) × (f.audit ≡ Judged (Gap g))
      × AlarmsFirst n.plan (x (first_stage n a).sheet.plan) g (λ j. r.whole ‼ (handed_at + j))
  alarms_first f s h = alarms_by n a w said r.whole night_leaves f s h
