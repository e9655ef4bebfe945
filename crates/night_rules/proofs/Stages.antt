-- A stage: each audit exactly when its words hold, and demand 3 for its sheet. Assumes nothing.
use mathlib.Core.Path.{◌≡◌, refl, sym, ap, ◌∙◌, subst}
use mathlib.Core.Logic.{◌↔◌}
use mathlib.Core.Bool.{Bool, true, false}
use mathlib.Core.List.{List}
use Prim.Native.Nat.{ℕ, zero, suc}
use native.Mathlib.Omega.{arith}
use lib.Dec.{eqb}
use lib.ListN.{length}
use lib.IntN.{ℤ}
use lib.Ieee.{Float}
use borrow.Author.Tests.{eqb-true, eqb-false, eq-eqb, ne_eqb}
use Rattle.doubles.specs.Limits.{max_columns}
use Rattle.doubles.proofs.Tests.{not_both, false_by}
use Rattle.rules.specs.Answers.{number_of}
use Rattle.sheet_rules.specs.Sheet.{Plan, Kept, Sheet, sheet_of}
use Rattle.sheet_rules.specs.Opening.{opening, opened, leaves}
use Rattle.sheet_rules.specs.Verdict.{verdict}
use Rattle.sheet_rules.specs.declared.Verdict.{Verdict}
use Rattle.sheet_rules.specs.Promises as Promises
use Rattle.sheet_rules.specs.Promises.{Judges}
use Rattle.sheet_rules.specs.Words.{Sized, Openable}
use Rattle.sheet_rules.proofs.Bools.{unlike}
use Rattle.sheet_rules.proofs.Exact.{opening_so}
use Rattle.sheet_rules.proofs.Reached.{opened_good}
use Rattle.whole_propose.specs.Propose.{is_proposed, handed}
use Rattle.whole_propose.specs.Meaning.{Audited}
use Rattle.whole_propose.proofs.Meaning.{audited}
use Rattle.lu_packed.specs.Written.{written}
use Rattle.whole_propose.specs.declared.Proposal.{Proposal}
use Rattle.whole_propose.specs.declared.Proposal.TheVariants.{Proposed, Nothing, Refused, AmountNotWhole}
use Rattle.whole_propose.specs.declared.Proposal.TheVariants.{MultiplierNotWhole}
use Rattle.night_rules.specs.Arrays.{Arrays}
use Rattle.night_rules.specs.Doubles.{start_at, entries_to, entry_count, doubles_plan}
use Rattle.night_rules.specs.Stage.{section_cells}
use Rattle.night_rules.specs.Stage.{opened_audit, proposed_audit, audit_of, is_judged, Staged, stage_after, stage_of}
use Rattle.night_rules.specs.Stage.{section_of, section_into}
use Rattle.night_rules.specs.declared.Audit.{Audit}
use Rattle.night_rules.specs.declared.Audit.TheVariants.{NotRun, NotWhole, NotOpened, Judged}
use Rattle.night_rules.specs.Words.{the_run, the_lent, the_proposal, the_sheet, AllWhole, Opens, AuditSays, Opened}
use Rattle.night_rules.proofs.Proposals.{whole_exactly}
use Rattle.night_rules.proofs.Numbers.{HandedOver, handed_over}
use Rattle.night_rules.proofs.Shaped.{Shaped, stage_shaped, section_count}

is_proposed_holds : (u : Proposal) → (is_proposed u ≡ true) ↔ (u ≡ Proposed)
unfolding is_proposed
is_proposed_holds Proposed = (λ _. refl, λ _. refl)
is_proposed_holds Nothing = (λ h. cc, λ h. cc)
is_proposed_holds (Refused n) = (λ h. cc, λ h. cc)
is_proposed_holds (AmountNotWhole j r) = (λ h. cc, λ h. cc)
is_proposed_holds (MultiplierNotWhole j r) = (λ h. cc, λ h. cc)

refused : (n : ℕ) (s : Sheet) → ¬ (n ≡ 0) → opened_audit n s ≡ NotOpened n
unfolding opened_audit
refused zero s h = absurd (h refl)
refused (suc n) s h = refl

same_plan : (n : ℕ) (s : Sheet) (k : Kept) → (leaves n (sheet_of s.plan k) s).plan ≡ s.plan
same_plan zero s k = refl
same_plan (suc n) s k = refl

pub is_judged_holds : (u : Audit) → (is_judged u ≡ true) ↔ Opened u
unfolding is_judged
is_judged_holds NotRun = (λ h. unlike h, λ o. absurd (let w = o.1 in let z : ◌≡◌ {A = ℕ} 0 1 = cc in omega arith))
is_judged_holds (NotWhole u) = (λ h. unlike h, λ o. absurd (let w = o.1 in let z : ◌≡◌ {A = ℕ} 0 1 = cc in omega arith))
is_judged_holds (NotOpened n) = (λ h. unlike h, λ o. absurd (let w = o.1 in let z : ◌≡◌ {A = ℕ} 0 1 = cc in omega arith))
is_judged_holds (Judged v) = (λ _. (v, refl), λ _. refl)

module _ (budget : ℕ) (tolerance : Float) (p : Plan) (a : Arrays) where
  abbrev the_audit : Audit
  the_audit = (stage_of budget tolerance p a).stage.audit

  abbrev number : ℕ
  number = number_of (the_run budget tolerance p a).answer

  abbrev answer : Proposal
  answer = (the_proposal budget tolerance p a).answer

  abbrev sheet : Sheet
  sheet = the_sheet budget tolerance p a

  proposed_exactly : number ≡ 0 → (is_proposed answer ≡ true) ↔ AllWhole budget tolerance p a
  proposed_exactly z =
      let w = whole_exactly budget tolerance p a z in
      (λ t. w.0 ((is_proposed_holds answer).0 t), λ h. (is_proposed_holds answer).1 (w.1 h))

  -- ---- each audit exactly when its words hold
  pub audit_says : AuditSays budget tolerance p a the_audit
  unfolding stage_of stage_after audit_of proposed_audit opened_audit
  audit_says = at (eqb number 0) refl (is_proposed answer) refl (opening sheet) refl
    where
      at : (b : Bool) → eqb number 0 ≡ b → (d : Bool) → is_proposed answer ≡ d → (k : ℕ) → opening sheet ≡ k
          → AuditSays budget tolerance p a
          (elim b [ true ↦ elim d [ true ↦ opened_audit k sheet | false ↦ NotWhole answer ] | false ↦ NotRun ])
      at false e d f k g = AuditSays.not_run (eqb-false _ 0 e)
      at true e false f k g =
          let z = eqb-true _ 0 e in
          AuditSays.not_whole z (λ h. not_both ((proposed_exactly z).1 h) f)
      at true e true f zero g =
          let z = eqb-true _ 0 e in
          AuditSays.judged (record { gives_0 = z; whole = (proposed_exactly z).0 f; accepts = g })
      at true e true f (suc k) g =
          let z = eqb-true _ 0 e in
          subst (λ (j : ℕ). AuditSays budget tolerance p a (NotOpened j)) g
          (AuditSays.not_opened z ((proposed_exactly z).0 f) (λ h. absurd (omega (arith, g, h))))

  pub audit_only : {u : Audit} → AuditSays budget tolerance p a u → the_audit ≡ u
  unfolding stage_of stage_after audit_of proposed_audit opened_audit
  audit_only (AuditSays.not_run h) = rw (ne_eqb number 0 h, audit_of)
  audit_only (AuditSays.not_whole e h) =
      rw (eq-eqb number 0 e, false_by (λ t. h ((proposed_exactly e).0 t)), audit_of, proposed_audit)
  audit_only (AuditSays.not_opened e h k) =
      rw (eq-eqb number 0 e, (proposed_exactly e).1 h, audit_of, proposed_audit) (refused (opening sheet) sheet k)
  audit_only (AuditSays.judged o) =
      rw (
        eq-eqb number 0 o.gives_0,
        (proposed_exactly o.gives_0).1 o.whole,
        o.accepts,
        audit_of,
        proposed_audit,
        opened_audit,
      )

  judged_as : {u : Audit} → AuditSays budget tolerance p a u → {v : Verdict} → u ≡ Judged v
      → Opens budget tolerance p a × (v ≡ verdict (opened sheet))
  judged_as (AuditSays.not_run h) e = absurd (let z : ◌≡◌ {A = ℕ} 0 1 = cc in omega arith)
  judged_as (AuditSays.not_whole h k) e = absurd (let z : ◌≡◌ {A = ℕ} 0 1 = cc in omega arith)
  judged_as (AuditSays.not_opened h k l) e = absurd (let z : ◌≡◌ {A = ℕ} 0 1 = cc in omega arith)
  judged_as (AuditSays.judged o) e = (o, cc)

  -- 02: "A stage's sheet is opened exactly when its run gives 0, every proposed number is Whole and opening accepts"
  pub opened_exactly : Opened the_audit ↔ Opens budget tolerance p a
  opened_exactly =
      (λ o. (judged_as audit_says o.1).0, λ o. (verdict (opened sheet), audit_only (AuditSays.judged o)))

  abbrev the_stage : Staged
  the_stage = stage_of budget tolerance p a

  -- and its section of the whole numbers is written exactly then
  pub section_written : (at : ℕ) (w : List ℤ) → Opens budget tolerance p a
      → section_into at the_stage w ≡ written at (section_of the_stage.sheet) w
  unfolding section_into
  section_written at w o = rw ((is_judged_holds the_audit).1 (opened_exactly.1 o), section_into)

  pub section_left : (at : ℕ) (w : List ℤ) → ¬ Opens budget tolerance p a → section_into at the_stage w ≡ w
  unfolding section_into
  section_left at w h = rw (false_by (λ t. h (opened_exactly.0 ((is_judged_holds the_audit).0 t))), section_into)

  -- ---- what is opened
  pub plan_is : the_stage.sheet.plan ≡ sheet.plan
  unfolding stage_of stage_after opened
  plan_is = same_plan (opening sheet) sheet _

  sheet_is : the_stage.sheet ≡ opened sheet
  unfolding stage_of stage_after
  sheet_is = refl

  module _ (o : Opens budget tolerance p a) where
    -- by the sheet's own call
    pub opens : Promises.Opens sheet 0 the_stage.sheet
    opens = record { answers = sym o.accepts; left = sheet_is }

    -- demand 3 for the stage's own plan, with the whole way from the run's doubles
    pub stage_audited : Audited (the_lent budget tolerance p a) the_stage.sheet
    stage_audited =
        let x = (the_proposal budget tolerance p a).amounts_left in
        let y = (the_proposal budget tolerance p a).mults_left in
        audited {x = x} {y = y}
        (ap (λ (u : Proposal). handed u x y)
        (sym ((whole_exactly budget tolerance p a o.gives_0).1 o.whole))) refl refl opens

    pub stage_openable : Openable the_stage.sheet
    stage_openable = rw sheet_is (opened_good sheet o.accepts)

  pub judges : {v : Verdict} → the_audit ≡ Judged v → Judges the_stage.sheet v
  judges e = record { answers = (judged_as audit_says e).1 ∙ ap verdict (sym sheet_is) }

  -- ---- its section has all its cells
  module _ (o : Opens budget tolerance p a) where
    pub sized : Sized sheet
    sized = (opening_so sheet o.accepts).0

    shaped : Shaped the_stage.sheet
    shaped = stage_shaped budget tolerance p a sized.rows_fit sized.cols_fit

    pub amounts_long : length the_stage.sheet.plan.amounts ≡ max_columns
    amounts_long = shaped.amounts_long

    pub section_long : length (section_of the_stage.sheet) ≡ section_cells
    section_long = section_count the_stage.sheet shaped

    -- ---- the numbers of the solver's plan are exactly the sheet's
    same_doubles : doubles_plan budget tolerance sheet.plan ≡ doubles_plan budget tolerance p
    unfolding doubles_plan entries_to entry_count start_at
    same_doubles = refl

    pub stage_numbers_holds : HandedOver p (doubles_plan budget tolerance p)
    stage_numbers_holds =
        let n = rw same_doubles at (handed_over budget tolerance sheet o.accepts) in
        record {
          columns = n.columns;
          rows = n.rows;
          costs = n.costs;
          lowers = n.lowers;
          no_lower = n.no_lower;
          uppers = n.uppers;
          no_upper = n.no_upper;
          rights = n.rights;
          comparisons = n.comparisons;
          entry = λ i k h b u.
              let x = n.entry i k h b u in
              record { column = x.column; not_zero = x.not_zero; number = x.number };
          rises = n.rises;
          every = n.every;
        }
