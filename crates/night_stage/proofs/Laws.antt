-- What a stage's calls ask, and each way through it. No contract cites this file. Assumes nothing.
use mathlib.Core.Path.{◌≡◌, refl, ap, ◌∙◌}
use mathlib.Core.Bool.{Bool, true, false, ◌&&◌}
use mathlib.Core.List.{List}
use Prim.Native.Nat.{ℕ, ◌+◌, ◌<◌, ◌≤◌}
use lib.ListN.{length, replicate}
use native.Mathlib.Omega.{arith}
use lib.Dec.{leb}
use lib.IntN.{ℤ}
use lib.Ieee.{Float}
use borrow.Author.Tests.{lt-leb, eq-eqb, ne_eqb}
use Rattle.doubles.specs.Limits.{max_rows, max_columns, max_entries, max_budget}
use Rattle.sheet_rules.specs.Sheet.{Plan}
use Rattle.rules.specs.Plan as Rules
use Rattle.rules.specs.Refusals.{sizes_fit}
use Rattle.rules.specs.Answers.{as_row, number_of}
use Rattle.rules.specs.declared.Answer.{Answer}
use Rattle.rules.specs.declared.Answer.TheVariants.{BadSize}
use Rattle.whole_propose.specs.Propose.{lent_of}
use Rattle.rules.proofs.Lists.{over_long}
use Rattle.start_gate.proofs.Gate.{size_over}
use Rattle.solve.proofs.Laws.{refuses}
use Rattle.night_rules.specs.Doubles.{start_at, entry_count, doubles_plan}
use Rattle.night_rules.specs.Arrays.{Arrays, memory, Ran, ran, run_on}
use Rattle.night_rules.specs.Stage.{Lends, zeros, lent_from, proposed_audit, audit_of, is_judged, stage_says, stage_after}
use Rattle.night_rules.specs.Stage.{stage_of, section_into, Left, left, leaves}
use Rattle.night_rules.specs.declared.Audit.{Audit}
use Rattle.night_rules.specs.declared.Audit.TheVariants.{NotRun}
use Rattle.night_rules.proofs.Arrays.{ran_is}
use Rattle.night_doubles.specs.Converted.{Converts}
use Rattle.night_solve.proofs.Laws.{converts, entries_in}
use Rattle.night_sheet.specs.Audited.{Audited, audited, audit_left, audit_by}

pub not_bad : number_of BadSize ≡ 0 → ⊥
unfolding as_row
not_bad e = omega (arith, e)

past_it : (a b : Bool) → a && false && b ≡ false
past_it true b = refl
past_it false b = refl

module _ (p : Plan) where
  pub convert_asks : Lends p → entries_in p ≤ max_entries → Converts (converts p)
  convert_asks l h =
      record {
        rows_few = l.rows_few;
        cols_few = l.cols_few;
        entries_few = h;
        coefs_long = l.coefs_long;
        costs_long = l.costs_long;
        lowers_long = l.lowers_long;
        uppers_long = l.uppers_long;
        lower_marks_long = l.lower_marks_long;
        upper_marks_long = l.upper_marks_long;
        rhs_long = l.rhs_long;
      }

  module _ (budget : ℕ) (tolerance : Float) where
    abbrev q : Rules.Plan
    q = doubles_plan budget tolerance p

    pub starts_long : p.rows ≤ max_rows → {s : List ℕ} → s ≡ q.starts → length s ≡ max_rows + 1
    unfolding doubles_plan
    starts_long h e = ap length e ∙ over_long (p.rows + 1) (start_at p) (replicate (max_rows + 1) 0) (omega arith)

    -- more than 2,048 entries: solve's own 1
    over_size : max_entries < entries_in p → sizes_fit q ≡ false
    unfolding sizes_fit doubles_plan entry_count start_at
    over_size h = rw (lt-leb (entries_in p) max_entries h)
        (past_it (leb p.cols max_columns && leb p.rows max_rows) (leb budget max_budget))

    pub too_many : max_entries < entries_in p → (a : Arrays) → ran BadSize a ≡ run_on q a
    too_many h a =
        ran_is a.values a.numbers a.doubles a.all_factor_numbers a.all_factor_coeffs q a BadSize
        (refuses q a.values a.numbers a.doubles a.all_factor_numbers a.all_factor_coeffs BadSize
        (size_over q (memory a) (over_size h)))

    -- by what the run left
    module _ (z : List ℤ) where
      by_ran : Ran → Left
      by_ran r = leaves (stage_after p q r) z

      -- by what the audit says
      by_audit : Answer → Arrays → Audited → Left
      by_audit r a u = left (stage_says r u.audit) a u.section

      not_run_by : (r : Answer) (a : Arrays) → (number_of r ≡ 0 → ⊥) → left (stage_says r NotRun) a z ≡ by_ran (ran r a)
      unfolding by_ran leaves stage_after section_into is_judged audit_of
      not_run_by r a h = rw (ne_eqb (number_of r) 0 h, audit_of) refl

      was_run_by : (r : Answer) (a : Arrays) → number_of r ≡ 0 → by_audit r a (audit_by p (lent_from q a) z)
          ≡ by_ran (ran r a)
      unfolding by_ran by_audit leaves stage_after section_into audit_by audit_left audit_of proposed_audit is_judged
      was_run_by r a h = rw (eq-eqb (number_of r) 0 h, audit_of) refl

      -- ---- each way through
      module _ (b a : Arrays) (r : Answer) (e : ran r a ≡ run_on q b) where
        pub not_run : (number_of r ≡ 0 → ⊥) → left (stage_says r NotRun) a z ≡ leaves (stage_of budget tolerance p b) z
        unfolding stage_of by_ran
        not_run h = not_run_by r a h ∙ ap by_ran e

        -- s are the row starts that the run handed out
        pub was_run : {s : List ℕ} {u : Audit} {y : List ℤ} → number_of r ≡ 0 → s ≡ q.starts
            → audited u y ≡ audit_by p (lent_of p.cols p.rows s p.ops a.values a.numbers a.doubles
            (zeros max_columns) (zeros max_rows)) z
            → left (stage_says r u) a y ≡ leaves (stage_of budget tolerance p b) z
        unfolding stage_of by_ran by_audit doubles_plan
        was_run h g f = ap (by_audit r a) (rw g at f) ∙ was_run_by r a h ∙ ap by_ran e
