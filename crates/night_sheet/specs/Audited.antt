-- A stage's audit, and its section afterwards. Assumes nothing.
use Rattle.std.specs.Prelude.{true, false, List, [], ℤ}
use Rattle.lu_packed.specs.Written.{written}
use Rattle.sheet_rules.specs.Sheet.{Plan, Sheet, plan_of, kept_of, sheet_of}
use Rattle.sheet_rules.specs.Opening.{opening, opened}
use Rattle.whole_propose.specs.Propose.{Lent, proposed}
use Rattle.night_rules.specs.Stage.{sheet_with, opened_audit, proposed_audit, is_judged, section_of}
use Rattle.night_rules.specs.declared.Audit.{Audit}

pub record Audited : Type 0 where
  pub audit : Audit
  pub section : List ℤ

abbrev pub audited : Audit → List ℤ → Audited
audited a z = record { audit = a; section = z }

-- s is the opened sheet: it is written exactly where it is judged
unfoldable pub audit_left : Audit → Sheet → List ℤ → Audited
audit_left a s z = audited a (elim (is_judged a) [ true ↦ written 0 (section_of s) z | false ↦ z ])

unfoldable pub judged : Sheet → List ℤ → Audited
judged s z = audit_left (opened_audit (opening s) s) (opened s) z

unfoldable pub audit_by : Plan → Lent → List ℤ → Audited
audit_by p l z =
    let h = proposed l in
    let s = sheet_with p h.amounts_left h.mults_left in
    audit_left (proposed_audit h.answer s) (opened s) z

-- what a section holds
abbrev pub cells_of : List ℤ → List ℤ → List ℤ → List ℤ → List ℤ → List ℤ → List ℤ → Sheet
cells_of x y r d c b n = sheet_of (plan_of 0 0 [] [] [] [] [] [] [] [] x y) (kept_of r d c b n)
