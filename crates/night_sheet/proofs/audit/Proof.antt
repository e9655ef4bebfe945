-- `night_sheet::audit`: what isn't whole, or the judgement. Assumes nothing.
use mathlib.Core.Path.{◌≡◌}
use mathlib.Core.Logic.{◌⊎◌, ⊎_elim}
use mathlib.Core.List.{[]}
use Prim.Native.Nat.{ℕ}
use native.Mathlib.Omega.{arith}
use Rattle.doubles.specs.Limits.{max_rows, max_columns}
use Rattle.sheet_rules.specs.Sheet.{Plan, plan_of}
use Rattle.whole_propose.specs.Propose.{Lent, lent_of}
use Rattle.night_rules.specs.Stage.{zeros}
use Rattle.night_sheet.proofs.Laws.{not_whole, was_proposed}
use borrow.Author.Rules.{rules}
use Rattle.night_sheet.proofs.audit.Statement.{statement}
use Rattle.night_sheet.proofs.audit.Tie as tie

module _ (s : tie.Start) where
  abbrev p : Plan
  p =
      let a = s.args in
      plan_of a.rows a.columns a.coefs.now a.costs.now a.lowers.now a.uppers.now
      a.lower_marks.now a.upper_marks.now a.rhs.now a.ops.now [] []

  abbrev l : Lent
  l =
      let a = s.args in
      lent_of a.columns a.rows a.starts.now a.ops.now a.values.now a.numbers.now a.doubles.now
      (zeros max_columns) (zeros max_rows)

-- Proposed is the first of the proposals
abbrev is : ℕ → Type 0
is k = 0 ≡ k

other_kind : is 1 ⊎ (is 2 ⊎ (is 3 ⊎ is 4)) → ⊥
other_kind =
    ⊎_elim (λ h. omega (arith, h)) (⊎_elim (λ h. omega (arith, h))
    (⊎_elim (λ h. omega (arith, h)) (λ h. omega (arith, h))))

slice-aggregate-propose : tie.Need-slice_bounds-propose-end
slice-aggregate-propose c = search rules

slice-aggregate-propose-2 : tie.Need-slice_bounds-propose-end-2
slice-aggregate-propose-2 c = search rules

propose-requires : tie.Need-propose-p-requires
propose-requires c κs = search rules

enum_told : tie.Need-enum_told-1
enum_told c = search rules

judge-requires : tie.Need-judge-requires
judge-requires c κs = search rules

same_length : tie.Need-shape_of-section-in-Proposed
same_length c = search rules

returns : tie.Need-returns-in-Proposed
returns c =
    let s : tie.Start = search in
    was_proposed (p s) (l s) s.args.section.now c.propose-p.ensures c.in-Proposed.is c.judge.ensures

returns-2 : tie.Need-returns
returns-2 c =
    let s : tie.Start = search in
    not_whole (p s) (l s) s.args.section.now c.propose-p.ensures (λ q. other_kind (rw q at c.in_default.in_default-own.keys2))

pub audit_spec : {M : Type 1} → statement M
audit_spec =
    tie.close
    (tie.spec
    slice-aggregate-propose
    slice-aggregate-propose-2
    propose-requires
    enum_told
    judge-requires
    same_length
    returns
    returns-2)
