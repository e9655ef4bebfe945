-- The plan after an edit and its edit back is the plan before. Assumes nothing.
use mathlib.Core.Path.{◌≡◌, refl, sym, ap, ◌∙◌}
use mathlib.Core.Bool.{true}
use mathlib.Core.List.{List}
use Prim.Native.Nat.{ℕ, zero, suc, ◌+◌, ◌*◌, ◌≤◌}
use native.Mathlib.Omega.{arith}
use lib.ListN.{get_or, set}
use lib.Seq.{set-set, set-get_or}
use lib.IntN.{ℤ, pos, negsuc, nat_abs}
use Rattle.sheet_rules.specs.Sheet.{Plan, plan_of, lower, upper, lower_mark, upper_mark}
use Rattle.sheet_rules.specs.Edit.{put, edited, old_number, old_mark, uses_column}
use Rattle.sheet_rules.specs.Words.{Bound}
use Rattle.sheet_rules.specs.declared.Edit.{Edit}
use Rattle.file_journal_rules.specs.Undo.{edit_of, if_present, back_kind, back}

set_back : {A : Type 0} (l : List A) (i : ℕ) (v w d : A) → w ≡ get_or l i d → set (set l i v) i w ≡ l
set_back l i v w d e = set-set l i v w ∙ ap (set l i) e ∙ set-get_or l i d

absent_zero : (z : ℤ) → nat_abs z ≤ 0 → pos 0 ≡ z
absent_zero (pos zero) h = refl
absent_zero (pos (suc n)) h = absurd (omega arith)
absent_zero (negsuc n) h = absurd (omega arith)

-- the mark of a bound is known, and a bound that is absent has number 0
pub record Marks (p : Plan) (j : ℕ) : Type 0 where
  pub of_lower : Bound (lower_mark p j) (lower p j)
  pub of_upper : Bound (upper_mark p j) (upper p j)

module _ (p : Plan) (i j : ℕ) (z : ℤ) where
  -- kinds 3 and 8, and 4 and 9, by the mark before
  lower_back : (m : ℕ) → lower_mark p j ≡ m → Bound m (lower p j)
      → (edited (edited p (edit_of 3 i j z)) (edit_of (if_present m 3 8) i j (lower p j)) ≡ p) × (edited (edited p (edit_of 8 i j z)) (edit_of (if_present m 3 8) i j (lower p j)) ≡ p)
  unfolding edited put if_present
  lower_back zero e b =
      let n : pos 0 ≡ lower p j = absent_zero (lower p j) (b.absent refl) in (
        λ t. plan_of p.rows p.cols p.coefs p.costs (set_back p.lowers j z (pos 0) (pos 0) n t) p.uppers (set_back p.lower_marks j 1 0 0 (sym e) t) p.upper_marks p.rhs p.ops p.amounts p.mults,
        λ t. plan_of p.rows p.cols p.coefs p.costs (set_back p.lowers j (pos 0) (pos 0) (pos 0) n t) p.uppers (set_back p.lower_marks j 0 0 0 (sym e) t) p.upper_marks p.rhs p.ops p.amounts p.mults,
      )
  lower_back (suc zero) e b = (
    λ t. plan_of p.rows p.cols p.coefs p.costs (set_back p.lowers j z (lower p j) (pos 0) refl t) p.uppers (set_back p.lower_marks j 1 1 0 (sym e) t) p.upper_marks p.rhs p.ops p.amounts p.mults,
    λ t. plan_of p.rows p.cols p.coefs p.costs (set_back p.lowers j (pos 0) (lower p j) (pos 0) refl t) p.uppers (set_back p.lower_marks j 0 1 0 (sym e) t) p.upper_marks p.rhs p.ops p.amounts p.mults,
  )
  lower_back (suc (suc m)) e b = absurd (omega (arith, b.known))

  upper_back : (m : ℕ) → upper_mark p j ≡ m → Bound m (upper p j)
      → (edited (edited p (edit_of 4 i j z)) (edit_of (if_present m 4 9) i j (upper p j)) ≡ p) × (edited (edited p (edit_of 9 i j z)) (edit_of (if_present m 4 9) i j (upper p j)) ≡ p)
  unfolding edited put if_present
  upper_back zero e b =
      let n : pos 0 ≡ upper p j = absent_zero (upper p j) (b.absent refl) in (
        λ t. plan_of p.rows p.cols p.coefs p.costs p.lowers (set_back p.uppers j z (pos 0) (pos 0) n t) p.lower_marks (set_back p.upper_marks j 1 0 0 (sym e) t) p.rhs p.ops p.amounts p.mults,
        λ t. plan_of p.rows p.cols p.coefs p.costs p.lowers (set_back p.uppers j (pos 0) (pos 0) (pos 0) n t) p.lower_marks (set_back p.upper_marks j 0 0 0 (sym e) t) p.rhs p.ops p.amounts p.mults,
      )
  upper_back (suc zero) e b = (
    λ t. plan_of p.rows p.cols p.coefs p.costs p.lowers (set_back p.uppers j z (upper p j) (pos 0) refl t) p.lower_marks (set_back p.upper_marks j 1 1 0 (sym e) t) p.rhs p.ops p.amounts p.mults,
    λ t. plan_of p.rows p.cols p.coefs p.costs p.lowers (set_back p.uppers j (pos 0) (upper p j) (pos 0) refl t) p.lower_marks (set_back p.upper_marks j 0 1 0 (sym e) t) p.rhs p.ops p.amounts p.mults,
  )
  upper_back (suc (suc m)) e b = absurd (omega (arith, b.known))

  by_kind : (k : ℕ) → 1 ≤ k → k ≤ 9 → (uses_column k ≡ true → Marks p j) → edited (edited p (edit_of k i j z)) (back p (edit_of k i j z)) ≡ p
  unfolding edited put back_kind old_number old_mark
  by_kind zero h l b = absurd (omega arith)
  by_kind (suc zero) h l b = λ t. plan_of p.rows p.cols p.coefs p.costs p.lowers p.uppers p.lower_marks p.upper_marks p.rhs p.ops (set_back p.amounts j z _ (pos 0) refl t) p.mults
  by_kind (suc (suc zero)) h l b = λ t. plan_of p.rows p.cols p.coefs (set_back p.costs j z _ (pos 0) refl t) p.lowers p.uppers p.lower_marks p.upper_marks p.rhs p.ops p.amounts p.mults
  by_kind (suc (suc (suc zero))) h l b = (lower_back (lower_mark p j) refl (b refl).of_lower).0
  by_kind (suc (suc (suc (suc zero)))) h l b = (upper_back (upper_mark p j) refl (b refl).of_upper).0
  by_kind (suc (suc (suc (suc (suc zero))))) h l b = λ t. plan_of p.rows p.cols p.coefs p.costs p.lowers p.uppers p.lower_marks p.upper_marks (set_back p.rhs i z _ (pos 0) refl t) p.ops p.amounts p.mults
  by_kind (suc (suc (suc (suc (suc (suc zero)))))) h l b = λ t. plan_of p.rows p.cols (set_back p.coefs (i * p.cols + j) z _ (pos 0) refl t) p.costs p.lowers p.uppers p.lower_marks p.upper_marks p.rhs p.ops p.amounts p.mults
  by_kind (suc (suc (suc (suc (suc (suc (suc zero))))))) h l b = λ t. plan_of p.rows p.cols p.coefs p.costs p.lowers p.uppers p.lower_marks p.upper_marks p.rhs p.ops p.amounts (set_back p.mults i z _ (pos 0) refl t)
  by_kind (suc (suc (suc (suc (suc (suc (suc (suc zero)))))))) h l b = (lower_back (lower_mark p j) refl (b refl).of_lower).1
  by_kind (suc (suc (suc (suc (suc (suc (suc (suc (suc zero))))))))) h l b = (upper_back (upper_mark p j) refl (b refl).of_upper).1
  by_kind (suc (suc (suc (suc (suc (suc (suc (suc (suc (suc k)))))))))) h l b = absurd (omega arith)

pub plan_back : (p : Plan) (e : Edit) → 1 ≤ e.kind → e.kind ≤ 9 → (uses_column e.kind ≡ true → Marks p e.column) → edited (edited p e) (back p e) ≡ p
plan_back p e h l b = by_kind p e.row e.column e.number e.kind h l b
