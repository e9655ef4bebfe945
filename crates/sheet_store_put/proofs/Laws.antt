-- A store where the kind is the one that writes there, where it isn't, and all of an edit's stores together. Assumes nothing.
use mathlib.Core.Path.{◌≡◌, ap, ◌∙◌}
use mathlib.Core.Bool.{Bool, true, false}
use mathlib.Core.List.{List}
use Prim.Native.Nat.{ℕ, ◌+◌, ◌*◌}
use lib.Dec.{eqb}
use lib.IntN.{ℤ, pos}
use lib.ListN.{set}
use Rattle.sheet_rules.specs.Sheet.{Plan, plan_of}
use Rattle.sheet_rules.specs.Edit.{put, edited}
use Rattle.sheet_rules.specs.declared.Edit.{Edit}

module _ {A : Type 0} (i : ℕ) (v : A) (l : List A) where
  pub put_hit : (hit : Bool) → hit ≡ true → set l i v ≡ put hit i v l
  unfolding put
  put_hit hit e = rw e

  pub put_miss : (hit : Bool) → hit ≡ false → l ≡ put hit i v l
  unfolding put
  put_miss hit e = rw e

-- v is the edit's number, as the machine hands it on
module _ (p : Plan) (e : Edit) (v : ℤ) (is : v ≡ e.number) where
  abbrev i : ℕ
  i = e.row

  abbrev j : ℕ
  j = e.column

  abbrev with_number : ℤ → Edit
  with_number z = record { kind = e.kind; row = i; column = j; number = z }

  pub put_all : (co c l u : List ℤ) (lm um : List ℕ) (r x y : List ℤ)
      → co ≡ put (eqb e.kind 6) (i * p.cols + j) v p.coefs
      → c ≡ put (eqb e.kind 2) j v p.costs
      → l ≡ put (eqb e.kind 8) j (pos 0) (put (eqb e.kind 3) j v p.lowers)
      → u ≡ put (eqb e.kind 9) j (pos 0) (put (eqb e.kind 4) j v p.uppers)
      → lm ≡ put (eqb e.kind 8) j 0 (put (eqb e.kind 3) j 1 p.lower_marks)
      → um ≡ put (eqb e.kind 9) j 0 (put (eqb e.kind 4) j 1 p.upper_marks)
      → r ≡ put (eqb e.kind 5) i v p.rhs
      → x ≡ put (eqb e.kind 1) j v p.amounts
      → y ≡ put (eqb e.kind 7) i v p.mults
      → plan_of p.rows p.cols co c l u lm um r p.ops x y ≡ edited p e
  unfolding edited
  put_all co c l u lm um r x y eco ec el eu elm eum er ex ey =
      (λ h. plan_of p.rows p.cols (eco h) (ec h) (el h) (eu h) (elm h) (eum h) (er h) p.ops (ex h) (ey h)) ∙ ap (λ (z : ℤ). edited p (with_number z)) is
