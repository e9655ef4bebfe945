-- Any two results that a promise allows are equal. Assumes nothing.
use mathlib.Core.Path.{◌≡◌}
use Prim.Native.Nat.{ℕ}
use Rattle.sheet_rules.specs.Sheet.{Sheet}
use Rattle.sheet_rules.specs.Promises.{Opens, Edits, Judges}
use Rattle.sheet_rules.specs.declared.Edit.{Edit}
use Rattle.sheet_rules.specs.declared.Verdict.{Verdict}

pub opens_one : (s : Sheet) (m n : ℕ) (t u : Sheet) → Opens s m t → Opens s n u → (m ≡ n) × (t ≡ u)
opens_one s m n t u h k = (cc, cc)

pub edits_one : (s : Sheet) (e : Edit) (m n : ℕ) (t u : Sheet) → Edits s e m t → Edits s e n u → (m ≡ n) × (t ≡ u)
edits_one s e m n t u h k = (cc, cc)

pub judges_one : (s : Sheet) (v w : Verdict) → Judges s v → Judges s w → v ≡ w
judges_one s v w h k = cc
