-- Any two results that a promise of the journal allows are equal. Assumes nothing.
use mathlib.Core.Path.{◌≡◌, sym, ◌∙◌}
use mathlib.Core.List.{List}
use Prim.Native.Nat.{ℕ}
use Rattle.sheet_rules.specs.Sheet.{Sheet}
use Rattle.sheet_rules.specs.declared.Edit.{Edit}
use Rattle.file_journal_rules.specs.Lent.{Lent}
use Rattle.file_journal_rules.specs.Feed.{Fed}
use Rattle.file_journal_rules.specs.Promises.{Begins, Keeps, Undoes, Feeds, Closes}

pub begins_one : {j k l : List ℕ} {a b : ℕ} → Begins j a k → Begins j b l → (a ≡ b) × (k ≡ l)
begins_one g h = (g.answers ∙ sym h.answers, g.left ∙ sym h.left)

pub keeps_one : {l m n : Lent} {e : Edit} {a b : ℕ} → Keeps l e a m → Keeps l e b n → (a ≡ b) × (m ≡ n)
keeps_one g h = (g.answers ∙ sym h.answers, g.left ∙ sym h.left)

pub undoes_one : {l m n : Lent} {a b : ℕ} → Undoes l a m → Undoes l b n → (a ≡ b) × (m ≡ n)
undoes_one g h = (g.answers ∙ sym h.answers, g.left ∙ sym h.left)

pub feeds_one : {p w c : List ℕ} {s : Sheet} {f g : Fed} → Feeds p s w c f → Feeds p s w c g → f ≡ g
feeds_one g h = g.left ∙ sym h.left

pub closes_one : {c : List ℕ} {a b : ℕ} → Closes c a → Closes c b → a ≡ b
closes_one g h = g.answers ∙ sym h.answers
