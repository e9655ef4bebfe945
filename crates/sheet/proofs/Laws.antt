-- What the public calls leave, by their answers. Assumes nothing.
use mathlib.Core.Path.{◌≡◌, sym, ap, ◌∙◌}
use Prim.Native.Nat.{ℕ}
use lib.IntN.{ℤ}
use Rattle.sheet_rules.specs.Sheet.{Sheet, Kept, sheet_of, fresh, over_kept}
use Rattle.sheet_rules.specs.Opening.{opening, opened}
use Rattle.sheet_rules.specs.Edit.{applied, edit_refusal, edit}
use Rattle.sheet_rules.specs.Promises.{Opens, Edits}
use Rattle.sheet_rules.specs.declared.Edit.{Edit}
use Rattle.sheet_rules.proofs.Exact.{left_new, left_old}

module _ (s : Sheet) where
  pub opens_new : (r : ℕ) (k : Kept) → r ≡ opening s → r ≡ 0 → k ≡ over_kept (fresh s.plan) s.kept → Opens s r (sheet_of s.plan k)
  unfolding opened
  opens_new r k e z ek = record { answers = e; left = ap (sheet_of s.plan) ek ∙ sym (left_new (opening s) _ s (sym e ∙ z)) }

  pub opens_old : (r : ℕ) → r ≡ opening s → (r ≡ 0 → ⊥) → Opens s r s
  unfolding opened
  opens_old r e h = record { answers = e; left = sym (left_old (opening s) _ s (λ q. h (e ∙ q))) }

-- v is the number handed in, as the machine hands it on
module _ (s : Sheet) (k i j : ℕ) (v z : ℤ) (is : v ≡ z) where
  abbrev with_number : ℤ → Edit
  with_number n = record { kind = k; row = i; column = j; number = n }

  answer : (r : ℕ) → r ≡ edit_refusal s (with_number v) → r ≡ edit_refusal s (with_number z)
  answer r e = e ∙ ap (λ (n : ℤ). edit_refusal s (with_number n)) is

  pub edits_new : (r : ℕ) (t : Sheet) → r ≡ edit_refusal s (with_number v) → r ≡ 0 → t ≡ applied s (with_number v) → Edits s (with_number z) r t
  unfolding edit
  edits_new r t e w et = record { answers = answer r e; left = et ∙ ap (λ (n : ℤ). applied s (with_number n)) is ∙ sym (left_new (edit_refusal s (with_number z)) _ s (sym (answer r e) ∙ w)) }

  pub edits_old : (r : ℕ) → r ≡ edit_refusal s (with_number v) → (r ≡ 0 → ⊥) → Edits s (with_number z) r s
  unfolding edit
  edits_old r e h = record { answers = answer r e; left = sym (left_old (edit_refusal s (with_number z)) _ s (λ q. h (answer r e ∙ q))) }
