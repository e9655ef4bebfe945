-- A section written array by array, and each way through an audit. No contract cites this file. Assumes nothing.
use mathlib.Core.Path.{◌≡◌, refl, sym, ap, ◌∙◌}
use mathlib.Core.Bool.{false}
use mathlib.Core.List.{List, [], ◌++◌, append_assoc}
use Prim.Native.Nat.{ℕ, zero, suc, ◌+◌}
use native.Mathlib.Omega.{arith}
use lib.ListN.{length, drop, length-append}
use lib.Seq.{take_at, drop-append-add, drop-drop}
use lib.IntN.{ℤ}
use Rattle.doubles.specs.Limits.{max_rows, max_columns}
use Rattle.doubles.specs.Lists.{over}
use Rattle.lu_packed.specs.Written.{written}
use Rattle.sheet_rules.specs.Sheet.{Plan, Sheet}
use Rattle.sheet_rules.specs.Opening.{opened}
use Rattle.sheet_rules.specs.Verdict.{verdict}
use Rattle.sheet_rules.specs.Promises.{Opens, Judges}
use Rattle.sheet_rules.specs.declared.Verdict.{Verdict}
use Rattle.whole_propose.specs.Propose.{Lent, Handed, handed, proposed, is_proposed}
use Rattle.whole_propose.specs.declared.Proposal.{Proposal}
use Rattle.whole_propose.specs.declared.Proposal.TheVariants.{Proposed, Nothing, Refused, AmountNotWhole}
use Rattle.whole_propose.specs.declared.Proposal.TheVariants.{MultiplierNotWhole}
use Rattle.night_rules.specs.Stage.{sheet_with, opened_audit, proposed_audit, is_judged, section_of}
use Rattle.night_rules.specs.declared.Audit.TheVariants.{NotWhole, NotOpened, Judged}
use Rattle.night_sheet.specs.Audited.{Audited, audited, audit_left, judged, audit_by, cells_of}

-- ---- x goes behind p, which stands at the front
module _ (p x z : List ℤ) where
  past : drop (length p + length x) (p ++ drop (length p) z) ≡ drop (length (p ++ x)) z
  past =
      drop-append-add p (drop (length p) z) (length x) ∙ drop-drop (length x) (length p) z
      ∙ ap (λ (k : ℕ). drop k z) (sym (length-append p x))

  behind : (a : ℕ) (l : List ℤ) → a ≡ length p → l ≡ over p z → written a x l ≡ over (p ++ x) z
  behind a l e f = rw (f, e, take_at p (drop (length p) z) (length p) refl, past) refl

module _ (x y r d c b n z : List ℤ) {z1 z2 z3 z4 z5 z6 z7 : List ℤ} where
  pub section_made : length x ≡ max_columns → length y ≡ max_rows → length r ≡ max_rows → length d ≡ max_columns
      → length c ≡ 1 → length b ≡ 1 → z1 ≡ written 0 x z → z2 ≡ written 128 y z1 → z3 ≡ written 224 r z2
      → z4 ≡ written 320 d z3 → z5 ≡ written 448 c z4 → z6 ≡ written 449 b z5 → z7 ≡ written 450 n z6
      → z7 ≡ written 0 (section_of (cells_of x y r d c b n)) z
  unfolding section_of
  section_made lx ly lr ld lc lb e1 e2 e3 e4 e5 e6 e7 =
      let p1 = e1 ∙ behind [] x z 0 z refl refl in
      let p2 = e2 ∙ behind ([] ++ x) y z 128 z1 (omega arith) p1 in
      let l2 = length-append x y in
      let p3 = e3 ∙ behind (x ++ y) r z 224 z2 (omega arith) p2 in
      let l3 = length-append (x ++ y) r in
      let p4 = e4 ∙ behind (x ++ y ++ r) d z 320 z3 (omega arith) p3 in
      let l4 = length-append (x ++ y ++ r) d in
      let p5 = e5 ∙ behind (x ++ y ++ r ++ d) c z 448 z4 (omega arith) p4 in
      let l5 = length-append (x ++ y ++ r ++ d) c in
      let p6 = e6 ∙ behind (x ++ y ++ r ++ d ++ c) b z 449 z5 (omega arith) p5 in
      let l6 = length-append (x ++ y ++ r ++ d ++ c) b in
      let p7 = e7 ∙ behind (x ++ y ++ r ++ d ++ c ++ b) n z 450 z6 (omega arith) p6 in
      let same : x ++ y ++ r ++ d ++ c ++ b ++ n ≡ x ++ (y ++ (r ++ (d ++ (c ++ (b ++ n))))) = simp append_assoc refl in
      p7 ∙ ap (λ (t : List ℤ). over t z) same ∙ sym (behind [] (x ++ (y ++ (r ++ (d ++ (c ++ (b ++ n)))))) z 0 z refl
      refl)

-- ---- opened and judged
module _ (s : Sheet) (z : List ℤ) where
  -- by opening's number
  by_number : ℕ → Audited
  by_number k = audit_left (opened_audit k s) (opened s) z

  refuses : (k : ℕ) → (k ≡ 0 → ⊥) → audited (NotOpened k) z ≡ by_number k
  unfolding by_number audit_left opened_audit is_judged
  refuses zero h = absurd (h refl)
  refuses (suc k) h = refl

  accepts : audited (Judged (verdict (opened s))) (written 0 (section_of (opened s)) z) ≡ by_number 0
  unfolding by_number audit_left opened_audit is_judged
  accepts = refl

  pub not_opened : {k : ℕ} {t : Sheet} → Opens s k t → (k ≡ 0 → ⊥) → audited (NotOpened k) z ≡ judged s z
  unfolding judged by_number
  not_opened {k} o h = refuses k h ∙ ap by_number o.answers

  pub was_judged : {k : ℕ} {t : Sheet} {v : Verdict} → Opens s k t → k ≡ 0 → Judges t v
      → audited (Judged v) (written 0 (section_of t) z) ≡ judged s z
  unfolding judged by_number
  was_judged {k} {t} o h j =
      ap (λ (a : Verdict). audited (Judged a) (written 0 (section_of t) z)) j.answers
      ∙ ap (λ (u : Sheet). audited (Judged (verdict u)) (written 0 (section_of u) z)) o.left
      ∙ accepts ∙ ap by_number (sym h ∙ o.answers)

-- ---- proposed
pub not_proposed : (a : Proposal) → (a ≡ Proposed → ⊥) → is_proposed a ≡ false
unfolding is_proposed
not_proposed Proposed h = absurd (h refl)
not_proposed Nothing h = refl
not_proposed (Refused n) h = refl
not_proposed (AmountNotWhole j r) h = refl
not_proposed (MultiplierNotWhole i r) h = refl

module _ (p : Plan) (l : Lent) (z : List ℤ) where
  -- by what is proposed
  by_handed : Handed → Audited
  by_handed h =
      let s = sheet_with p h.amounts_left h.mults_left in
      audit_left (proposed_audit h.answer s) (opened s) z

  pub not_whole : {a : Proposal} {x y : List ℤ} → handed a x y ≡ proposed l → (a ≡ Proposed → ⊥)
      → audited (NotWhole a) z ≡ audit_by p l z
  unfolding audit_by by_handed audit_left proposed_audit is_judged
  not_whole {a} {x} {y} e h =
      let here : audited (NotWhole a) z ≡ by_handed (handed a x y) = rw (not_proposed a h, proposed_audit) refl in
      here ∙ ap by_handed e

  pub was_proposed : {a : Proposal} {x y : List ℤ} {r : Audited} → handed a x y ≡ proposed l → a ≡ Proposed → r
      ≡ judged (sheet_with p x y) z
      → r ≡ audit_by p l z
  unfolding audit_by by_handed proposed_audit is_proposed judged
  was_proposed {a} {x} {y} e q f = f ∙ ap (λ (b : Proposal). by_handed (handed b x y)) (sym q) ∙ ap by_handed e
