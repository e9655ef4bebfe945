-- An entry of a feed, a block's entries in turn, and a whole block. Assumes nothing.
use mathlib.Core.Path.{◌≡◌, refl, sym, ap, ◌∙◌}
use mathlib.Core.Bool.{Bool, true, false}
use mathlib.Core.List.{List, [], ◌∷◌}
use Prim.Native.Nat.{ℕ, zero, suc, ◌+◌, ◌-◌, ◌*◌, ◌≤◌, ◌<◌}
use native.Mathlib.Nat.{sub-zero}
use native.Mathlib.Omega.{arith}
use lib.Dec.{leb, eqb}
use lib.ListN.{length, take, drop}
use lib.Seq.{drop-drop}
use Rattle.doubles.specs.Lists.{◌#◌, over}
use Rattle.sheet_rules.specs.Sheet.{Sheet}
use Rattle.sheet_rules.specs.Edit.{applied, edit_refusal, edit}
use Rattle.sheet_rules.specs.declared.Edit.{Edit}
use Rattle.file_journal_rules.specs.Journal.{forth, else, unless_so, feed_refusal}
use Rattle.file_journal_rules.specs.File.{entry_from, entries_from, per_block}
use Rattle.file_journal_rules.specs.Feed.{apply_by, fed_entry, go_on_with, apply_all, says_by, after_block, take_block, feed_from}
use Rattle.file_journal_rules.specs.declared.Entry.{Entry}
use Rattle.file_journal_rules.proofs.Undo.{leaves_applied}
use Rattle.file_journal_cells.specs.Cells.{takes, settled}
use Rattle.file_journal_take.specs.Steps.{Leaves}

-- ---- one entry
else_none : (a b : ℕ) → else a b ≡ 0 → a ≡ 0
unfolding else
else_none zero b w = refl
else_none (suc a) b w = absurd (omega arith)

kept_by : (k : ℕ) (new old : Sheet) → (k ≡ 0 → ⊥) → (k, old) ≡ apply_by k new old
unfolding apply_by
kept_by zero new old f = absurd (f refl)
kept_by (suc k) new old f = refl

module _ (s : Sheet) (n : Entry) where
  pub entry_accepted : (e : Edit) (r : ℕ) → e ≡ forth n → r ≡ feed_refusal s n → r ≡ 0 → edit_refusal s e ≡ 0
  unfolding feed_refusal
  entry_accepted e r ee q z = ap (edit_refusal s) ee ∙ else_none (edit_refusal s (forth n)) _ (sym q ∙ z)

  pub fed_new : (e : Edit) (r : ℕ) (u : Sheet) → e ≡ forth n → r ≡ feed_refusal s n → r ≡ 0 → u ≡ applied s e → (r, u) ≡ fed_entry s n
  unfolding fed_entry apply_by
  fed_new e r u ee q z eu =
      let is : u ≡ edit s (forth n) = eu ∙ sym (leaves_applied s e (entry_accepted e r ee q z)) ∙ ap (edit s) ee in
      let f : feed_refusal s n ≡ 0 = sym q ∙ z in
      rw f (λ i. (z i, is i))

  pub fed_old : (r : ℕ) → r ≡ feed_refusal s n → (r ≡ 0 → ⊥) → (r, s) ≡ fed_entry s n
  unfolding fed_entry
  fed_old r q f = kept_by r (edit s (forth n)) s f ∙ ap (λ (k : ℕ). apply_by k (edit s (forth n)) s) q

-- ---- entries in turn
stopped : (z : ℕ) (u : Sheet) (f : Sheet → ℕ × Sheet) → (z ≡ 0 → ⊥) → (z, u) ≡ go_on_with z u f
unfolding go_on_with
stopped zero u f h = absurd (h refl)
stopped (suc z) u f h = refl

module _ (b : List ℕ) (count k : ℕ) where
  abbrev left : Sheet → ℕ × Sheet
  left s = apply_all (entries_from (count - k) (drop (4 + 22 * k) b)) s

  abbrev later : Sheet → ℕ × Sheet
  later s = apply_all (entries_from (count - (k + 1)) (drop (4 + 22 * (k + 1)) b)) s

  next : (s : Sheet) → k < count → left s ≡ go_on_with (fed_entry s (entry_from (drop (4 + 22 * k) b))).0 (fed_entry s (entry_from (drop (4 + 22 * k) b))).1 later
  unfolding apply_all entries_from
  next s h =
      let e : count - k ≡ suc (count - (k + 1)) = omega arith in
      let p : 4 + 22 * k + 22 ≡ 4 + 22 * (k + 1) = omega arith in
      let n = entry_from (drop (4 + 22 * k) b) in
      ap (λ (m : ℕ). apply_all (entries_from m (drop (4 + 22 * k) b)) s) e
      ∙ ap (λ (l : List ℕ). go_on_with (fed_entry s n).0 (fed_entry s n).1 (λ t. apply_all (entries_from (count - (k + 1)) l) t)) (drop-drop 22 (4 + 22 * k) b ∙ ap (λ (i : ℕ). drop i b) p)

  refused_there : (s u : Sheet) (n : Entry) (z : ℕ) → k < count → n ≡ entry_from (drop (4 + 22 * k) b) → (z, u) ≡ fed_entry s n → (z ≡ 0 → ⊥) → (z, u) ≡ left s
  refused_there s u n z h en q f = stopped z u later f ∙ ap (λ (y : ℕ × Sheet). go_on_with y.0 y.1 later) (q ∙ ap (fed_entry s) en) ∙ sym (next s h)

  goes_on : (s u : Sheet) (n : Entry) (z : ℕ) → k < count → n ≡ entry_from (drop (4 + 22 * k) b) → (z, u) ≡ fed_entry s n → z ≡ 0 → later u ≡ left s
  unfolding go_on_with
  goes_on s u n z h en q y = ap (λ (x : ℕ). go_on_with x u later) (sym y) ∙ ap (λ (y : ℕ × Sheet). go_on_with y.0 y.1 later) (q ∙ ap (fed_entry s) en) ∙ sym (next s h)

  all_taken : (s : Sheet) → count ≤ k → (0, s) ≡ left s
  unfolding apply_all entries_from
  all_taken s h = let e : count - k ≡ 0 = omega arith in rw e

-- the lengths of the lent arrays, which no edit changes
abbrev pub lengths : Sheet → List ℕ
lengths s =
    let p = s.plan in
    let k = s.kept in
    length p.coefs ∷ length p.costs ∷ length p.lowers ∷ length p.uppers ∷ length p.lower_marks ∷ length p.upper_marks ∷ length p.rhs
    ∷ length p.amounts ∷ length p.mults ∷ length k.R ∷ length k.D ∷ length k.C ∷ length k.B ∷ length k.counts ∷ []

-- the invariant over the entries: what is still to be taken, from the sheet t, gives the whole
pub record Going (b : List ℕ) (count : ℕ) (s t : Sheet) (k : ℕ) : Type 0 where
  pub inside : k ≤ count
  pub rest : left b count k t ≡ apply_all (entries_from count (drop 4 b)) s
  pub same : lengths t ≡ lengths s

pub going_start : (b : List ℕ) (count : ℕ) (s : Sheet) → Going b count s s 0
going_start b count s = record { inside = omega arith; rest = rw sub-zero; same = refl }

module _ {b : List ℕ} {count : ℕ} {s t : Sheet} {k : ℕ} (g : Going b count s t k) where
  module _ (u : Sheet) (n : Entry) (z : ℕ) (h : k < count) (en : n ≡ entry_from (drop (4 + 22 * k) b)) (q : (z, u) ≡ fed_entry t n) where
    pub going_on : z ≡ 0 → lengths u ≡ lengths t → Going b count s u (k + 1)
    going_on y e = record { inside = omega arith; rest = goes_on b count k t u n z h en q y ∙ g.rest; same = e ∙ g.same }

    pub going_refused : (z ≡ 0 → ⊥) → (z, u) ≡ apply_all (entries_from count (drop 4 b)) s
    going_refused f = refused_there b count k t u n z h en q f ∙ g.rest

  pub going_done : count ≤ k → (0, t) ≡ apply_all (entries_from count (drop 4 b)) s
  going_done h = all_taken b count k t h ∙ g.rest

-- ---- a whole block
module _ (s : Sheet) (w c : List ℕ) where
  abbrev b : List ℕ
  b = take 512 w

  block_by : (says : ℕ) (end : Bool) (r : ℕ) (u : Sheet) (d : List ℕ) → (r, u) ≡ apply_all (entries_from (takes says end (b # 3)) (drop 4 b)) s → d ≡ settled says end (b # 3) r c
      → Leaves c (after_block says end (feed_from s w c) b) u w d
  unfolding after_block takes settled apply_all entries_from
  block_by (suc k) end r u d q e = record { sheet_is = ap (λ (y : ℕ × Sheet). y.1) q; memory_is = refl; cells_are = e }
  block_by zero true r u d q e = record { sheet_is = ap (λ (y : ℕ × Sheet). y.1) q; memory_is = refl; cells_are = e }
  block_by zero false r u d q e = record {
    sheet_is = ap (λ (y : ℕ × Sheet). y.1) q;
    memory_is = refl;
    cells_are = e ∙ ap (λ (x : ℕ). over (suc (c # 0) ∷ 0 ∷ x ∷ unless_so 1 (leb per_block (b # 3)) ∷ []) c) (ap (λ (y : ℕ × Sheet). y.0) q);
  }

  pub block_leaves : (says n r : ℕ) (u : Sheet) (d : List ℕ) → says ≡ says_by (leb 2 (c # 3)) (c # 3) (c # 0) b → n ≡ takes says (eqb (b # 0) 255) (b # 3)
      → (r, u) ≡ apply_all (entries_from n (drop 4 b)) s → d ≡ settled says (eqb (b # 0) 255) (b # 3) r c → Leaves c (take_block (feed_from s w c)) u w d
  unfolding take_block
  block_leaves says n r u d es en q e =
      rw (sym es) (block_by says (eqb (b # 0) 255) r u d (q ∙ ap (λ (m : ℕ). apply_all (entries_from m (drop 4 b)) s) en) e)
