-- What the tests of the code say of the definitions. Assumes nothing.
use mathlib.Core.Path.{◌≡◌, refl, sym, ap, ◌∙◌, subst}
use mathlib.Core.Bool.{Bool, true, false}
use mathlib.Core.List.{List, [], ◌∷◌, ◌++◌}
use Prim.Native.Nat.{ℕ, zero, suc, ◌+◌, ◌<◌, ◌≤◌}
use native.Mathlib.Numerals.{add-one}
use native.Mathlib.Omega.{arith}
use lib.ListN.{length, get_or, set, drop, length-append, length-drop}
use lib.Seq.{drop-cons, set_at, append_snoc}
use lib.Ieee.{Float, le}
use Rattle.doubles.specs.Num.{f0}
use borrow.Author.Tests.{lt-ltb, le-ltb, eq-eqb, ne_eqb}
use Rattle.doubles.specs.Loop.{run}
use Rattle.doubles.specs.Lists.{◌#◌, over}
use Rattle.doubles.proofs.Loops.{next, Seek, hit, missed}
use Rattle.rules.specs.Plan.{Plan, row_cols, kept_turn}
use Rattle.rules.specs.Refusals.{bad_at, first_bad_in, has_bad, first_bad_row, zero_holds}
use Rattle.plan.specs.declared.Bad.{Bad}
use Rattle.plan.specs.declared.Bad.TheVariants.{Entry, Nothing}
use Rattle.plan.specs.Lent.{Front}
use Rattle.plan.specs.Refused.{bad_entry}

-- ---- 3
module _ (p : Plan) (i k : ℕ) (s : Seek (bad_at p.columns (row_cols p i)) (length (row_cols p i)) (first_bad_in p i) k) where
  -- a row with a bad place is bad, and one that was looked through isn't
  pub bad_here : k < length (row_cols p i) → bad_at p.columns (row_cols p i) k ≡ true → has_bad p i ≡ true
  bad_here h e = lt-ltb (first_bad_in p i) (length (row_cols p i)) (omega (arith, hit s h e))

  pub none_here : length (row_cols p i) ≤ k → has_bad p i ≡ false
  none_here h = le-ltb (first_bad_in p i) (length (row_cols p i)) (omega (arith, missed s h))

module _ (p : Plan) (i : ℕ) (r : Seek (has_bad p) p.rows (first_bad_row p) i) where
  abbrev bad_by : Bool → Bad
  bad_by b = elim b [ true ↦ Nothing | false ↦ Entry (first_bad_row p) (first_bad_in p (first_bad_row p)) ]

  pub bad_nothing : p.rows ≤ i → i ≤ p.rows → Nothing ≡ bad_entry p
  unfolding bad_entry
  bad_nothing h g =
      let q : first_bad_row p ≡ p.rows = omega (arith, missed r h) in
      sym (ap bad_by (eq-eqb _ _ q))

  pub bad_entry_holds : (k : ℕ) → i < p.rows → has_bad p i ≡ true → k ≡ first_bad_in p i → Entry i k ≡ bad_entry p
  unfolding bad_entry
  bad_entry_holds k h e f =
      let w = hit r h e in
      let q : ¬ (first_bad_row p ≡ p.rows) = λ x. omega (arith, w, x) in
      ap (Entry i) f ∙ ap (λ j. Entry j (first_bad_in p j)) w ∙ sym (ap bad_by (ne_eqb _ _ q))

-- ---- 5
pub zero_holds_else : (op : ℕ) (b : Float) → (op ≡ 0 → ⊥) → (op ≡ 1 → ⊥) → le b f0 ≡ zero_holds op b
unfolding zero_holds
zero_holds_else zero b h g = absurd (h refl)
zero_holds_else (suc zero) b h g = absurd (g refl)
zero_holds_else (suc (suc k)) b h g = refl

-- ---- the kept rows
module _ {A : Type 0} where
  -- one more written behind the front
  over_snoc : (xs l : List A) (x : A) → length xs < length l → set (over xs l) (length xs) x ≡ over (xs ++ (x ∷ [])) l
  over_snoc xs l x h =
      ap (λ (t : List A). set (xs ++ t) (length xs) x) (drop-cons l (length xs) x h)
      ∙ set_at xs (get_or l (length xs) x) (drop (suc (length xs)) l) x (length xs) refl
      ∙ sym (ap (λ (k : ℕ). (xs ++ (x ∷ [])) ++ drop k l) (length-append xs (x ∷ []) ∙ add-one (length xs)) ∙ append_snoc xs x (drop (suc (length xs)) l))

  over_long : (xs l : List A) → length xs ≤ length l → length (over xs l) ≡ length l
  over_long xs l h = omega (arith, length-append xs (drop (length xs) l), length-drop (length xs) l)

module _ {xs l : List ℕ} {k : ℕ} {l' : List ℕ} (f : Front xs l k l') where
  pub front_long : k ≤ length l → length l' ≡ length l
  front_long h = ap length f.cells ∙ over_long xs l (omega (arith, f.counted))

  pub front_more : (x : ℕ) → k < length l → Front (xs ++ (x ∷ [])) l (k + 1) (set l' k x)
  front_more x h =
      record {
        counted = omega (arith, f.counted, length-append xs (x ∷ []));
        cells = ap (λ (t : List ℕ). set t k x) f.cells ∙ ap (λ (j : ℕ). set (over xs l) j x) f.counted ∙ over_snoc xs l x (omega (arith, f.counted));
      }

module _ (p : Plan) (i : ℕ) {l : List ℕ} {m : ℕ} {l' : List ℕ} (f : Front (run (kept_turn p) i []) l m l') where
  pub drops_row : p.starts # i ≡ p.starts # (i + 1) → Front (run (kept_turn p) (i + 1) []) l m l'
  drops_row e =
      let q : run (kept_turn p) i [] ≡ run (kept_turn p) (i + 1) [] = next _ _ i refl (sym (ap (λ b. elim b [ true ↦ run (kept_turn p) i [] | false ↦ run (kept_turn p) i [] ++ (i ∷ []) ]) (eq-eqb _ _ e))) in
      subst (λ (x : List ℕ). Front x l m l') q f

  pub keeps_row : ¬ (p.starts # i ≡ p.starts # (i + 1)) → m < length l → Front (run (kept_turn p) (i + 1) []) l (m + 1) (set l' m i)
  keeps_row e h =
      let q : run (kept_turn p) i [] ++ (i ∷ []) ≡ run (kept_turn p) (i + 1) [] = next _ _ i refl (sym (ap (λ b. elim b [ true ↦ run (kept_turn p) i [] | false ↦ run (kept_turn p) i [] ++ (i ∷ []) ]) (ne_eqb _ _ e))) in
      subst (λ (x : List ℕ). Front x l (m + 1) (set l' m i)) q (front_more f i h)
