-- The tests as the code puts them together. Assumes nothing.
use mathlib.Core.Path.{◌≡◌, sym, ap, ◌∙◌}
use mathlib.Core.Logic.{⊎_elim}
use mathlib.Core.Bool.{Bool, true, false, ◌&&◌}
use mathlib.Core.List.{List, []}
use Prim.Native.Nat.{ℕ, ◌+◌, ◌<◌, ◌≤◌}
use native.Mathlib.Omega.{arith}
use lib.Dec.{ltb, eqb}
use lib.ListN.{length, drop, get_or-append, length-append}
use borrow.Author.Tests.{eqb-true, eq-eqb, ne_eqb}
use Rattle.doubles.specs.Loop.{run, all}
use Rattle.doubles.specs.Lists.{◌#◌}
use Rattle.doubles.proofs.Loops.{keeps, all_same, both_true}
use Rattle.rules.specs.Plan.{Plan, Memory, Workspace, kept_rows, kept_turn, is_empty}
use Rattle.rules.proofs.Lists.{length_snoc}
use Rattle.doubles.proofs.Bools.{truth}
use Rattle.plan.specs.Lent.{Front}
use Rattle.state_maps.specs.Maps.{rows_fine, leads_back, cells_fine, maps_fine}

-- ---- of the first i rows no more than i are kept
pub few_before : (p : Plan) (i : ℕ) → length (run (kept_turn p) i []) ≤ i
few_before p i = keeps (kept_turn p) [] (λ k ks. length ks ≤ k) i turn (omega arith) i (omega arith)
  where
    turn : (k : ℕ) (ks : List ℕ) → k < i → length ks ≤ k → length (kept_turn p k ks) ≤ k + 1
    turn k ks l h =
        ⊎_elim
        (λ (e : is_empty p k ≡ true). rw (e, kept_turn) (omega arith))
        (λ (e : is_empty p k ≡ false). rw (e, kept_turn) (omega (arith, length_snoc ks k)))
        (truth (is_empty p k))

pub kept_few : (p : Plan) → length (kept_rows p) ≤ p.rows
unfolding kept_rows
kept_few p = few_before p p.rows

-- ---- rows, against those that were found anew
module _ {ks l : List ℕ} {k : ℕ} {mine : List ℕ} (f : Front ks l k mine) (count : ℕ) (kept : List ℕ) where
  pub other_count : ¬ (count ≡ k) → false ≡ rows_fine ks count kept
  unfolding rows_fine
  other_count h = rw (ne_eqb count (length ks) (λ e. h (e ∙ sym f.counted)))

  pub rows_are : count ≡ k → all k (λ r. eqb (kept # r) (mine # r)) ≡ rows_fine ks count kept
  unfolding rows_fine
  rows_are h =
      rw (eq-eqb count (length ks) (h ∙ f.counted), f.counted, f.cells)
      (all_same _ _ (length ks) (λ r q. ap (λ (x : ℕ). eqb (kept # r) x) (get_or-append ks (drop (length ks) l) 0 r q)))

  pub found_long : k ≤ length mine
  found_long = omega (arith, f.counted, ap length f.cells, length-append ks (drop (length ks) l))

pub rows_count : (ks : List ℕ) (count : ℕ) (kept : List ℕ) → rows_fine ks count kept ≡ true → count ≡ length ks
unfolding rows_fine
rows_count ks count kept h = eqb-true count (length ks) (both_true _ _ h).0

-- ---- cells

-- those at n places, of which the first is 0
pub from_zero : (vars : ℕ) (states : List ℕ) (n : ℕ) (at : List ℕ)
    → all n (λ k. leads_back vars states (0 + k) (at # k)) ≡ all n (λ k. leads_back vars states k (at # k))
from_zero vars states n at =
    all_same _ _ n (λ k l. ap (λ (x : ℕ). leads_back vars states x (at # k)) (from k))
  where
    from : (k : ℕ) → 0 + k ≡ k
    from k = omega arith

pub cells_are : (n m : ℕ) (w : Workspace) {a b c : Bool}
    → a ≡ all n (λ k. leads_back (n + m) w.var_states (0 + k) (w.nb_vars # k))
    → b ≡ all m (λ k. leads_back (n + m) w.var_states (n + k) (w.basic_vars # k))
    → c ≡ all (n + m) (λ k. ltb (w.var_states # k) (n + m)) → a && b && c ≡ cells_fine n m w
unfolding cells_fine
cells_are n m w e f g = rw (e ∙ from_zero (n + m) w.var_states n w.nb_vars, f, g)

-- ---- the whole
pub other_rows : (p : Plan) (m : Memory) {b : Bool} → b ≡ rows_fine (kept_rows p) (m.counts # 0) m.kept → b ≡ false
    → false ≡ maps_fine p m
unfolding maps_fine
other_rows p m e h = rw (← e, h)

pub same_rows : (p : Plan) (m : Memory) {b : Bool} → b ≡ rows_fine (kept_rows p) (m.counts # 0) m.kept → b ≡ true
    → cells_fine p.columns (m.counts # 0) m.ws ≡ maps_fine p m
unfolding maps_fine
same_rows p m e h =
    let q : m.counts # 0 ≡ length (kept_rows p) = rows_count (kept_rows p) (m.counts # 0) m.kept (sym e ∙ h) in rw
    (← e, h, q)
