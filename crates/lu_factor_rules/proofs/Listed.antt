-- Step 3 lists nothing: "value of r -= x * a" falls on rows that the walk has reached, and those are listed.
-- `solved_list`, at the end. Assumes nothing.
use mathlib.Core.Path.{◌≡◌, refl, ap, ◌∙◌}
use mathlib.Core.Bool.{Bool, true, false}
use mathlib.Core.Logic.{⊎_elim}
use mathlib.Core.List.{List}
use Prim.Native.Nat.{ℕ, ◌+◌, ◌-◌, ◌<◌, ◌≤◌}
use native.Mathlib.Nat.{le_refl}
use native.Mathlib.Omega.{arith}
use lib.ListN.{length, get_or}
use lib.Ieee.{Float}
use borrow.Author.Tests.{lt-ltb, ltb-true}
use Rattle.doubles.specs.Limits.{max_rows, places}
use Rattle.doubles.specs.Loop.{run}
use Rattle.doubles.specs.Lists.{◌#◌, part}
use Rattle.doubles.proofs.Bools.{last?}
use Rattle.doubles.proofs.Tests.{not_both, true_by}
use Rattle.doubles.proofs.Loops.{keeps, keeps_down}
use Rattle.sparse.specs.Scattered.{Pat, Sv, sv_of, touched, touched_by, put_at, take_turn, take_off, Wf}
use Rattle.sparse.proofs.Laws.{wf_touched, untouched}
use Rattle.lu_walk.specs.Walk.{State, Mapped, mapped, many_in}
use Rattle.lu_walk.proofs.Order.{mapped_order}
use Rattle.lu_solve.specs.Solve.{grow_turn, grown, Places}
use Rattle.lu_factor_rules.specs.Factor.{is_pivot, back_by, back_one, back_turn, reduced, solved, walked}
use Rattle.lu_factor_rules.specs.Ready.{Lower, Vector}
use Rattle.lu_factor_rules.proofs.Laws.{part_long, part_at, listed_rows, places_all}

-- ---- what the list grows by is marked
module _ (d : List ℕ) (n : ℕ) (p : Pat) (l : Places max_rows n d) (w : Wf places p) where
  record Marked (k : ℕ) (q : Pat) : Type 0 where
    wf : Wf places q
    on : (j : ℕ) → j < k → get_or q.marks (d # j) false ≡ true

  marked : (k : ℕ) → k ≤ n → Marked k (run (grow_turn d) k p)
  marked k h =
      keeps (grow_turn d) p Marked n
      (λ j q g u.
      let long : d # j < length q.marks = omega (arith, u.wf.marks_long, l.places j g) in
      record {
        wf = wf_touched q u.wf (d # j) (omega (arith, l.places j g));
        on = λ i f. ⊎_elim
            (λ (a : i < j). true_by (λ o. not_both (u.on i a) (untouched q (d # j) (d # i) long o).1))
            (λ (a : i ≡ j). rw a (true_by (λ o. (untouched q (d # j) (d # j) long o).0 refl)))
            (last? i j f);
      })
      (record { wf = w; on = λ j f. absurd (omega arith) }) k h

  grown_marks : (j : ℕ) → j < n → get_or (grown d n p).marks (d # j) false ≡ true
  unfolding grown
  grown_marks j h = (marked n (le_refl n)).on j h

-- ---- a column whose rows are marked lists nothing
took_none : (x : Float) (rows : List ℕ) (coeffs : List Float) (s : Sv)
    → ((k : ℕ) → k < length rows → get_or s.pat.marks (rows # k) false ≡ true) → (take_off x rows coeffs s).pat ≡ s.pat
unfolding take_off put_at touched
took_none x rows coeffs s h =
    keeps (take_turn x rows coeffs) s (λ _ t. t.pat ≡ s.pat) (length rows)
    (λ k t g e. ap (λ (q : Pat). touched_by (get_or q.marks (rows # k) false) q (rows # k)) e ∙ rw (h k g) refl) refl
    (length rows) (le_refl (length rows))

module _ {m : ℕ} {number : List ℕ} {i : ℕ} {starts rows : List ℕ} {vals : List Float}
    (l : Lower m number i starts rows vals) {s : Sv} (g : Vector m s) where
  abbrev drawn : Mapped
  drawn = mapped true m number i starts rows

  abbrev w : State
  w = walked m number i starts rows s

  abbrev list : Pat
  list = grown w.done w.count s.pat

  -- the rows of a finished row's column are finished before it
  kid_on : (k : ℕ) → k < w.count → number # (w.done # k) < i → (j : ℕ)
      → j < length (part (starts # (number # (w.done # k))) (starts # (number # (w.done # k) + 1)) rows)
      → get_or list.marks (part (starts # (number # (w.done # k))) (starts # (number # (w.done # k) + 1)) rows # j)
      false ≡ true
  unfolding many_in
  kid_on k h p j f =
      let own = number # (w.done # k) in
      let b : j < starts # (own + 1) - starts # own = omega (
        arith,
        part_long (starts # own) (starts # (own + 1)) rows
            (l.columns.ends own p),
      ) in
      let o = mapped_order drawn l.columns s.pat.list s.pat.count (listed_rows l g) in
      let c = o.children_first k j h (rw (lt-ltb own i p) b) in
      rw (part_at (starts # own) (starts # (own + 1)) rows j 0 b, ← c.2)
      (grown_marks w.done w.count s.pat (places_all l g refl) g.good.wf c.0 (omega (arith, c.1)))

  back_none : (k : ℕ) (t : Sv) → k < w.count → t.pat ≡ list
      → (back_turn number i starts rows vals w.done k t).pat ≡ list
  unfolding back_one
  back_none k t h e = by (is_pivot number i (w.done # k)) refl
    where
      by : (b : Bool) → is_pivot number i (w.done # k) ≡ b
          → (back_by b (w.done # k) (number # (w.done # k)) starts rows vals t).pat ≡ list
      by true q = took_none _ _ _ t (λ j f. rw e (kid_on k h (ltb-true (number # (w.done # k)) i q) j f)) ∙ e
      by false q = e

  pub solved_list : (solved m number i starts rows vals s).pat ≡ list
  unfolding solved reduced
  solved_list = keeps_down (back_turn number i starts rows vals w.done) (λ t. t.pat ≡ list) w.count
      (λ k t h e. back_none k t h e) (sv_of s.vals list) refl
