-- The final check reads the values of the columns and slacks alone, so it may read them in an array that is longer. Assumes nothing.
use mathlib.Core.Path.{◌≡◌, refl, sym, ap, ◌∙◌}
use mathlib.Core.Bool.{true, false}
use mathlib.Core.List.{List}
use Prim.Native.Nat.{ℕ, ◌+◌, ◌<◌, ◌-◌}
use native.Mathlib.Omega.{arith}
use lib.ListN.{length, drop, get_or-append}
use lib.Seq.{ext_get_or}
use lib.Dec.{ltb}
use lib.Ieee.{Float, nan, lt}
use borrow.Author.Tests.{ltb-true, ltb-false}
use Rattle.doubles.specs.Num.{◌⊕◌, ◌⊖◌, ◌⊗◌, f0, +inf, finite}
use Rattle.doubles.specs.Loop.{table}
use Rattle.doubles.specs.Lists.{◌!◌, ◌#◌, over}
use Rattle.doubles.proofs.Bools.{by_test}
use Rattle.doubles.proofs.Loops.{run_same, length_tab, get_d_table}
use Rattle.sparse.specs.Scattered.{dot, dot_turn}
use Rattle.rules.specs.Plan.{Problem, Workspace, n_of, m_of, var_min, var_max, row_sum, row_cols, row_coeffs}
use Rattle.rules.specs.FinalCheck.{value_of, values_of, beyond, larger, places_of, worst_of, value_excess, row_excess, excess_at, worst_turn, worst, judged, final_check}
use Rattle.rules.specs.declared.Checked.{Checked}
use Rattle.check_final.specs.Lent.{sizes_of, RowsRead}
use Rattle.check_final.proofs.Parts.{valued_by, checked_by, values_part, final_part}

module _ (P : Problem) (xs ys : List Float) (h : RowsRead P) (same : (v : ℕ) → v < n_of P + m_of P → xs ! v ≡ ys ! v) where
  value_same : (v : ℕ) → v < n_of P + m_of P → value_excess P xs v ≡ value_excess P ys v
  unfolding value_excess
  value_same v l =
      ap (λ (x : Float). elim (finite x) [ true ↦ larger (beyond (var_min P v) (var_min P v ⊖ x)) (beyond (var_max P v) (x ⊖ var_max P v)) | false ↦ +inf ])
      (same v l)

  sum_same : (r : ℕ) → r < m_of P → row_sum P.plan (P.kept # r) xs ≡ row_sum P.plan (P.kept # r) ys
  unfolding dot
  sum_same r l =
      let at = row_cols P.plan (P.kept # r) in
      let cs = row_coeffs P.plan (P.kept # r) in
      run_same (dot_turn at cs xs) (dot_turn at cs ys) (length at)
      (λ k s g. ap (λ (x : Float). s ⊕ cs ! k ⊗ x) (same (at # k) (omega (arith, (h.row r l).entries.col k g)))) f0

  row_same : (r : ℕ) → r < m_of P → row_excess P xs r ≡ row_excess P ys r
  unfolding row_excess
  row_same r l = rw (sum_same r l, same (n_of P + r) (omega arith), row_excess) refl

  excess_same : (k : ℕ) → k < places_of P → excess_at P xs k ≡ excess_at P ys k
  unfolding excess_at
  excess_same k l =
      by_test (ltb k (n_of P + m_of P))
      (λ h. rw (h, excess_at) (value_same k (ltb-true _ _ h)))
      (λ h. rw (h, excess_at) (row_same (k - (n_of P + m_of P)) (omega (arith, ltb-false k (n_of P + m_of P) h))))

  worst_same : worst P xs ≡ worst P ys
  unfolding worst worst_turn
  worst_same =
      run_same (worst_turn P xs) (worst_turn P ys) (places_of P)
      (λ k w l. ap (λ (x : Float). elim (lt w.excess x) [ true ↦ worst_of k x | false ↦ w ]) (excess_same k l)) (worst_of (places_of P) f0)

  pub final_same : final_check P xs ≡ final_check P ys
  unfolding final_check
  final_same = ap (judged P) worst_same

-- ---- an array with the values over its front
module _ (P : Problem) (w : Workspace) (l : List Float) where
  long : length (values_of P w) ≡ n_of P + m_of P
  unfolding values_of
  long = length_tab (n_of P + m_of P) 0 (value_of (n_of P) w)

  at_front : (v : ℕ) → v < n_of P + m_of P → over (values_of P w) l ! v ≡ values_of P w ! v
  at_front v h = get_or-append (values_of P w) (drop (length (values_of P w)) l) nan v (omega (arith, long))

  -- it is checked as the values are
  pub final_over : RowsRead P → final_check P (over (values_of P w) l) ≡ final_check P (values_of P w)
  final_over h = final_same P (over (values_of P w) l) (values_of P w) h at_front

  -- and what is written of it is the values
  pub front_over : table (n_of P + m_of P) (λ v. over (values_of P w) l ! v) ≡ values_of P w
  front_over =
      let n = n_of P + m_of P in
      let front = table n (λ v. over (values_of P w) l ! v) in
      let same : length front ≡ n = length_tab n 0 (λ v. over (values_of P w) l ! v) in
      ext_get_or nan front (values_of P w) (same ∙ sym long)
      (λ v h. let below : v < n = omega arith in
      get_d_table n (λ u. over (values_of P w) l ! u) nan v below ∙ at_front v below)

-- ---- for a caller: what `values_into`, `final_check` and `write_values` say, taken together
module _ (P : Problem) (w : Workspace) (l : List Float) {xs : List Float} (e : xs ≡ over (values_of (sizes_of (n_of P) P.kept) (valued_by w)) l) where
  is_over : xs ≡ over (values_of P w) l
  is_over = e ∙ ap (λ (t : List Float). over t l) (sym (values_part P w))

  pub checked_values : {c : Checked} → RowsRead P → c ≡ final_check (checked_by P) xs → c ≡ final_check P (values_of P w)
  checked_values h f = f ∙ sym (final_part P xs) ∙ ap (final_check P) is_over ∙ final_over P w l h

  pub written_values : (k : List Float) {after : List Float} → after ≡ over (table (n_of P + m_of P) (λ v. xs ! v)) k → after ≡ over (values_of P w) k
  written_values k f =
      f ∙ ap (λ (t : List Float). over (table (n_of P + m_of P) (λ v. t ! v)) k) is_over ∙ ap (λ (t : List Float). over t k) (front_over P w l)
