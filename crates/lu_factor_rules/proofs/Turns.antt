-- A turn of factoring put together from its parts. Assumes nothing.
use mathlib.Core.Path.{◌≡◌, refl, sym, ap, ◌∙◌}
use mathlib.Core.List.{List}
use Prim.Native.Nat.{ℕ, zero, suc, ◌+◌, ◌-◌, ◌<◌, ◌≤◌}
use native.Mathlib.Omega.{arith}
use lib.Ieee.{Float}
use lib.Seq.{get_or-set_other}
use Rattle.doubles.specs.Loop.{run, Next, done as Next·done, more}
use Rattle.doubles.specs.Lists.{◌#◌}
use Rattle.doubles.proofs.Loops.{Until, stepped, spent}
use Rattle.sparse.specs.Scattered.{Sv}
use Rattle.lu_factor_rules.specs.declared.Factored.{Factored}
use Rattle.lu_factor_rules.specs.declared.Factored.TheVariants.{Added, NotFinite, Singular}
use Rattle.lu_factor_rules.specs.declared.Counts.{Counts}
use Rattle.lu_factor_rules.specs.declared.Pivot.{Pivot}
use Rattle.lu_factor_rules.specs.declared.Ended.{Ended}
use Rattle.lu_factor_rules.specs.declared.Ended.TheVariants.{Done, NotFinite as Wild, Singular as Flat}
use Rattle.lu_factor_rules.specs.Factor.{Partial, nothing, parts, Outcome, factored, non_finite, singular}
use Rattle.lu_factor_rules.specs.Factor.{Found, column, next_of, factor_turn, factor_part, renumber_turn, renumbered}
use Rattle.lu_factor_rules.specs.Factor.{ended, factorize}
use Rattle.lu_factor_rules.specs.Counted.{parts_of, outcome_of, partial_of, counts_in, next_in, end_in, factor_at}

module _ (m : ℕ) (col : ℕ → Sv) (f : Partial) where
  abbrev answer_to : Sv → Outcome Found
  answer_to s = column m f.made f.number f.lower_starts (parts f.lower f.upper) s

  pub answered : (lr : List ℕ) (lv : List Float) (ur : List ℕ) (uv : List Float) {s : Sv} {r q : Factored}
      → s ≡ col f.made → outcome_of lr lv ur uv r ≡ answer_to s → r ≡ q
      → outcome_of lr lv ur uv q ≡ answer_to (col f.made)
  answered lr lv ur uv e h g = ap (outcome_of lr lv ur uv) (sym g) ∙ h ∙ ap answer_to e

  pub turned : {o : Outcome Found} → o ≡ answer_to (col f.made) → next_of f o ≡ factor_turn m col f
  unfolding factor_turn
  turned e = ap (next_of f) e

-- ---- the answer of a turn, by what it is
module _ (i : ℕ) (order number lstarts ustarts : List ℕ) (diag : List Float) (lr : List ℕ) (lv : List Float)
    (ur : List ℕ) (uv : List Float) (c : Counts) (r : Factored)
    {x : Next Partial (Outcome Partial)} (e : next_in r (partial_of i order number lstarts ustarts diag
    (parts_of lr lv ur uv (counts_in c r))) ≡ x) where
  abbrev state : Factored → Next Partial (Outcome Partial)
  state a = next_in a (partial_of i order number lstarts ustarts diag (parts_of lr lv ur uv (counts_in c a)))

  pub goes_on : {p : Pivot} → r ≡ Added p
      → x ≡ more (partial_of i order number lstarts ustarts diag (parts_of lr lv ur uv p.counts))
  goes_on q = sym (ap state (sym q) ∙ e)

  pub ends_wild : r ≡ NotFinite → x ≡ Next·done non_finite
  ends_wild q = sym (ap state (sym q) ∙ e)

  pub ends_flat : r ≡ Singular → x ≡ Next·done singular
  ends_flat q = sym (ap state (sym q) ∙ e)

pub ends_all : {m i : ℕ} (turn : Partial → Next Partial (Outcome Partial)) {w : Outcome Partial} (f : ℕ → Partial)
    → Until turn factored w (m - i) (f i) → i ≤ m → m ≤ i → factored (f m) ≡ w
ends_all {m} {i} turn f u a b = let q : m ≡ i = omega arith in ap (λ (j : ℕ). factored (f j)) q ∙ spent u (omega arith)

pub begins_with : (m : ℕ) (col : ℕ → Sv) {f : Partial} → f ≡ nothing
    → Until (factor_turn m col) factored (factor_part m col) (m - 0) f
unfolding factor_part
begins_with m col e = let z : m - 0 ≡ m = omega arith in record { until_rest = rw (e, z) refl }

pub goes : {m i : ℕ} (col : ℕ → Sv) {w : Outcome Partial} {f g : Partial}
    → Until (factor_turn m col) factored w (m - i) f → i < m → factor_turn m col f ≡ more g
    → Until (factor_turn m col) factored w (m - (i + 1)) g
goes {m} {i} col u h e = let z : m - i - 1 ≡ m - (i + 1) = omega arith in rw z at (stepped u (omega arith) e)

-- ---- L's rows get their numbers: a cell that is not reached yet is as it was
pub renumber_ahead : (number : List ℕ) (l : List ℕ) (k j : ℕ) → k ≤ j → run (renumber_turn number) k l # j ≡ l # j
unfolding run
renumber_ahead number l zero j h = refl
renumber_ahead number l (suc k) j h = get_or-set_other (run (renumber_turn number) k l) k j _ 0
    (λ (q : j ≡ k). omega arith) ∙ renumber_ahead number l k j (omega arith)

-- ---- the whole's answer, by what it is
module _ (m : ℕ) (col : ℕ → Sv) (order number lstarts ustarts : List ℕ) (diag : List Float) (lr : List ℕ)
    (lv : List Float) (ur : List ℕ) (uv : List Float) (r : Ended)
    (e : end_in r (λ c. partial_of m order number lstarts ustarts diag (parts_of lr lv ur uv c)) ≡ factor_part m col) where
  abbrev outcome : Ended → Outcome Partial
  outcome a = end_in a (λ c. partial_of m order number lstarts ustarts diag (parts_of lr lv ur uv c))

  pub whole_done : {c : Counts} → r ≡ Done c
      → factored (partial_of m order number lstarts ustarts diag (parts_of lr lv ur uv c)) ≡ factor_part m col
  whole_done q = ap outcome (sym q) ∙ e

  pub whole_wild : r ≡ Wild → non_finite ≡ factorize m col
  unfolding factorize
  whole_wild q = ap (ended m) (ap outcome (sym q) ∙ e)

  pub whole_flat : r ≡ Flat → singular ≡ factorize m col
  unfolding factorize
  whole_flat q = ap (ended m) (ap outcome (sym q) ∙ e)

  pub whole_factor : {c : Counts} {l : List ℕ} → r ≡ Done c → l ≡ renumbered number c.lower lr
      → factored (factor_at m order number lstarts ustarts diag l lv ur uv) ≡ factorize m col
  unfolding factorize
  whole_factor q h = ap (λ (x : List ℕ). factored (factor_at m order number lstarts ustarts diag x lv ur uv)) h ∙ ap
      (ended m) (whole_done q)
