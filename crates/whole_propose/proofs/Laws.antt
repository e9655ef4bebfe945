-- Each answer from the tests on its way, and what has passed. Assumes nothing.
use mathlib.Core.Path.{◌≡◌, refl, sym, ap, ◌∙◌}
use mathlib.Core.Logic.{⊎_elim}
use mathlib.Core.Bool.{true, false}
use mathlib.Core.List.{List, []}
use Prim.Native.Nat.{ℕ, ◌+◌, ◌<◌, ◌≤◌}
use native.Mathlib.Omega.{arith}
use lib.IntN.{ℤ}
use lib.Ieee.{Float}
use borrow.Author.Tests.{leb-true, ltb-true, le-leb, lt-ltb, le-ltb, eq-eqb, ne_eqb}
use Rattle.doubles.specs.Limits.{count_cells}
use Rattle.doubles.specs.Lists.{◌!◌, ◌#◌, over}
use Rattle.doubles.proofs.Bools.{truth}
use Rattle.doubles.proofs.Tests.{not_both}
use Rattle.doubles.proofs.Loops.{both_true}
use Rattle.rules.specs.Plan.{Plan, Memory, kept_rows}
use Rattle.state.specs.Packed.{counts_at}
use Rattle.state.specs.Memory.{memory_in}
use Rattle.state.proofs.Sections.{section_at}
use Rattle.whole_round.specs.Whole.{amount_of}
use Rattle.whole_round.specs.declared.Rounded.{Rounded}
use Rattle.state_maps.specs.Maps.{rows_fine, cells_fine, maps_fine}
use Rattle.whole_multipliers.specs.Rows.{slack_price, multiplier_at, first_multiplier, multipliers, rows_of}
use Rattle.whole_propose.specs.declared.Proposal.{Proposal}
use Rattle.whole_propose.specs.declared.Proposal.TheVariants.{Proposed, Nothing, Refused, AmountNotWhole}
use Rattle.whole_propose.specs.declared.Proposal.TheVariants.{MultiplierNotWhole}
use Rattle.whole_propose.specs.Words.{Enough}
use Rattle.whole_propose.specs.Propose.{Lent, memory, lent_fine, first_amount, amounts_of, first_not_whole, status_of}
use Rattle.whole_propose.specs.Propose.{proposal, is_proposed, handed, proposed}

-- ---- the values are no part of rows, maps and prices
module _ (p : Plan) (v : List Float) (N : List ℕ) (D : List Float) where
  pub same_multiplier : (i : ℕ) → multiplier_at p (memory_in v N D [] []) i ≡ multiplier_at p (memory_in [] N D [] []) i
  unfolding multiplier_at slack_price
  same_multiplier i = refl

  pub same_first : first_multiplier p (memory_in v N D [] []) ≡ first_multiplier p (memory_in [] N D [] [])
  unfolding first_multiplier multiplier_at slack_price
  same_first = refl

  pub same_all : multipliers p (memory_in v N D [] []) ≡ multipliers p (memory_in [] N D [] [])
  unfolding multipliers multiplier_at slack_price
  same_all = refl

-- nor are the comparisons of rows and maps
pub same_maps : (n m : ℕ) (S O : List ℕ) (v : List Float) (N : List ℕ) (D : List Float)
    → maps_fine (rows_of n m S O) (memory_in v N D [] []) ≡ maps_fine (rows_of n m S []) (memory_in [] N [] [] [])
unfolding maps_fine rows_fine cells_fine kept_rows
same_maps n m S O v N D = refl

-- ---- the first number that isn't whole
module _ (p : Plan) (m : Memory) {j : ℕ} (e : j ≡ first_amount p.columns m.values) where
  pub amount_is : {r : Rounded} → j < p.columns → r ≡ amount_of (m.values ! j) → AmountNotWhole j r ≡ first_not_whole p m
  unfolding first_not_whole
  amount_is l q = rw (q, e) (rw (lt-ltb _ p.columns (rw e at l), first_not_whole))

  module _ (g : p.columns ≤ j) {i : ℕ} (f : i ≡ first_multiplier p m) where
    pub multiplier_is : {r : Rounded} → i < p.rows → r ≡ multiplier_at p m i
        → MultiplierNotWhole i r ≡ first_not_whole p m
    unfolding first_not_whole
    multiplier_is l q =
        rw (q, f) (rw (le-ltb _ p.columns (rw e at g), first_not_whole) (rw (lt-ltb _ p.rows (rw f at l))))

    pub all_whole : p.rows ≤ i → Proposed ≡ first_not_whole p m
    unfolding first_not_whole
    all_whole l = rw (le-ltb _ p.columns (rw e at g), first_not_whole) (rw (le-ltb _ p.rows (rw f at l)))

-- ---- what has passed 1
pub enough : (l : Lent) → lent_fine l ≡ true → Enough l
unfolding lent_fine
enough l h =
    let a = both_true _ _ h in
    let b = both_true _ _ a.0 in
    let c = both_true _ _ b.0 in
    let d = both_true _ _ c.0 in
    let e = both_true _ _ d.0 in
    let f = both_true _ _ e.0 in
    let g = both_true _ _ f.0 in
    let k = both_true _ _ g.0 in
    record {
      long = record {
        columns_fit = leb-true _ _ k.0;
        rows_fit = leb-true _ _ k.1;
        starts_long = ltb-true _ _ g.1;
        ops_long = leb-true _ _ f.1;
        numbers_long = leb-true _ _ d.1;
        doubles_long = leb-true _ _ c.1;
      };
      values_long = leb-true _ _ e.1;
      amounts_long = leb-true _ _ b.1;
      mults_long = leb-true _ _ a.1;
    }

pub fine_enough : (l : Lent) → Enough l → lent_fine l ≡ true
unfolding lent_fine
fine_enough l e =
    rw (
      le-leb _ _ e.long.columns_fit,
      le-leb _ _ e.long.rows_fit,
      lt-ltb _ _ e.long.starts_long,
      le-leb _ _ e.long.ops_long,
      le-leb _ _ e.values_long,
      le-leb _ _ e.long.numbers_long,
      le-leb _ _ e.long.doubles_long,
      le-leb _ _ e.amounts_long,
      le-leb _ _ e.mults_long,
    )

-- ---- the answer
module _ (l : Lent) where
  pub short : lent_fine l ≡ false → Refused 1 ≡ proposal l
  unfolding proposal
  short h = rw (h, proposal)

  pub status_read : status_of (memory l) ≡ l.numbers # (counts_at + 4)
  status_read = section_at counts_at count_cells l.numbers 4 0 (omega arith)

  module _ (h : lent_fine l ≡ true) where
    pub no_run : ¬ (l.numbers # (counts_at + 4) ≡ 0) → Nothing ≡ proposal l
    unfolding proposal
    no_run g = rw (h, proposal) (rw (ne_eqb _ 0 (λ e. g (sym status_read ∙ e))))

    module _ (g : l.numbers # (counts_at + 4) ≡ 0) where
      pub broken : maps_fine l.plan (memory l) ≡ false → Refused 41 ≡ proposal l
      unfolding proposal
      broken k = rw (h, proposal) (rw (eq-eqb _ 0 (status_read ∙ g)) (rw k))

      pub judged : maps_fine l.plan (memory l) ≡ true → first_not_whole l.plan (memory l) ≡ proposal l
      unfolding proposal
      judged k = rw (h, proposal) (rw (eq-eqb _ 0 (status_read ∙ g)) (rw k))

  -- only what has passed 1 is proposed
  pub proposed_fine : is_proposed (proposal l) ≡ true → lent_fine l ≡ true
  unfolding is_proposed
  proposed_fine h =
      ⊎_elim (λ t. t) (λ f. absurd (not_both h (ap is_proposed (sym (short f))))) (truth (lent_fine l))

  -- ---- what is left
  pub writes : {a : Proposal} {x y : List ℤ} → a ≡ proposal l → is_proposed a ≡ true
      → x ≡ over (amounts_of l.plan.columns l.values) l.amounts → y ≡ over (multipliers l.plan (memory l)) l.mults
      → handed a x y ≡ proposed l
  unfolding proposed
  writes e h q r = rw (← e, h, q, r, proposed)

  pub stays : {a : Proposal} → a ≡ proposal l → is_proposed a ≡ false → handed a l.amounts l.mults ≡ proposed l
  unfolding proposed
  stays e h = rw (← e, h, proposed)
