-- Each answer is given exactly when its words hold: what is given holds (`-says`), and nothing else can be said
-- (`-only`). Assumes nothing.
use mathlib.Core.Path.{◌≡◌, refl, sym, ◌∙◌, subst}
use mathlib.Core.Logic.{◌↔◌, ⊎_elim}
use mathlib.Core.Bool.{Bool, true}
use Prim.Native.Nat.{ℕ, ◌<◌, ◌≤◌}
use native.Mathlib.Omega.{arith}
use lib.Dec.{ltb, eqb}
use borrow.Author.Tests.{ltb-true, ltb-false, eqb-true, eqb-false}
use Rattle.doubles.specs.Lists.{◌!◌}
use Rattle.doubles.proofs.Bools.{truth, itself, lack_has, lack_only, lack_none}
use Rattle.doubles.proofs.Loops.{first_means}
use Rattle.doubles.proofs.Tests.{not_both}
use Rattle.whole_round.specs.Whole.{amount_of, is_whole}
use Rattle.state_maps.specs.Maps.{maps_fine}
use Rattle.state_maps.proofs.Exact.{fine_exactly, broken_exactly}
use Rattle.whole_multipliers.specs.Rows.{multiplier_at, first_multiplier}
use Rattle.whole_propose.specs.declared.Proposal.{Proposal}
use Rattle.whole_propose.specs.Propose.{Lent, memory, lent_fine, first_amount, first_not_whole, status_of, proposal}
use Rattle.whole_propose.specs.Words.{Readable, WholeAmount, WholeMultiplier, FirstWithout, Each, Says}
use Rattle.whole_propose.proofs.Laws.{amount_is, multiplier_is, all_whole, enough, fine_enough, short, status_read}
use Rattle.whole_propose.proofs.Laws.{no_run, broken, judged}

module _ (l : Lent) where
  abbrev n : ℕ
  n = l.plan.columns

  abbrev m : ℕ
  m = l.plan.rows

  abbrev amount_ok : ℕ → Bool
  amount_ok j = is_whole (amount_of (l.values ! j))

  abbrev multiplier_ok : ℕ → Bool
  multiplier_ok i = is_whole (multiplier_at l.plan (memory l) i)

  -- ---- the two searches
  amounts_all : (first_amount n l.values ≡ n) ↔ Each l n (WholeAmount l)
  unfolding first_amount
  amounts_all = lack_none {p = amount_ok} n (λ k. itself)

  amount_first : first_amount n l.values < n → FirstWithout l n (WholeAmount l) (first_amount n l.values)
  unfolding first_amount
  amount_first h = lack_has {p = amount_ok} n (λ k. itself) h

  amount_only : (j : ℕ) → FirstWithout l n (WholeAmount l) j → first_amount n l.values ≡ j
  unfolding first_amount
  amount_only j f = lack_only {p = amount_ok} n (λ k. itself) j f

  mults_all : (first_multiplier l.plan (memory l) ≡ m) ↔ Each l m (WholeMultiplier l)
  unfolding first_multiplier
  mults_all = lack_none {p = multiplier_ok} m (λ k. itself)

  mult_first : first_multiplier l.plan (memory l) < m
      → FirstWithout l m (WholeMultiplier l) (first_multiplier l.plan (memory l))
  unfolding first_multiplier
  mult_first h = lack_has {p = multiplier_ok} m (λ k. itself) h

  mult_only : (i : ℕ) → FirstWithout l m (WholeMultiplier l) i → first_multiplier l.plan (memory l) ≡ i
  unfolding first_multiplier
  mult_only i f = lack_only {p = multiplier_ok} m (λ k. itself) i f

  amount_upto : first_amount n l.values ≤ n
  unfolding first_amount
  amount_upto = (first_means _ n).upto

  mult_upto : first_multiplier l.plan (memory l) ≤ m
  unfolding first_multiplier
  mult_upto = (first_means _ m).upto

  -- ---- says
  module _ (r : Readable l) where
    first_says : Says l (first_not_whole l.plan (memory l))
    first_says =
        ⊎_elim
        (λ t. let h = ltb-true _ _ t in
        subst (Says l) (amount_is l.plan (memory l) refl h refl) (Says.amount r _ (amount_first h)))
        (λ f. let g = ltb-false _ _ f in rest g (amounts_all.0 (omega (arith, g, amount_upto))))
        (truth (ltb (first_amount n l.values) n))
      where
        rest : n ≤ first_amount n l.values → Each l n (WholeAmount l) → Says l (first_not_whole l.plan (memory l))
        rest g a =
            ⊎_elim
            (λ t. let h = ltb-true _ _ t in
            subst (Says l) (multiplier_is l.plan (memory l) refl g refl h refl)
            (Says.multiplier r a _ (mult_first h)))
            (λ f. let h = ltb-false _ _ f in
            subst (Says l) (all_whole l.plan (memory l) refl g refl h)
            (Says.proposed r a (mults_all.0 (omega (arith, h, mult_upto)))))
            (truth (ltb (first_multiplier l.plan (memory l)) m))

  pub proposal_says : Says l (proposal l)
  proposal_says =
      ⊎_elim at
      (λ f. subst (Says l) (short l f) (Says.size (λ e. not_both (fine_enough l e) f)))
      (truth (lent_fine l))
    where
      at : lent_fine l ≡ true → Says l (proposal l)
      at h =
          ⊎_elim
          (λ t. run h (eqb-true _ 0 t))
          (λ f. subst (Says l) (no_run l h (λ e. eqb-false _ 0 f (status_read l ∙ e))) (Says.no_run (enough l h) (eqb-false _ 0 f)))
          (truth (eqb (status_of (memory l)) 0))
        where
          run : lent_fine l ≡ true → status_of (memory l) ≡ 0 → Says l (proposal l)
          run h s =
              let z = sym (status_read l) ∙ s in
              ⊎_elim
              (λ t. subst (Says l) (judged l h z t) (first_says (record { enough = enough l h; status = s; kept = (fine_exactly l.plan (memory l)).0 t })))
              (λ f. subst (Says l) (broken l h z f) (Says.broken (enough l h) s ((broken_exactly l.plan (memory l)).0 f)))
              (truth (maps_fine l.plan (memory l)))

  -- ---- only
  readable : Readable l → first_not_whole l.plan (memory l) ≡ proposal l
  readable r =
      judged l (fine_enough l r.enough) (sym (status_read l) ∙ r.status)
      ((fine_exactly l.plan (memory l)).1 r.kept)

  pub proposal_only : {a : Proposal} → Says l a → proposal l ≡ a
  proposal_only (Says.size h) = sym (short l (⊎_elim (λ t. absurd (h (enough l t))) (λ f. f) (truth (lent_fine l))))
  proposal_only (Says.no_run e h) = sym (no_run l (fine_enough l e) (λ z. h (status_read l ∙ z)))
  proposal_only (Says.broken e s b) =
      sym (broken l (fine_enough l e) (sym (status_read l) ∙ s) ((broken_exactly l.plan (memory l)).1 b))
  proposal_only (Says.amount r j f) =
      sym (readable r) ∙ sym (amount_is l.plan (memory l) (sym (amount_only j f)) f.0 refl)
  proposal_only (Says.multiplier r a i f) =
      let g : n ≤ first_amount n l.values = omega (arith, amounts_all.1 a) in
      sym (readable r) ∙ sym (multiplier_is l.plan (memory l) refl g (sym (mult_only i f)) f.0 refl)
  proposal_only (Says.proposed r a b) =
      let g : n ≤ first_amount n l.values = omega (arith, amounts_all.1 a) in
      let h : m ≤ first_multiplier l.plan (memory l) = omega (arith, mults_all.1 b) in
      sym (readable r) ∙ sym (all_whole l.plan (memory l) refl g refl h)
