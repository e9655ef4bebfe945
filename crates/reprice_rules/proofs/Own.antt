-- The own part of the call: what it comes to, and how the call goes on behind it. Assumes nothing.
use mathlib.Core.Path.{◌≡◌, refl, ◌∙◌}
use mathlib.Core.Bool.{Bool, true, false}
use borrow.Author.Tests.{eqb-true, eqb-false}
use Rattle.lu_factor_rules.specs.Factor.{Outcome as Factoring, factored, non_finite, singular as is-singular, Factor, factorize}
use Rattle.rules.specs.Plan.{Problem, State, m_of}
use Rattle.fix_rules.proofs.Goes.{run_goes}
use Rattle.reprice_rules.specs.Reprice.{Ready, ready, has_no_etas, basis_now, factored_now, or_halts, settled, multipliers, priced_finite, priced_if, priced_by, priced, then_priced, repriced, goes_on, reprice_end}
use Rattle.reprice_rules.specs.Meaning.{Settles, as_it_is, anew, Priced, not_finite, singular, Own, stops, prices, RepriceEnds, not_made, made}

module _ (P : Problem) (s : State) where
  price : (u : State) → Settles P s u → Own P s (priced P u)
  unfolding priced
  price u x = go (priced_finite P u (multipliers P u)) refl
    where
      go : (b : Bool) → priced_finite P u (multipliers P u) ≡ b → Own P s (priced_if b P u (multipliers P u))
      go true q = prices (record { basis = u; settles = x; numbers = q; after = refl })
      go false q = stops not_finite

  factors : (o : Factoring Factor) → factorize (m_of P) (basis_now P s) ≡ o → ¬ (s.eta_count ≡ 0)
      → Own P s (then_priced P (or_halts o (factored_now s)))
  factors (factored f) q n = price (factored_now s f) (anew f n q)
  factors non_finite q n = stops not_finite
  factors is-singular q n = stops singular

  -- parts 1 to 5 give a state as their words say, or 23 or 25
  pub own_part : Own P s (repriced P s)
  unfolding repriced settled
  own_part = go (has_no_etas s) refl
    where
      go : (b : Bool) → has_no_etas s ≡ b
          → Own P s (then_priced P (elim b [ true ↦ ready s | false ↦ or_halts (factorize (m_of P) (basis_now P s)) (factored_now s) ]))
      go true q = price s (as_it_is (eqb-true s.eta_count 0 q))
      go false q = factors (factorize (m_of P) (basis_now P s)) refl (eqb-false s.eta_count 0 q)

-- no step is taken there
settles_steps : {P : Problem} {s u : State} → Settles P s u → u.steps ≡ s.steps
settles_steps (as_it_is z) = refl
settles_steps (anew f n q) = refl

pub priced_steps : {P : Problem} {s t : State} → Priced P s t → t.steps ≡ s.steps
unfolding priced_by
priced_steps x = rw x.after (settles_steps x.settles)

-- "Then primal steps until no column enters, with the budget from 0"
pub reprice_ends : (P : Problem) (s : State) → s.steps ≡ 0 → RepriceEnds P s (reprice_end P s)
unfolding reprice_end
reprice_ends P s h = go (own_part P s)
  where
    go : {o : Ready} → Own P s o → RepriceEnds P s (goes_on P s o)
    go (stops {w} x) = not_made w x
    go (prices {t} x) = made t x (run_goes P t (priced_steps x ∙ h))
