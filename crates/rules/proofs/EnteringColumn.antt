-- What the choice of the entering column means, said apart from its loop. Assumes nothing.
use mathlib.Core.Path.{◌≡◌, refl, sym, ap, ◌∙◌, subst}
use mathlib.Core.Bool.{Bool, true, false, not, ◌&&◌, ◌||◌}
use mathlib.Core.Logic.{◌↔◌}
use Prim.Native.Nat.{ℕ, ◌+◌, ◌*◌}
use native.Mathlib.Omega.{arith}
use borrow.Author.Tests.{ltb-true, lt-ltb, le-ltb, not-true}
use lib.Dec.{ltb}
use lib.Ieee.{Float, nan, inf, fin, mul, div, lt, le, neg, is_nan, of_bits, up, down}
use Rattle.doubles.specs.Num.{◌⊖◌, eps, -inf, size}
use Rattle.doubles.specs.Lists.{◌!◌, ◌#◌}
use Rattle.doubles.proofs.Tests.{not_both, false_by}
use Rattle.doubles.proofs.Order.{lt_number, lt_le_trans, le_total, le_not_lt}
use Rattle.doubles.proofs.Largest.{Best, kept, took, best, above, at_least, by_above, only_one}
use Rattle.rules.specs.Plan.{Problem, Workspace, n_of, flags_cell, flags_of, held}
use Rattle.rules.specs.Choose.{may_enter, score_of, passes_filter, score_at, Best as Column, best_of, better_turn, best_column, other_val, entering_of, choose}
use Rattle.rules.specs.Choices.{MayEnter, IsEntering, NoneEnters}
use Rattle.rules.specs.declared.NonBasicVarState.{NonBasicVarState}
use Rattle.rules.specs.declared.Entering.{Entering}
use Rattle.std.specs.Prelude.{Option, Some, None}

-- ---- the filter. 01: "Filter as shown"; 02: "a column at neither bound enters only if its price's size is at least
-- EPS"
three : (a b x y z : Bool)
    → not ((a && x) || (b && y) || (not a && not b && z)) ≡ true ↔ ((a ≡ true → x ≡ false) × (b ≡ true → y ≡ false) × (a ≡ false → b ≡ false → z ≡ false))
three false false x y z = (λ h. (λ p. cc, λ p. cc, λ p q. not-true z h), λ h. rw (h.2 refl refl))
three false true x false z = (λ h. (λ p. cc, λ p. refl, λ p q. cc), λ h. refl)
three false true x true z = (λ h. absurd (not_both h refl), λ h. absurd (not_both refl (h.1 refl)))
three true false false y z = (λ h. (λ p. refl, λ p. cc, λ p q. cc), λ h. refl)
three true true false false z = (λ h. (λ p. refl, λ p. refl, λ p q. cc), λ h. refl)
three true true false true z = (λ h. absurd (not_both h refl), λ h. absurd (not_both refl (h.1 refl)))
three true b true y z = (λ h. absurd (not_both h refl), λ h. absurd (not_both refl (h.0 refl)))

pub eps_number : is_nan eps ≡ false
unfolding is_nan of_bits
eps_number = refl

minus_eps_number : is_nan (neg eps) ≡ false
unfolding is_nan neg of_bits
minus_eps_number = refl

pub size_number : (x : Float) → is_nan x ≡ false → is_nan (size x) ≡ false
unfolding is_nan size
size_number nan p = p
size_number (inf s) p = refl
size_number (fin s m e) p = refl

pub filter_means : (f : NonBasicVarState) (price : Float) → is_nan price ≡ false → may_enter f price ≡ true ↔ MayEnter f price
unfolding may_enter
filter_means f price p =
    let n = three f.at_min f.at_max (lt (neg eps) price) (lt price eps) (lt (size price) eps) in (
      λ h.
          let b = n.0 h in
          record {
            lower = λ q. le_total (neg eps) price minus_eps_number p (b.0 q);
            upper = λ q. le_total price eps p eps_number (b.1 q);
            neither = λ q r. le_total (size price) eps (size_number price p) eps_number (b.2 q r);
          },
      λ m. n.1 (λ q. le_not_lt price (neg eps) (m.lower q), λ q. le_not_lt eps price (m.upper q), λ q r. le_not_lt eps (size price) (m.neither q r)),
    )

-- a column at both bounds, as a fixed one is, never enters
pub fixed_never : (f : NonBasicVarState) (price : Float) → is_nan price ≡ false → f.at_min ≡ true → f.at_max ≡ true → may_enter f price ≡ false
fixed_never f price p a b =
    false_by
    (λ h.
    let m = (filter_means f price p).0 h in
    not_both (lt_le_trans (neg eps) eps price signs (m.upper b)) (le_not_lt price (neg eps) (m.lower a)))
  where
    signs : lt (neg eps) eps ≡ true
    signs = unfold lt neg of_bits in refl

-- 02, Ask 9: "A fixed column never enters"
pub held_never : (price : Float) → is_nan price ≡ false → may_enter held price ≡ false
held_never price p = fixed_never held price p refl refl

-- its cell says so
pub held_cell : flags_of (flags_cell held) ≡ held
unfolding flags_of flags_cell
held_cell = refl

-- one at neither bound may exactly when its price's size is at least EPS
pub free_exactly : (f : NonBasicVarState) (price : Float) → is_nan price ≡ false → f.at_min ≡ false → f.at_max ≡ false → may_enter f price ≡ true ↔ le eps (size price) ≡ true
free_exactly f price p a b =
    let m = filter_means f price p in
    (λ h. (m.0 h).neither a b, λ s. m.1 (record { lower = λ q. absurd (not_both q a); upper = λ q. absurd (not_both q b); neither = λ q r. s }))

-- a price of exactly EPS in size, with the sign of the move, enters: at the lower bound, at the upper bound, and at
-- neither in both directions
pub at_eps_enters : (may_enter (record { at_min = true; at_max = false; «fixed» = false }) (neg eps) ≡ true)
    × (may_enter (record { at_min = false; at_max = true; «fixed» = false }) eps ≡ true)
    × (may_enter (record { at_min = false; at_max = false; «fixed» = false }) (neg eps) ≡ true)
    × (may_enter (record { at_min = false; at_max = false; «fixed» = false }) eps ≡ true)
unfolding may_enter lt neg size of_bits
at_eps_enters = (refl, refl, refl, refl)

-- what is under y in size lies between -y and y
between : (x y : Float) → lt (size x) y ≡ true → (lt (neg y) x ≡ true) × (lt x y ≡ true)
unfolding lt neg size
between nan y h = absurd (not_both h refl)
between (inf s) nan h = absurd (not_both h refl)
between (inf s) (inf t) h = absurd (not_both h refl)
between (inf s) (fin t n d) h = absurd (not_both h refl)
between (fin s m e) nan h = absurd (not_both h refl)
between (fin s m e) (inf true) h = absurd (not_both h refl)
between (fin s m e) (inf false) h = (refl, refl)
between (fin s m e) (fin true n d) h = absurd (not_both h refl)
between (fin false m e) (fin false n d) h = (lt-ltb 0 (n * up d * down e + m * up e * down d) (omega (arith, ltb-true (m * up e * down d) (n * up d * down e) h)), h)
between (fin true m e) (fin false n d) h = (h, lt-ltb 0 (m * up e * down d + n * up d * down e) (omega (arith, ltb-true (m * up e * down d) (n * up d * down e) h)))

-- so no column enters with a price under EPS in size, wherever it stands
pub under_eps_never : (f : NonBasicVarState) (price : Float) → lt (size price) eps ≡ true → may_enter f price ≡ false
unfolding may_enter
under_eps_never f price h = false_by (λ q. go f.at_min f.at_max ((three _ _ (lt (neg eps) price) (lt price eps) (lt (size price) eps)).0 q))
  where
    go : (a b : Bool) → (a ≡ true → lt (neg eps) price ≡ false) × (b ≡ true → lt price eps ≡ false) × (a ≡ false → b ≡ false → lt (size price) eps ≡ false) → ⊥
    go true b n = not_both (between price eps h).0 (n.0 refl)
    go false true n = not_both (between price eps h).1 (n.1 refl)
    go false false n = not_both h (n.2 refl refl)

-- ---- the choice
-- a NaN scores NaN, which isn't above -inf
pub price_number : (price norm : Float) → lt -inf (score_of price norm) ≡ true → is_nan price ≡ false
unfolding score_of mul div lt is_nan
price_number nan norm h = cc
price_number (inf s) norm h = refl
price_number (fin s m e) norm h = refl

-- so the filter's words hold of the entering column, whatever the prices are
pub entering_allowed : (P : Problem) (w : Workspace) (e : Entering) → IsEntering P w e → MayEnter (flags_of (w.flags # e.col)) e.price
entering_allowed P w e a =
    rw a.price_is ((filter_means (flags_of (w.flags # e.col)) (w.prices ! e.col) (price_number _ _ a.scores)).0 a.wins.passes)

-- 02 of 20 and of every step: the entering column has a price of at least EPS in size
pub entering_priced : (P : Problem) (w : Workspace) (e : Entering) → IsEntering P w e → le eps (size e.price) ≡ true
entering_priced P w e a =
    let p = price_number _ _ a.scores in
    rw a.price_is
    (le_total (size (w.prices ! e.col)) eps (size_number _ p) eps_number
    (false_by (λ h. not_both a.wins.passes (under_eps_never (flags_of (w.flags # e.col)) (w.prices ! e.col) h))))

module _ (P : Problem) (w : Workspace) where
  -- its column settles it, and no other column is one
  abbrev standing : ℕ → Entering
  standing c = record { col = c; price = w.prices ! c; score = score_at w c; distance = size (other_val P w c ⊖ w.nb_var_vals ! c) }

  settled : (e : Entering) → IsEntering P w e → e ≡ standing e.col
  unfolding score_of
  settled e a =
      let whole : ◌≡◌ {A = Entering} (record { col = e.col; price = e.price; score = e.score; distance = e.distance }) (standing e.col) =
      cc (a.price_is, a.score_is, a.distance_is) in
      whole

  same : (e f : Entering) → IsEntering P w e → IsEntering P w f → e ≡ f
  same e f a b =
      let c : e.col ≡ f.col = only_one a.wins b.wins (lt_number _ _ a.scores) (lt_number _ _ b.scores) in
      settled e a ∙ ap standing c ∙ sym (settled f b)

  not_none : (e : Entering) → IsEntering P w e → NoneEnters P w → ⊥
  not_none e a h = not_both a.scores (h e.col a.wins.inside a.wins.passes)

  -- one of the two holds of what `choose` gives
  data Chosen : Option Entering → Type 0 where
    enters : (e : Entering) → IsEntering P w e → Chosen (Some e)
    none : NoneEnters P w → Chosen None

  abbrev Kept : Column → Type 0
  Kept b = Best above at_least (passes_filter w) (score_at w) (λ c. best_of c (score_at w c)) -inf (best_of (n_of P) -inf) (n_of P) b

  found : Kept (best_column (n_of P) w)
  unfolding better_turn best_column
  found = best by_above (passes_filter w) (score_at w) (λ b. b.score) (λ c. best_of c (score_at w c)) (λ c. refl) (better_turn w) (λ c b. refl) (best_of (n_of P) -inf) (n_of P)

  chosen : Chosen (choose P w)
  unfolding choose entering_of score_of
  chosen = go (best_column (n_of P) w) found
    where
      go : (b : Column) → Kept b → Chosen (elim (ltb b.col (n_of P)) [ true ↦ Some (entering_of P w b) | false ↦ None ])
      go _ (kept h) = rw (le-ltb (n_of P) (n_of P) (omega arith)) (none h)
      go _ (took c l t a h f) =
          rw (lt-ltb c (n_of P) l)
          (enters (entering_of P w (best_of c (score_at w c)))
          (record { wins = record { inside = l; passes = t; largest = h; first = f }; scores = a; price_is = refl; score_is = refl; distance_is = refl }))

  by_enters : {x : Option Entering} → Chosen x → (e : Entering) → x ≡ Some e → IsEntering P w e
  by_enters (enters f a) e q = let z : f ≡ e = cc in subst (IsEntering P w) z a
  by_enters (none h) e q = absurd (let z : ◌≡◌ {A = ℕ} 0 1 = cc in omega arith)

  by_nothing : {x : Option Entering} → Chosen x → x ≡ None → NoneEnters P w
  by_nothing (enters f a) q = absurd (let z : ◌≡◌ {A = ℕ} 0 1 = cc in omega arith)
  by_nothing (none h) q = h

  gives_enters : {x : Option Entering} → Chosen x → (e : Entering) → IsEntering P w e → x ≡ Some e
  gives_enters (enters f a) e b = ap Some (same f e a b)
  gives_enters (none h) e b = absurd (not_none e b h)

  gives_nothing : {x : Option Entering} → Chosen x → NoneEnters P w → x ≡ None
  gives_nothing (enters f a) h = absurd (not_none f a h)
  gives_nothing (none g) h = refl

  -- 01: "strictly largest wins, first on a tie"
  pub enters_exactly : (e : Entering) → choose P w ≡ Some e ↔ IsEntering P w e
  enters_exactly e = (by_enters chosen e, gives_enters chosen e)

  -- 01: "entering column (none: final check)": none enters exactly when no column that passes the filter scores above -inf
  pub nothing_exactly : choose P w ≡ None ↔ NoneEnters P w
  nothing_exactly = (by_nothing chosen, gives_nothing chosen)
