-- 01, "One step": when a step isn't taken: Unbounded, a number that isn't finite, or no pivot for the new basis' factor,
-- each exactly when its condition holds; and when it is. Assumes nothing.
use mathlib.Core.Path.{◌≡◌, refl, sym, subst}
use mathlib.Core.Bool.{Bool, true, false, ◌&&◌, and_assoc}
use mathlib.Core.List.{List}
use mathlib.Core.Logic.Iff
use mathlib.Core.Logic.{◌↔◌, ◌⊎◌, inl, inr, ⊎_elim}
use Prim.Native.Nat.{ℕ}
use native.Mathlib.Omega.{arith}
use lib.Ieee.{Float}
use Rattle.doubles.proofs.Bools.{never, itself, leb_fails, ltb_fails, some_fails, ◌or◌}
use Rattle.sparse.specs.Scattered.{Sv, listed_finite, sq_norm}
use Rattle.lu_factor_rules.specs.Factor.{Outcome as Factoring, factored, non_finite, singular, Factor, factorize}
use Rattle.lu_factor_rules.specs.Ends.{Wild, Flat, Some as SomeColumn}
use Rattle.lu_factor_rules.proofs.Exactly.{wild_exactly, flat_exactly}
use Rattle.rules.specs.Plan.{Problem, State, m_of}
use Rattle.rules.specs.Basis.{eta_fits, row_coeffs_of, helper_of, inv_row, tau_of, touch_at, eta_entry_at, basis_after}
use Rattle.rules.specs.Ratio.{ratio}
use Rattle.rules.specs.Pivot.{stored, stores_finite, new_dual_norm, flip_finite, eta_finite, numbers_finite, exchanged, refactored}
use Rattle.rules.specs.Step.{Outcome, moved, stopped, or_stop, or_factor, exchange, state_with_dual_norms, outcome_with_dual_norms, both_norms, flip, pivot, step}
use Rattle.rules.specs.Choices.{RatioGives}
use Rattle.rules.specs.Conditions.{Some, NotFinite, EntryBroken, StoreBroken, Crowded, FlipBroken, NormsBroken, ExchangeBroken, EtaBroken, FactorBroken, StepBroken, StepSingular}
use Rattle.rules.specs.Conditions.{Exchanges, ExchangesBoth, StoresTo, Chosen, StopsWith, step_column, Stops, Moves}
use Rattle.rules.proofs.Choices.{ratio_exactly}
use Rattle.rules.specs.declared.Entering.{Entering}
use Rattle.rules.specs.declared.PivotInfo.{PivotInfo}
use Rattle.rules.specs.declared.PivotInfo.TheVariants.{Flip, Exchange}
use Rattle.rules.specs.declared.Ratio.{Ratio}
use Rattle.rules.specs.declared.Ratio.TheVariants.{Pivot, Unbounded as Ratio-as-Unbounded, NotFinite as Ratio-as-NotFinite}
use Rattle.rules.specs.declared.Stop.{Stop}
use Rattle.rules.specs.declared.Stop.TheVariants.{Finished, Spent as Stop-as-Spent, Unbounded as Stop-as-Unbounded, NotFinite as Stop-as-NotFinite, Singular as Stop-as-Singular, Infeasible as Stop-as-Infeasible}

pub clash : {C : Type 0} → ◌≡◌ {A = ℕ} 0 1 → C
clash z = absurd (omega arith)

-- ---- the tests
pub entries : (c : Sv) → (listed_finite c ≡ false) ↔ EntryBroken c
unfolding listed_finite
entries c = some_fails _ (λ k. itself)

pub room : (s : State) (k : ℕ) → (eta_fits s k ≡ false) ↔ Crowded s k
unfolding eta_fits Crowded
room s k = ltb_fails _ _ or leb_fails _ _

stored_finite : (v : Sv) (f : ℕ → Float) → (stores_finite v f ≡ false) ↔ StoreBroken v f
unfolding stores_finite
stored_finite v f = some_fails _ (λ k. itself)

-- ---- a test with its stop, before what comes next
module _ {b : Bool} {w : Stop} {o : Outcome} {G : Type 0} (e : (b ≡ false) ↔ G) where
  only : ¬ (o ≡ stopped w) → (or_stop b w o ≡ stopped w) ↔ G
  only n = go b refl
    where
      go : (x : Bool) → b ≡ x → (or_stop x w o ≡ stopped w) ↔ G
      go true q = (λ h. absurd (n h), λ g. never q (e.1 g))
      go false q = (λ _. e.0 q, λ _. refl)

  pub also : {H : Type 0} → (o ≡ stopped w) ↔ H → (or_stop b w o ≡ stopped w) ↔ (G ⊎ H)
  also {H} r = go b refl
    where
      go : (x : Bool) → b ≡ x → (or_stop x w o ≡ stopped w) ↔ (G ⊎ H)
      go true q = (λ h. inr (r.0 h), ⊎_elim (λ g. never q (e.1 g)) (λ h. r.1 h))
      go false q = (λ _. inl (e.0 q), λ _. refl)

  pub past : {y : Outcome} {H : Type 0} → ¬ (stopped w ≡ y) → (o ≡ y) ↔ H → (or_stop b w o ≡ y) ↔ ((¬ G) × H)
  past {y} {H} n r = go b refl
    where
      go : (x : Bool) → b ≡ x → (or_stop x w o ≡ y) ↔ ((¬ G) × H)
      go true q = (λ h. (λ g. never q (e.1 g), r.0 h), λ h. r.1 h.1)
      go false q = (λ h. absurd (n h), λ h. absurd (h.0 (e.0 q)))

  pub nor : {y : Outcome} → ¬ (stopped w ≡ y) → ¬ (o ≡ y) → ¬ (or_stop b w o ≡ y)
  nor n r h = r ((past n Iff.rfl).0 h).1

taken : {i : PivotInfo} {t : State} {w : Stop} → ¬ (moved i t ≡ stopped w)
taken h = clash (cc)

-- ---- the dual norms, put into what an exchange gives
with_norms_stops : (l : List Float) (o : Outcome) {w : Stop} → (outcome_with_dual_norms l o ≡ stopped w) ↔ (o ≡ stopped w)
with_norms_stops l (moved i t) = ((λ h. absurd (taken h)), (λ h. absurd (taken h)))
with_norms_stops l (stopped v) = Iff.rfl

with_norms_moves : (l : List Float) (o : Outcome) (j : PivotInfo) (t : State)
    → (outcome_with_dual_norms l o ≡ moved j t) ↔ ((u : State) × (o ≡ moved j u) × (t ≡ state_with_dual_norms l u))
with_norms_moves l (moved i u) j t =
    ((λ h. let a : moved i (state_with_dual_norms l u) ≡ moved j t = h in (u, cc, cc)), (λ x. let a = x.1 in let b = x.2 in cc))
with_norms_moves l (stopped v) j t = ((λ h. absurd (taken (sym h))), (λ x. absurd (taken (sym x.1))))

-- ---- an exchange: its numbers, then the eta column or the factor
module _ (P : Problem) (s : State) (e : Entering) (c : Sv) (value diff : Float) (row : ℕ) (coeff leaving : Float) where
  abbrev r : Sv
  r = touch_at (row_coeffs_of P s row) e.col

  abbrev h : Sv
  h = helper_of P s c

  abbrev col : ℕ → Sv
  col = basis_after P s e.col row

  abbrev info : PivotInfo
  info = Exchange value diff row coeff leaving

  pub numbers_broken : (listed_finite r && listed_finite h && numbers_finite P s e c r h value diff row coeff leaving ≡ false)
      ↔ ExchangeBroken P s e c value diff row coeff leaving
  unfolding numbers_finite ExchangeBroken
  numbers_broken =
      simp and_assoc (entries _ or entries _ or itself or stored_finite _ _ or itself or stored_finite _ _ or stored_finite _ _)

  -- what comes behind them
  abbrev with_column : Outcome
  with_column = or_stop (eta_finite c row coeff) Stop-as-NotFinite (moved info (exchanged P s e c r h value diff row coeff leaving))

  abbrev with_factor : Factoring Factor → Outcome
  with_factor o = or_factor o (λ f. moved info (refactored P s e c r h value diff row coeff leaving f))

  abbrev stored_by_holds : Bool → Outcome
  stored_by_holds b = elim b [ true ↦ with_column | false ↦ with_factor (factorize (m_of P) col) ]

  abbrev fits : Bool
  fits = eta_fits s c.pat.count

  crowded_not : fits ≡ true → ¬ Crowded s c.pat.count
  crowded_not q g = never q ((room s c.pat.count).1 g)

  pub column_broken : (eta_finite c row coeff ≡ false) ↔ Some c.pat.count (λ k. NotFinite (eta_entry_at c row coeff k))
  unfolding eta_finite
  column_broken = some_fails _ (λ k. itself)

  rest_broken : (stored_by_holds fits ≡ stopped Stop-as-NotFinite)
      ↔ (EtaBroken P s e c value diff row coeff leaving ⊎ FactorBroken P s e c value diff row coeff leaving (λ _. Wild))
  unfolding EtaBroken FactorBroken
  rest_broken = go fits refl
    where
      factor : (o : Factoring Factor) → factorize (m_of P) col ≡ o → with_factor o ≡ stopped Stop-as-NotFinite
          → SomeColumn (m_of P) col (λ _. Wild)
      factor (factored f) q z = clash (cc)
      factor non_finite q z = (wild_exactly (m_of P) col).0 q
      factor singular q z = clash (cc)

      go : (b : Bool) → fits ≡ b → (stored_by_holds b ≡ stopped Stop-as-NotFinite)
          ↔ (((¬ Crowded s c.pat.count) × Some c.pat.count (λ k. NotFinite (eta_entry_at c row coeff k)))
          ⊎ (Crowded s c.pat.count × SomeColumn (m_of P) col (λ _. Wild)))
      go true q = (
        λ z. inl (crowded_not q, (only column_broken taken).0 z),
        ⊎_elim (λ g. (only column_broken taken).1 g.1) (λ g. absurd (crowded_not q g.0)),
      )
      go false q = (
        λ z. inr ((room s c.pat.count).0 q, factor (factorize (m_of P) col) refl z),
        ⊎_elim (λ g. absurd (g.0 ((room s c.pat.count).0 q))) (λ g. rw ((wild_exactly (m_of P) col).1 g.1) refl),
      )

  rest_singular : (stored_by_holds fits ≡ stopped Stop-as-Singular) ↔ FactorBroken P s e c value diff row coeff leaving Flat
  unfolding FactorBroken
  rest_singular = go fits refl
    where
      factor : (o : Factoring Factor) → factorize (m_of P) col ≡ o → with_factor o ≡ stopped Stop-as-Singular
          → SomeColumn (m_of P) col Flat
      factor (factored f) q z = clash (cc)
      factor non_finite q z = clash (cc)
      factor singular q z = (flat_exactly (m_of P) col).0 q

      go : (b : Bool) → fits ≡ b → (stored_by_holds b ≡ stopped Stop-as-Singular)
          ↔ (Crowded s c.pat.count × SomeColumn (m_of P) col Flat)
      go true q = (
        λ z. absurd (nor column_broken (λ w. clash (cc)) taken z),
        λ g. absurd (crowded_not q g.0),
      )
      go false q = (
        λ z. ((room s c.pat.count).0 q, factor (factorize (m_of P) col) refl z),
        λ g. rw ((flat_exactly (m_of P) col).1 g.1) refl,
      )

  rest_other : {w : Stop} → ¬ (stopped Stop-as-NotFinite ≡ stopped w) → ¬ (stopped Stop-as-Singular ≡ stopped w)
      → ¬ (stored_by_holds fits ≡ stopped w)
  rest_other {w} a b = go fits
    where
      factor : (o : Factoring Factor) → ¬ (with_factor o ≡ stopped w)
      factor (factored f) z = taken z
      factor non_finite z = a z
      factor singular z = b z

      go : (b : Bool) → ¬ (stored_by_holds b ≡ stopped w)
      go true = nor column_broken a taken
      go false = factor (factorize (m_of P) col)

  -- it is made: told as j, to t
  rest_moves : (j : PivotInfo) (t : State) → (stored_by_holds fits ≡ moved j t)
      ↔ ((¬ (EtaBroken P s e c value diff row coeff leaving ⊎ FactorBroken P s e c value diff row coeff leaving (λ _. Wild)))
      × ((info ≡ j) × Exchanges P s e c value diff row coeff leaving t))
  unfolding EtaBroken FactorBroken Exchanges
  rest_moves j t = go fits refl
    where
      full : fits ≡ false → Crowded s c.pat.count
      full q = (room s c.pat.count).0 q

      Broken : Type 0
      Broken = ((¬ Crowded s c.pat.count) × Some c.pat.count (λ k. NotFinite (eta_entry_at c row coeff k)))
          ⊎ (Crowded s c.pat.count × SomeColumn (m_of P) col (λ _. Wild))

      Made : Type 0
      Made = ((¬ Crowded s c.pat.count) × (t ≡ exchanged P s e c r h value diff row coeff leaving))
          ⊎ (Crowded s c.pat.count
          × ((f : Factor) × (factorize (m_of P) col ≡ factored f) × (t ≡ refactored P s e c r h value diff row coeff leaving f)))

      factor : (o : Factoring Factor) → factorize (m_of P) col ≡ o → with_factor o ≡ moved j t
          → (info ≡ j) × ((f : Factor) × (factorize (m_of P) col ≡ factored f)
          × (t ≡ refactored P s e c r h value diff row coeff leaving f))
      factor (factored f) q z = (cc, (f, q, cc))
      factor non_finite q z = clash (cc)
      factor singular q z = clash (cc)

      sound : fits ≡ false → {f : Factor} → factorize (m_of P) col ≡ factored f → ¬ Broken
      sound q p = ⊎_elim (λ g. g.0 (full q)) (λ g. let w = (wild_exactly (m_of P) col).1 g.1 in clash (cc))

      made : (with_column ≡ moved j t)
          ↔ ((¬ Some c.pat.count (λ k. NotFinite (eta_entry_at c row coeff k)))
          × (moved info (exchanged P s e c r h value diff row coeff leaving) ≡ moved j t))
      made = past column_broken (λ w. clash (cc)) Iff.rfl

      go : (b : Bool) → fits ≡ b → (stored_by_holds b ≡ moved j t) ↔ ((¬ Broken) × ((info ≡ j) × Made))
      go true q = (
        λ z.
            let x = made.0 z in
            let y : moved info (exchanged P s e c r h value diff row coeff leaving) ≡ moved j t = x.1 in
            (⊎_elim (λ g. x.0 g.1) (λ g. crowded_not q g.0), (cc, inl (crowded_not q, cc))),
        λ x.
            made.1 (
              (λ g. x.0 (inl (crowded_not q, g))),
              ⊎_elim (λ m. let a : info ≡ j = x.1.0 in let b : t ≡ _ = m.1 in cc)
                  (λ m. absurd (crowded_not q m.0)) x.1.1,
            ),
      )
      go false q = (
        λ z. let x = factor (factorize (m_of P) col) refl z in
            (sound q x.1.1, (x.0, inr (full q, x.1))),
        λ x. ⊎_elim (λ m. absurd (m.0 (full q)))
            (λ m. let a = x.1.0 in let b = m.1.1 in let d = m.1.2 in cc) x.1.1,
      )

  -- before the dual norms
  made_broken : (exchange P s e c value diff row coeff leaving ≡ stopped Stop-as-NotFinite)
      ↔ (ExchangeBroken P s e c value diff row coeff leaving
      ⊎ (EtaBroken P s e c value diff row coeff leaving ⊎ FactorBroken P s e c value diff row coeff leaving (λ _. Wild)))
  unfolding exchange
  made_broken = also numbers_broken rest_broken

  made_singular : (exchange P s e c value diff row coeff leaving ≡ stopped Stop-as-Singular)
      ↔ ((¬ ExchangeBroken P s e c value diff row coeff leaving) × FactorBroken P s e c value diff row coeff leaving Flat)
  unfolding exchange
  made_singular = past numbers_broken (λ q. clash (cc)) rest_singular

  made_other : {w : Stop} → ¬ (stopped Stop-as-NotFinite ≡ stopped w) → ¬ (stopped Stop-as-Singular ≡ stopped w)
      → ¬ (exchange P s e c value diff row coeff leaving ≡ stopped w)
  unfolding exchange
  made_other a b = nor numbers_broken a (rest_other a b)

  made_moves : (j : PivotInfo) (t : State) → (exchange P s e c value diff row coeff leaving ≡ moved j t)
      ↔ ((¬ ExchangeBroken P s e c value diff row coeff leaving)
      × ((¬ (EtaBroken P s e c value diff row coeff leaving ⊎ FactorBroken P s e c value diff row coeff leaving (λ _. Wild)))
      × ((info ≡ j) × Exchanges P s e c value diff row coeff leaving t)))
  unfolding exchange
  made_moves j t = past numbers_broken (λ q. clash (cc)) (rest_moves j t)

  -- with them: 02: "23 covers both"
  abbrev tau : Sv
  tau = tau_of P s (inv_row P s row)

  abbrev norm : ℕ → Float
  norm = new_dual_norm s.ws c row coeff (sq_norm (inv_row P s row)) tau

  pub norms_broken : (listed_finite tau && stores_finite c norm ≡ false) ↔ NormsBroken P s e c value diff row coeff leaving
  unfolding NormsBroken
  norms_broken = entries _ or stored_finite _ _

  both_broken : (both_norms P s e c value diff row coeff leaving ≡ stopped Stop-as-NotFinite)
      ↔ (NormsBroken P s e c value diff row coeff leaving
      ⊎ (ExchangeBroken P s e c value diff row coeff leaving
      ⊎ (EtaBroken P s e c value diff row coeff leaving ⊎ FactorBroken P s e c value diff row coeff leaving (λ _. Wild))))
  unfolding both_norms
  both_broken = also norms_broken (Iff.trans (with_norms_stops _ _) made_broken)

  both_singular : (both_norms P s e c value diff row coeff leaving ≡ stopped Stop-as-Singular)
      ↔ ((¬ NormsBroken P s e c value diff row coeff leaving)
      × (¬ ExchangeBroken P s e c value diff row coeff leaving)
      × FactorBroken P s e c value diff row coeff leaving Flat)
  unfolding both_norms
  both_singular =
      Iff.trans (past norms_broken (λ q. clash (cc)) (Iff.trans (with_norms_stops _ _) made_singular))
      ((λ x. (x.0, x.1.0, x.1.1)), (λ x. (x.0, (x.1, x.2))))

  both_other : {w : Stop} → ¬ (stopped Stop-as-NotFinite ≡ stopped w) → ¬ (stopped Stop-as-Singular ≡ stopped w)
      → ¬ (both_norms P s e c value diff row coeff leaving ≡ stopped w)
  unfolding both_norms
  both_other a b = nor norms_broken a (λ z. made_other a b ((with_norms_stops _ _).0 z))

  both_moves : (j : PivotInfo) (t : State) → (both_norms P s e c value diff row coeff leaving ≡ moved j t)
      ↔ ((¬ (NormsBroken P s e c value diff row coeff leaving
      ⊎ (ExchangeBroken P s e c value diff row coeff leaving
      ⊎ (EtaBroken P s e c value diff row coeff leaving ⊎ FactorBroken P s e c value diff row coeff leaving (λ _. Wild)))))
      × ((info ≡ j) × ExchangesBoth P s e c value diff row coeff leaving t))
  unfolding both_norms ExchangesBoth
  both_moves j t = Iff.trans (past norms_broken (λ q. clash (cc)) (with_norms_moves _ _ j t)) (to, from)
    where
      Broken : Type 0
      Broken = EtaBroken P s e c value diff row coeff leaving ⊎ FactorBroken P s e c value diff row coeff leaving (λ _. Wild)

      Made : Type 0
      Made = (u : State) × Exchanges P s e c value diff row coeff leaving u
          × (t ≡ state_with_dual_norms (stored c norm s.ws.dual_norms) u)

      to : (¬ NormsBroken P s e c value diff row coeff leaving)
          × ((u : State) × (exchange P s e c value diff row coeff leaving ≡ moved j u)
          × (t ≡ state_with_dual_norms (stored c norm s.ws.dual_norms) u))
          → (¬ (NormsBroken P s e c value diff row coeff leaving ⊎ (ExchangeBroken P s e c value diff row coeff leaving ⊎ Broken)))
          × ((info ≡ j) × Made)
      to x =
          let m = (made_moves j x.1.0).0 x.1.1 in
          (⊎_elim x.0 (⊎_elim m.0 m.1.0), (m.1.1.0, (x.1.0, m.1.1.1, x.1.2)))

      from : (¬ (NormsBroken P s e c value diff row coeff leaving ⊎ (ExchangeBroken P s e c value diff row coeff leaving ⊎ Broken)))
          × ((info ≡ j) × Made)
          → (¬ NormsBroken P s e c value diff row coeff leaving)
          × ((u : State) × (exchange P s e c value diff row coeff leaving ≡ moved j u)
          × (t ≡ state_with_dual_norms (stored c norm s.ws.dual_norms) u))
      from x =
          let u = x.1.1.0 in
          let m = (made_moves j u).1 ((λ g. x.0 (inr (inl g))), ((λ g. x.0 (inr (inr g))), (x.1.0, x.1.1.1))) in
          ((λ g. x.0 (inl g)), (u, m, x.1.1.2))

-- ---- the chosen step
module _ (P : Problem) (s : State) (e : Entering) (c : Sv) where
  pub flip_broken : (value diff : Float) → (flip_finite P s e c value diff ≡ false) ↔ FlipBroken P s e c value diff
  unfolding flip_finite FlipBroken
  flip_broken value diff = simp and_assoc (itself or itself or stored_finite _ _)

  pub pivot_broken : (i : PivotInfo) → (pivot P s e c i ≡ stopped Stop-as-NotFinite) ↔ StepBroken P s e c i
  unfolding pivot flip StepBroken
  pivot_broken (Flip value diff) = only (flip_broken value diff) taken
  pivot_broken (Exchange value diff row coeff leaving) = both_broken P s e (touch_at c row) value diff row coeff leaving

  pub pivot_singular : (i : PivotInfo) → (pivot P s e c i ≡ stopped Stop-as-Singular) ↔ StepSingular P s e c i
  unfolding pivot flip StepSingular
  pivot_singular (Flip value diff) = (λ z. absurd (nor (flip_broken value diff) (λ q. clash (cc)) taken z), λ h. absurd h)
  pivot_singular (Exchange value diff row coeff leaving) = both_singular P s e (touch_at c row) value diff row coeff leaving

  pub pivot_other : {w : Stop} (i : PivotInfo) → ¬ (stopped Stop-as-NotFinite ≡ stopped w)
      → ¬ (stopped Stop-as-Singular ≡ stopped w) → ¬ (pivot P s e c i ≡ stopped w)
  unfolding pivot flip
  pivot_other (Flip value diff) n f = nor (flip_broken value diff) n taken
  pivot_other (Exchange value diff row coeff leaving) n f = both_other P s e (touch_at c row) value diff row coeff leaving n f

  -- i is taken, and told as j and t
  abbrev pub Taken : PivotInfo → State → PivotInfo → Type 0
  Taken j t i = (¬ StepBroken P s e c i) × ((i ≡ j) × StoresTo P s e c i t)

  pub pivot_moves : (j : PivotInfo) (t : State) (i : PivotInfo) → (pivot P s e c i ≡ moved j t) ↔ Taken j t i
  unfolding pivot flip StepBroken StoresTo
  pivot_moves j t (Flip value diff) =
      Iff.trans (past (flip_broken value diff) (λ q. clash (cc)) Iff.rfl)
      ((λ x. (x.0, (cc x.1, cc x.1))), (λ x. (x.0, let a = x.1.0 in let b = x.1.1 in cc)))
  pivot_moves j t (Exchange value diff row coeff leaving) = both_moves P s e (touch_at c row) value diff row coeff leaving j t

-- ---- after the ratio, said in the words G of what it gives
abbrev after : (PivotInfo → Outcome) → Ratio → Outcome
after f r = elim r [ Ratio-as-NotFinite ↦ stopped Stop-as-NotFinite | Ratio-as-Unbounded ↦ stopped Stop-as-Unbounded | Pivot i ↦ f i ]

module _ {G : Ratio → Type 0} {r : Ratio} (gives : (x : Ratio) → (r ≡ x) ↔ G x) (f : PivotInfo → Outcome) where
  -- the chosen step, of which X holds
  abbrev ChosenBy : (PivotInfo → Type 0) → Type 0
  ChosenBy X = (i : PivotInfo) × G (Pivot i) × X i

  after_broken : {X : PivotInfo → Type 0} → ((i : PivotInfo) → (f i ≡ stopped Stop-as-NotFinite) ↔ X i)
      → (after f r ≡ stopped Stop-as-NotFinite) ↔ (G Ratio-as-NotFinite ⊎ ChosenBy X)
  after_broken {X} e = go r refl
    where
      go : (x : Ratio) → r ≡ x → (after f x ≡ stopped Stop-as-NotFinite) ↔ (G Ratio-as-NotFinite ⊎ ChosenBy X)
      go Ratio-as-NotFinite q = (λ _. inl ((gives _).0 q), λ _. refl)
      go Ratio-as-Unbounded q =
          (λ h. clash (cc), ⊎_elim (λ h. clash (cc ((gives _).1 h))) (λ h. clash (cc ((gives _).1 h.1))))
      go (Pivot i) q = (
        λ h. inr (i, (gives _).0 q, (e i).0 h),
        ⊎_elim (λ h. clash (cc ((gives _).1 h)))
            (λ h. let z : h.0 ≡ i = cc ((gives _).1 h.1) in (e i).1 (subst X z h.2)),
      )

  after_unbounded : ((i : PivotInfo) → ¬ (f i ≡ stopped Stop-as-Unbounded))
      → (after f r ≡ stopped Stop-as-Unbounded) ↔ G Ratio-as-Unbounded
  after_unbounded n = go r refl
    where
      go : (x : Ratio) → r ≡ x → (after f x ≡ stopped Stop-as-Unbounded) ↔ G Ratio-as-Unbounded
      go Ratio-as-NotFinite q = (λ h. clash (cc), λ h. clash (cc ((gives _).1 h)))
      go Ratio-as-Unbounded q = (λ _. (gives _).0 q, λ _. refl)
      go (Pivot i) q = (λ h. absurd (n i h), λ h. clash (cc ((gives _).1 h)))

  -- any other outcome is the chosen step's
  after_chosen : {X : PivotInfo → Type 0} {y : Outcome} → ¬ (stopped Stop-as-NotFinite ≡ y)
      → ¬ (stopped Stop-as-Unbounded ≡ y) → ((i : PivotInfo) → (f i ≡ y) ↔ X i) → (after f r ≡ y) ↔ ChosenBy X
  after_chosen {X} {y} b u e = go r refl
    where
      go : (x : Ratio) → r ≡ x → (after f x ≡ y) ↔ ChosenBy X
      go Ratio-as-NotFinite q = (λ h. absurd (b h), λ h. clash (cc ((gives _).1 h.1)))
      go Ratio-as-Unbounded q = (λ h. absurd (u h), λ h. clash (cc ((gives _).1 h.1)))
      go (Pivot i) q = (
        λ h. (i, (gives _).0 q, (e i).0 h),
        λ h. let z : h.0 ≡ i = cc ((gives _).1 h.1) in (e i).1 (subst X z h.2),
      )

module _ (P : Problem) (s : State) (e : Entering) where
  abbrev c : Sv
  c = step_column P s e

  ratio_gives : (x : Ratio) → (ratio P s.ws e c ≡ x) ↔ RatioGives P s.ws e c x
  ratio_gives = ratio_exactly P s.ws e c

  -- any outcome but the column's own 23 and Unbounded
  step_chosen : {X : PivotInfo → Type 0} {y : Outcome} → ¬ (stopped Stop-as-NotFinite ≡ y)
      → ¬ (stopped Stop-as-Unbounded ≡ y) → ((i : PivotInfo) → (pivot P s e c i ≡ y) ↔ X i)
      → (step P s e ≡ y) ↔ ((¬ EntryBroken c) × Chosen P s e c X)
  unfolding step
  step_chosen b u x = past (entries c) b (after_chosen ratio_gives (pivot P s e c) b u x)

  never_ends : (w : Stop) → ¬ (stopped Stop-as-NotFinite ≡ stopped w) → ¬ (stopped Stop-as-Unbounded ≡ stopped w)
      → ¬ (stopped Stop-as-Singular ≡ stopped w) → ¬ (step P s e ≡ stopped w)
  never_ends w b n f q = ((step_chosen {X = λ _. ⊥} b n (λ i. (pivot_other P s e c i b f, λ h. absurd h))).0 q).1.2

  -- 01, "One step": 20, 23 and 25 are given exactly when the order of a step comes to them
  pub step_stops : (w : Stop) → (step P s e ≡ stopped w) ↔ Stops P s e w
  unfolding step StopsWith
  step_stops Finished = (never_ends Finished (λ q. clash (cc)) (λ q. clash (cc)) (λ q. clash (cc)), λ h. absurd h)
  step_stops Stop-as-Spent = (never_ends Stop-as-Spent (λ q. clash (cc)) (λ q. clash (cc)) (λ q. clash (cc)), λ h. absurd h)
  step_stops (Stop-as-Infeasible r) = (never_ends (Stop-as-Infeasible r) (λ q. clash (cc)) (λ q. clash (cc)) (λ q. clash (cc)), λ h. absurd h)
  step_stops Stop-as-Unbounded =
      past (entries c) (λ q. clash (cc))
      (after_unbounded ratio_gives (pivot P s e c) (λ i. pivot_other P s e c i (λ q. clash (cc)) (λ q. clash (cc))))
  step_stops Stop-as-Singular = step_chosen (λ q. clash (cc)) (λ q. clash (cc)) (pivot_singular P s e c)
  step_stops Stop-as-NotFinite = also (entries c) (after_broken ratio_gives (pivot P s e c) (pivot_broken P s e c))

  -- and a step is taken exactly when nothing stops it: the one that the ratio gives, to the state that it stores
  pub moves_exactly : (i : PivotInfo) (t : State) → (step P s e ≡ moved i t) ↔ Moves P s e i t
  moves_exactly i t = Iff.trans (step_chosen (λ q. clash (cc)) (λ q. clash (cc)) (pivot_moves P s e c i t)) (to, from)
    where
      to : (¬ EntryBroken c) × Chosen P s e c (Taken P s e c i t) → Moves P s e i t
      to h =
          let x = h.1.2 in
          subst (λ (k : PivotInfo). Moves P s e k t) x.1.0
          (record { column = h.0; chosen = h.1.1; numbers = x.0; after = x.1.1 })

      from : Moves P s e i t → (¬ EntryBroken c) × Chosen P s e c (Taken P s e c i t)
      from x = (x.column, (i, x.chosen, (x.numbers, (refl, x.after))))
