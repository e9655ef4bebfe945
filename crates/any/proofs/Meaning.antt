-- What `solve_any` promises, said of any answer and memory that its contract allows: `reprice_rules!Any` has the
-- theorems about the definition. Assumes nothing.
use mathlib.Core.Path.{◌≡◌, sym, ap, ◌∙◌}
use mathlib.Core.List.{List}
use Prim.Native.Nat.{ℕ}
use lib.Ieee.{Float}
use Rattle.rules.specs.Plan.{Plan}
use Rattle.state.specs.Memory.{memory_in, past_of}
use Rattle.state.proofs.Memory.{cells_settle}
use Rattle.reprice_rules.specs.declared.AnyAnswer.{AnyAnswer}
use Rattle.reprice_rules.specs.Any.{any_plan}
use Rattle.any.specs.Handed.{HandedAny, handed_any, any_by}

-- the contract's equation, of the answer a and of what the call leaves, w, M, E, H and J
module _ (p : Plan) (v : List Float) (N : List ℕ) (D : List Float) (F : List ℕ) (G : List Float) where
  abbrev pub PromisedIn : AnyAnswer → List Float → List ℕ → List Float → List ℕ → List Float → Type 0
  PromisedIn a w M E H J = any_by a w M E H J ≡ handed_any (any_plan p (memory_in v N D F G)) (past_of N D)

  -- "every lent cell settled": any two results that it allows are equal, the answer and every cell, of arrays of any
  -- length
  pub cells_settled : (a b : AnyAnswer) (w x : List Float) (M L : List ℕ) (E K : List Float) (H S : List ℕ)
      (J T : List Float) → PromisedIn a w M E H J → PromisedIn b x L K S T
      → (a ≡ b) × (w ≡ x) × (M ≡ L) × (E ≡ K) × (H ≡ S) × (J ≡ T)
  cells_settled a b w x M L E K H S J T e f =
      let q : any_by a w M E H J ≡ any_by b x L K S T = e ∙ sym f in
      let z = cells_settle {v = w} {w = x} {N = M} {M = L} {D = E} {E = K} {F = H} {H = S} {G = J} {J = T}
      (ap (λ (h : HandedAny). h.called.memory) q) (ap (λ (h : HandedAny). h.past) q) in
      (ap (λ (h : HandedAny). h.called.answer) q, z.0, z.1, z.2, z.3, z.4)
