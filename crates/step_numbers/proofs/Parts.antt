-- What callers use: the tests of the whole state from the parts that are lent, and what they ask, from vectors that fit. Assumes nothing.
use mathlib.Core.Path.{◌≡◌, refl}
use mathlib.Core.List.{List, []}
use Prim.Native.Nat.{ℕ, ◌+◌, ◌≤◌}
use native.Mathlib.Omega.{arith}
use lib.ListN.{length}
use lib.Ieee.{Float}
use Rattle.sparse.specs.Scattered.{Sv}
use Rattle.sparse.proofs.Laws.{wf_listed}
use Rattle.rules.specs.Plan.{Problem, State}
use Rattle.rules.specs.Parts.{state_of}
use Rattle.rules.specs.Pivot.{new_objective, moved_val, flip_finite, new_val, new_price, new_norm, numbers_finite}
use Rattle.rules.specs.Invariant.{Vector}
use Rattle.rules.proofs.Vectors.{vector_once}
use Rattle.rules.specs.declared.Entering.{Entering}
use Rattle.state.specs.Packed.{section}
use Rattle.state.proofs.Sections.{section_length}
use Rattle.step_numbers.specs.Lent.{numbers_of, Listing}

-- what the functions ask, of a vector whose places are below m and an array of at least m cells
pub vector_listing : {m : ℕ} (c : Sv) (cells : ℕ) → Vector m c → m ≤ cells → Listing cells c.pat.count c.pat.list
vector_listing c cells v h =
    record {
      few = v.good.wf.within;
      place = wf_listed c.pat v.good.wf;
      cell = λ k l. omega (arith, v.places_below.below k l);
      once = vector_once c v;
    }

-- what they ask of a section that is lent
pub listing_in : (a k : ℕ) (xs : List Float) {n : ℕ} {list : List ℕ} → a + k ≤ length xs → Listing k n list → Listing (length (section a k xs)) n list
listing_in a k xs h l = rw (section_length a k xs h) l

-- the tests, of the parts and of the whole
module _ (P Q : Problem) (s : State) (e : Entering) (c : Sv) (value diff : Float) where
  pub flip_finite_part : flip_finite P s e c value diff ≡ flip_finite Q (state_of (numbers_of s.ws.basic_var_vals [] []) 0 s.objective 0) e c value diff
  unfolding flip_finite new_objective moved_val
  flip_finite_part = refl

  pub numbers_finite_part : (rowSv helper : Sv) (row : ℕ) (pivot leaving : Float)
      → numbers_finite P s e c rowSv helper value diff row pivot leaving
      ≡ numbers_finite Q (state_of (numbers_of s.ws.basic_var_vals s.ws.prices s.ws.norms) 0 s.objective 0) e c rowSv helper value diff row pivot leaving
  unfolding numbers_finite new_objective new_val moved_val new_price new_norm
  numbers_finite_part rowSv helper row pivot leaving = refl
