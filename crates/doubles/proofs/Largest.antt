-- A loop that keeps the best so far: an index that passes the test, and whose key beats the kept one, takes its place. What it ends with, said apart from the loop.
-- Assumes nothing.
use mathlib.Core.Path.{◌≡◌, refl}
use mathlib.Core.Bool.{Bool, true, false, ◌&&◌}
use mathlib.Core.Logic.{⊎_elim}
use Prim.Native.Nat.{ℕ, zero, suc, ◌<◌}
use native.Mathlib.Nat.{eq-or-lt_of_le, le_of_suc-le-suc}
use native.Mathlib.Omega.{arith}
use lib.Ieee.{Float, lt, le, is_nan}
use Rattle.doubles.specs.Loop.{run}
use Rattle.doubles.specs.Words.{FirstLargest}
use Rattle.doubles.proofs.Loops.{both_true}
use Rattle.doubles.proofs.Tests.{false_by, not_both}
use Rattle.doubles.proofs.Order.{lt_le, lt_irrefl, lt_trans, lt_le_trans, le_total}

-- what the law asks of the comparison: `ties x y` holds where x beats y, and may hold where neither beats the other
pub record Order (beats ties : Float → Float → Bool) : Type 0 where
  pub covers : (x y : Float) → beats x y ≡ true → ties x y ≡ true
  pub carries : (x y z : Float) → ties x y ≡ true → beats y z ≡ true → beats x z ≡ true
  pub never : (x : Float) → beats x x ≡ false

-- "strictly largest"
abbrev pub above : Float → Float → Bool
above x y = lt y x

abbrev pub at_least : Float → Float → Bool
at_least x y = le y x

pub by_above : Order above at_least
by_above = record { covers = λ x y h. lt_le y x h; carries = λ x y z h g. lt_le_trans z y x g h; never = lt_irrefl }

-- "strictly smaller"
pub by_below : Order lt lt
by_below = record { covers = λ x y h. h; carries = lt_trans; never = lt_irrefl }

-- Of the indices below n that pass: none has a key that beats the start's, and s is the start; or k has one that no other one's beats, none before k has one
-- that ties with it, and s is what k makes.
pub data Best {S : Type 0} (beats ties : Float → Float → Bool) (test : ℕ → Bool) (key : ℕ → Float) (made : ℕ → S) (x : Float) (s₀ : S) (n : ℕ) : S → Type 0 where
  kept : ((j : ℕ) → j < n → test j ≡ true → beats (key j) x ≡ false) → Best beats ties test key made x s₀ n s₀
  took : (k : ℕ) → k < n → test k ≡ true → beats (key k) x ≡ true
      → ((j : ℕ) → j < n → test j ≡ true → beats (key j) (key k) ≡ false)
      → ((j : ℕ) → j < k → test j ≡ true → ties (key j) (key k) ≡ false)
      → Best beats ties test key made x s₀ n (made k)

module _ {S : Type 0} {beats ties : Float → Float → Bool} (o : Order beats ties) (test : ℕ → Bool) (key : ℕ → Float)
    (val : S → Float) (made : ℕ → S) (made_val : (k : ℕ) → val (made k) ≡ key k)
    (turn : ℕ → S → S) (is : (k : ℕ) (s : S) → turn k s ≡ elim (test k && beats (key k) (val s)) [ true ↦ made k | false ↦ s ])
    (s₀ : S) where
  -- one index more, which doesn't beat x either
  stays : (n : ℕ) (x : Float) → ((j : ℕ) → j < n → test j ≡ true → beats (key j) x ≡ false) → (test n ≡ true → beats (key n) x ≡ false)
      → (j : ℕ) → j < suc n → test j ≡ true → beats (key j) x ≡ false
  stays n x h q j l t =
      ⊎_elim (λ (e : j ≡ n). rw e (q (rw e at t))) (λ (k : j < n). h j k t) (eq-or-lt_of_le (le_of_suc-le-suc l))

  -- n beats x, which no index before it does
  takes : (n : ℕ) (x : Float) → ((j : ℕ) → j < n → test j ≡ true → beats (key j) x ≡ false) → test n ≡ true → beats (key n) x ≡ true
      → beats (key n) (val s₀) ≡ true → Best beats ties test key made (val s₀) s₀ (suc n) (made n)
  takes n x h t b a = took n (omega arith) t a (stays n (key n) (λ j l u. weaker j (first j l u)) (λ u. o.never (key n))) first
    where
      first : (j : ℕ) → j < n → test j ≡ true → ties (key j) (key n) ≡ false
      first j l u = false_by (λ c. not_both (o.carries (key j) (key n) x c b) (h j l u))

      weaker : (j : ℕ) → ties (key j) (key n) ≡ false → beats (key j) (key n) ≡ false
      weaker j q = false_by (λ c. not_both (o.covers (key j) (key n) c) q)

  fails : (n : ℕ) (x : Float) → test n && beats (key n) x ≡ false → test n ≡ true → beats (key n) x ≡ false
  fails n x q t = rw (← q, t)

  pub best : (n : ℕ) → Best beats ties test key made (val s₀) s₀ n (run turn n s₀)
  unfolding run
  best zero = kept (λ j l. absurd (omega arith))
  best (suc n) =
      rw (is n (run turn n s₀)) (go (run turn n s₀) (best n) (test n && beats (key n) (val (run turn n s₀))) refl)
    where
      go : (s : S) → Best beats ties test key made (val s₀) s₀ n s → (b : Bool) → test n && beats (key n) (val s) ≡ b
          → Best beats ties test key made (val s₀) s₀ (suc n) (elim b [ true ↦ made n | false ↦ s ])
      go _ (kept h) false q = kept (stays n (val s₀) h (fails n (val s₀) q))
      go _ (kept h) true q = let b = both_true (test n) _ q in takes n (val s₀) h b.0 b.1 b.1
      go _ (took k l t a h f) false q = took k (omega arith) t a (stays n (key k) h (fails n (key k) (rw (made_val k) at q))) f
      go _ (took k l t a h f) true q =
          let b = both_true (test n) (beats (key n) (key k)) (rw (made_val k) at q) in
          takes n (key k) h b.0 b.1 (o.carries (key n) (key k) (val s₀) (o.covers _ _ b.1) a)

-- there is one first largest at most, keys that are NaN aside
module _ {test : ℕ → Bool} {key : ℕ → Float} {n : ℕ} where
  later : {k j : ℕ} → FirstLargest test key n k → FirstLargest test key n j → is_nan (key k) ≡ false → is_nan (key j) ≡ false → k < j → ⊥
  later {k} {j} a b p q l =
      not_both (le_total (key k) (key j) p q (a.largest j b.inside b.passes)) (b.first k l a.passes)

  pub only_one : {k j : ℕ} → FirstLargest test key n k → FirstLargest test key n j → is_nan (key k) ≡ false → is_nan (key j) ≡ false → k ≡ j
  only_one {k} {j} a b p q =
      let f : k < j → ⊥ = later a b p q in
      let g : j < k → ⊥ = later b a q p in
      omega arith
