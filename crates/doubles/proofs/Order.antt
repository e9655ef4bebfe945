-- The order of doubles as the comparisons give it: `lt` goes on through `le`, is never true of a double and itself, and two doubles that aren't NaN are always in order.
-- All of it holds of any value, infinities and zeros of either sign included. Assumes nothing.
use mathlib.Core.Path.{◌≡◌, refl}
use mathlib.Core.Bool.{Bool, true, false, ◌&&◌, ◌||◌}
use mathlib.Core.Logic.{⊎_elim}
use Prim.Native.Nat.{ℕ, zero, suc, ◌+◌, ◌*◌, ◌<◌, ◌≤◌}
use native.Mathlib.Nat.{zero-mul, mul-pos, lt_of_not-le}
use native.Mathlib.Omega.{arith}
use borrow.Author.Tests.{ltb-true, ltb-false, eqb-true, lt-ltb, le-ltb, eq-eqb}
use lib.Dec.{ltb, eqb}
use lib.Ieee.{Float, nan, inf, fin, lt, eq, le, is_nan, up, down}
use lib.Ieee.Fits.{down_pos}
use lib.Ieee.Positive.{through, first_pos}
use Rattle.doubles.proofs.Loops.{both_true}
use Rattle.doubles.proofs.Tests.{not_both, either, false_by}

-- ---- fractions x / p, y / q, z / r
under : (x y z p q r : ℕ) → 0 < r → x * q < y * p → y * r ≤ z * q → x * r < z * p
under x y z p q r R h g = lt_of_not-le (λ k. omega (arith, through y z x q r p R g k))

over : (x y z p q r : ℕ) → 0 < r → y * p < x * q → z * q ≤ y * r → z * p < x * r
over x y z p q r R h g = lt_of_not-le (λ k. omega (arith, through x z y p r q R k g))

nothing : (m q p : ℕ) → 0 < q → m * q ≡ 0 → m * p ≡ 0
nothing zero q p Q h = zero-mul p
nothing (suc m) q p Q h = let some : 0 < suc m = omega arith in absurd (omega (arith, mul-pos some Q))

some : (m q p : ℕ) → 0 < p → 0 < m * q → 0 < m * p
some m q p P h = mul-pos (first_pos m q h) P

opposite : (x y z p q r : ℕ) → 0 < p → 0 < q → 0 < r → 0 < x * q + y * p → y * r ≤ z * q → 0 < x * r + z * p
opposite zero y z p q r P Q R h g =
    let a : 0 < y * r = some y p r R (omega (arith, zero-mul q)) in
    let b : 0 < z * p = some z q p P (omega arith) in
    omega arith
opposite (suc x) y z p q r P Q R h g = let a : 0 < suc x * r = mul-pos (omega arith) R in omega arith

pub le_means : (a b : ℕ) (c : Bool) → ltb a b || (eqb a b && c) ≡ true → a ≤ b
le_means a b c h =
    ⊎_elim (λ (t : ltb a b ≡ true). omega (arith, ltb-true a b t)) (λ t. omega (arith, eqb-true a b (both_true _ _ t).0)) (either _ _ h)

le_means_back : (a b : ℕ) (c : Bool) → ltb a b || (eqb b a && c) ≡ true → a ≤ b
le_means_back a b c h =
    ⊎_elim (λ (t : ltb a b ≡ true). omega (arith, ltb-true a b t)) (λ t. omega (arith, eqb-true b a (both_true _ _ t).0)) (either _ _ h)

fill : (a b c : Bool) → (a ≡ false → b ≡ true) → (a ≡ false → c ≡ true) → a || (b && c) ≡ true
fill true b c f g = refl
fill false b c f g = rw (f refl, g refl)

pub le_by : (a b : ℕ) → a ≤ b → ltb a b || (eqb a b && true) ≡ true
le_by a b h = fill (ltb a b) (eqb a b) true (λ t. eq-eqb a b (omega (arith, ltb-false a b t))) (λ t. refl)

le_back : (a b : ℕ) → a ≤ b → ltb a b || (eqb b a && true) ≡ true
le_back a b h = fill (ltb a b) (eqb b a) true (λ t. eq-eqb b a (omega (arith, ltb-false a b t))) (λ t. refl)

le_opposite : (a b : ℕ) → ltb 0 (a + b) || (eqb a b && eqb a 0) ≡ true
le_opposite a b =
    fill (ltb 0 (a + b)) (eqb a b) (eqb a 0) (λ t. eq-eqb a b (omega (arith, ltb-false 0 (a + b) t))) (λ t. eq-eqb a 0 (omega (arith, ltb-false 0 (a + b) t)))

-- ---- the laws
pub lt_le : (x y : Float) → lt x y ≡ true → le x y ≡ true
unfolding le
lt_le x y h = rw h

pub lt_irrefl : (x : Float) → lt x x ≡ false
unfolding lt
lt_irrefl nan = refl
lt_irrefl (inf true) = refl
lt_irrefl (inf false) = refl
lt_irrefl (fin true m e) = le-ltb (m * up e * down e) (m * up e * down e) (omega arith)
lt_irrefl (fin false m e) = le-ltb (m * up e * down e) (m * up e * down e) (omega arith)

pub lt_le_trans : (x y z : Float) → lt x y ≡ true → le y z ≡ true → lt x z ≡ true
unfolding lt eq le
lt_le_trans nan y z h g = cc
lt_le_trans (inf s) nan z h g = cc
lt_le_trans (inf true) (inf true) z h g = cc
lt_le_trans (inf true) (inf false) nan h g = cc
lt_le_trans (inf true) (inf false) (inf true) h g = cc
lt_le_trans (inf true) (inf false) (inf false) h g = refl
lt_le_trans (inf true) (inf false) (fin u k f) h g = cc
lt_le_trans (inf false) (inf t) z h g = cc
lt_le_trans (inf true) (fin t n d) nan h g = cc
lt_le_trans (inf true) (fin t n d) (inf true) h g = cc
lt_le_trans (inf true) (fin t n d) (inf false) h g = refl
lt_le_trans (inf true) (fin t n d) (fin u k f) h g = refl
lt_le_trans (inf false) (fin t n d) z h g = cc
lt_le_trans (fin s m e) nan z h g = cc
lt_le_trans (fin s m e) (inf true) z h g = cc
lt_le_trans (fin s m e) (inf false) nan h g = cc
lt_le_trans (fin s m e) (inf false) (inf true) h g = cc
lt_le_trans (fin s m e) (inf false) (inf false) h g = refl
lt_le_trans (fin s m e) (inf false) (fin u k f) h g = cc
lt_le_trans (fin s m e) (fin t n d) nan h g = cc
lt_le_trans (fin s m e) (fin t n d) (inf true) h g = cc
lt_le_trans (fin s m e) (fin t n d) (inf false) h g = refl
lt_le_trans (fin false m e) (fin false n d) (fin false k f) h g =
    lt-ltb _ _ (under (m * up e) (n * up d) (k * up f) (down e) (down d) (down f) (down_pos f) (ltb-true _ _ h) (le_means _ _ _ g))
lt_le_trans (fin false m e) (fin false n d) (fin true k f) h g =
    let none : n * up d * down f ≡ 0 = eqb-true (n * up d * down f) 0 (both_true (eqb (n * up d * down f) (k * up f * down d)) _ g).1 in
    absurd (omega (arith, ltb-true (m * up e * down d) (n * up d * down e) h, nothing (n * up d) (down f) (down e) (down_pos f) none))
lt_le_trans (fin false m e) (fin true n d) (fin u k f) h g = cc
lt_le_trans (fin true m e) (fin false n d) (fin false k f) h g =
    lt-ltb _ _ (opposite (m * up e) (n * up d) (k * up f) (down e) (down d) (down f) (down_pos e) (down_pos d) (down_pos f) (ltb-true _ _ h) (le_means _ _ _ g))
lt_le_trans (fin true m e) (fin false n d) (fin true k f) h g =
    let b = both_true (eqb (n * up d * down f) (k * up f * down d)) (eqb (n * up d * down f) 0) g in
    let none : n * up d * down f ≡ 0 = eqb-true _ 0 b.1 in
    let same : n * up d * down f ≡ k * up f * down d = eqb-true _ _ b.0 in
    let left : n * up d * down e ≡ 0 = nothing (n * up d) (down f) (down e) (down_pos f) none in
    let right : k * up f * down e ≡ 0 = nothing (k * up f) (down d) (down e) (down_pos d) (omega arith) in
    let big : 0 < m * up e * down f = some (m * up e) (down d) (down f) (down_pos f) (omega (arith, ltb-true 0 (m * up e * down d + n * up d * down e) h)) in
    lt-ltb (k * up f * down e) (m * up e * down f) (omega arith)
lt_le_trans (fin true m e) (fin true n d) (fin false k f) h g =
    let big : 0 < m * up e * down f = some (m * up e) (down d) (down f) (down_pos f) (omega (arith, ltb-true (n * up d * down e) (m * up e * down d) h)) in
    lt-ltb 0 (m * up e * down f + k * up f * down e) (omega arith)
lt_le_trans (fin true m e) (fin true n d) (fin true k f) h g =
    lt-ltb _ _ (over (m * up e) (n * up d) (k * up f) (down e) (down d) (down f) (down_pos f) (ltb-true _ _ h) (le_means_back _ _ _ g))

pub lt_trans : (x y z : Float) → lt x y ≡ true → lt y z ≡ true → lt x z ≡ true
lt_trans x y z h g = lt_le_trans x y z h (lt_le y z g)

pub le_total : (x y : Float) → is_nan x ≡ false → is_nan y ≡ false → lt x y ≡ false → le y x ≡ true
unfolding lt eq le is_nan
le_total nan y p q h = cc
le_total (inf s) nan p q h = cc
le_total (inf true) (inf true) p q h = refl
le_total (inf true) (inf false) p q h = cc
le_total (inf false) (inf true) p q h = refl
le_total (inf false) (inf false) p q h = refl
le_total (inf true) (fin t n d) p q h = cc
le_total (inf false) (fin t n d) p q h = refl
le_total (fin s m e) nan p q h = cc
le_total (fin s m e) (inf true) p q h = refl
le_total (fin s m e) (inf false) p q h = cc
le_total (fin false m e) (fin false n d) p q h = le_by _ _ (ltb-false (m * up e * down d) (n * up d * down e) h)
le_total (fin false m e) (fin true n d) p q h = le_opposite (n * up d * down e) (m * up e * down d)
le_total (fin true m e) (fin false n d) p q h =
    let a : ℕ = m * up e * down d in
    let b : ℕ = n * up d * down e in
    let z : b ≡ a = omega (arith, ltb-false 0 (a + b) h) in
    let w : b ≡ 0 = omega (arith, ltb-false 0 (a + b) h) in
    rw (eq-eqb b a z, eq-eqb b 0 w)
le_total (fin true m e) (fin true n d) p q h = le_back _ _ (ltb-false (n * up d * down e) (m * up e * down d) h)

-- what is above something isn't NaN
pub lt_number : (x y : Float) → lt x y ≡ true → is_nan y ≡ false
unfolding lt is_nan
lt_number nan y h = cc
lt_number (inf s) nan h = cc
lt_number (inf s) (inf t) h = refl
lt_number (inf s) (fin t n d) h = refl
lt_number (fin s m e) nan h = cc
lt_number (fin s m e) (inf t) h = refl
lt_number (fin s m e) (fin t n d) h = refl

pub le_not_lt : (x y : Float) → le x y ≡ true → lt y x ≡ false
le_not_lt x y h = false_by (λ g. not_both (lt_le_trans y x y g h) (lt_irrefl y))

-- doubles in order aren't NaN
pub le_numbers : (x y : Float) → le x y ≡ true → (is_nan x ≡ false) × (is_nan y ≡ false)
unfolding lt eq le is_nan
le_numbers nan y h = absurd (not_both h refl)
le_numbers (inf s) nan h = absurd (not_both h refl)
le_numbers (inf s) (inf t) h = (refl, refl)
le_numbers (inf s) (fin t n d) h = (refl, refl)
le_numbers (fin s m e) nan h = absurd (not_both h refl)
le_numbers (fin s m e) (inf t) h = (refl, refl)
le_numbers (fin s m e) (fin t n d) h = (refl, refl)

pub le_trans : (x y z : Float) → le x y ≡ true → le y z ≡ true → le x z ≡ true
le_trans x y z h g =
    le_total z x (le_numbers y z g).1 (le_numbers x y h).0
    (false_by (λ l. not_both (lt_le_trans z y z (lt_le_trans z x y l h) g) (lt_irrefl z)))
