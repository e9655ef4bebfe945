-- The definitions keep the promises, and nothing else does. Assumes nothing.
use Rattle.std.proofs.Common.{◌≡◌, ℕ, zero, suc, ◌*◌, Bool, true, false, cond, not, T, ℤ, pos, ◌*ℤ◌, neg_ℤ, nat_abs, ◌≤ℤ◌, ◌<ℤ◌, sym, refl, ap, subst, ⊎_elim}
use lib.Signed.{lt_z, lt_z_yes, lt_z_no, clash_ℤ}
use lib.Ieee.{Float, nan, inf, fin}
use Rattle.doubles.specs.Limits.{max_multiplier, unit}
use Rattle.doubles.specs.Exact.{signed}
use Rattle.doubles.proofs.Bools.{truth}
use Rattle.sheet_rules.specs.Sheet.{wrong}
use Rattle.whole_round.specs.declared.Rounded.{Rounded}
use Rattle.whole_round.specs.declared.Rounded.TheVariants.{Whole, Beyond, NotANumber}
use Rattle.whole_round.specs.Whole.{Nearest, Answer, Rounds, Scales, Moved, Multiplies, scaled, whole_of, held}
use Rattle.whole_round.specs.Whole.{round_even, scaled_of, right_sign, multiplier_of}
use Rattle.whole_round.proofs.Unique.{is_nearest, one_nearest}

-- ---- of an exact value n * 2 ^ e whose nearest whole number is w
module _ (limit n e w : ℤ) (y : Float) (is : Nearest n e w) where
  answers : Answer limit n e y (held limit w y)
  unfolding held
  answers = go (lt_z limit (pos (nat_abs w))) refl
    where
      go : (b : Bool) → lt_z limit (pos (nat_abs w)) ≡ b → Answer limit n e y (held limit w y)
      go true h =
          rw h
          (refl, λ v x. subst (λ (z : ℤ). limit <ℤ pos (nat_abs z)) (one_nearest n e w v is x) (lt_z_yes (subst T (sym h) tt)))
      go false h = rw h (is, lt_z_no (subst (λ (b : Bool). T (not b)) (sym h) tt))

  one_answer : (r : Rounded) → Answer limit n e y r → r ≡ held limit w y
  unfolding held
  one_answer (Whole v) a = go (lt_z limit (pos (nat_abs w))) lt_z_yes
    where
      same : v ≡ w
      same = one_nearest n e v w a.0 is

      go : (b : Bool) → (T b → limit <ℤ pos (nat_abs w)) → Whole v ≡ cond b (Beyond y) (Whole w)
      go true h = clash_ℤ (h tt) (subst (λ (z : ℤ). pos (nat_abs z) ≤ℤ limit) same a.1)
      go false h = ap Whole same
  one_answer (Beyond z) a = go (lt_z limit (pos (nat_abs w))) lt_z_no
    where
      go : (b : Bool) → (T (not b) → pos (nat_abs w) ≤ℤ limit) → Beyond z ≡ cond b (Beyond y) (Whole w)
      go true h = ap Beyond a.0
      go false h = clash_ℤ (a.1 w is) (h tt)
  one_answer NotANumber a = absurd a

-- ---- of a double
pub rounds : (limit : ℤ) (x : Float) → Rounds limit x (round_even limit x)
unfolding round_even
rounds limit nan = refl
rounds limit (inf s) = refl
rounds limit (fin s m e) = answers limit (signed s m) e (whole_of s m e) (fin s m e) (is_nearest s m e)

pub rounds_one : (limit : ℤ) (x : Float) (r : Rounded) → Rounds limit x r → r ≡ round_even limit x
unfolding round_even
rounds_one limit nan r a = a
rounds_one limit (inf s) r a = a
rounds_one limit (fin s m e) r a = one_answer limit (signed s m) e (whole_of s m e) (fin s m e) (is_nearest s m e) r a

-- ---- of a price
times : (s : Bool) (m : ℕ) → neg_ℤ (pos unit) *ℤ signed s m ≡ signed (not s) (unit * m)
times false m = refl
times true zero = refl
times true (suc m) = refl

nearest_times : (s : Bool) (m : ℕ) (e : ℤ) → Nearest (neg_ℤ (pos unit) *ℤ signed s m) e (whole_of (not s) (unit * m) e)
nearest_times s m e = rw (times s m) (is_nearest (not s) (unit * m) e)

scales : (x : Float) → Scales x (scaled_of x)
unfolding scaled_of
scales nan = refl
scales (inf s) = refl
scales (fin s m e) =
    answers (pos max_multiplier) (neg_ℤ (pos unit) *ℤ signed s m) e (whole_of (not s) (unit * m) e) (scaled (fin s m e))
    (nearest_times s m e)

scales_one : (x : Float) (r : Rounded) → Scales x r → r ≡ scaled_of x
unfolding scaled_of
scales_one nan r a = a
scales_one (inf s) r a = a
scales_one (fin s m e) r a =
    one_answer (pos max_multiplier) (neg_ℤ (pos unit) *ℤ signed s m) e (whole_of (not s) (unit * m) e)
    (scaled (fin s m e)) (nearest_times s m e) r a

-- ---- of a price in a row
signs : (op : ℕ) (x : Float) (q : Rounded) → Scales x q → Multiplies op x (right_sign op q)
unfolding right_sign
signs op x (Whole w) a = (w, a, record { kept = λ h. rw h; dropped = λ h. rw h })
signs op x (Beyond z) a = a
signs op x NotANumber a = a

pub multiplies : (op : ℕ) (x : Float) → Multiplies op x (multiplier_of op x)
unfolding multiplier_of
multiplies op x = signs op x (scaled_of x) (scales x)

moved_is : {op : ℕ} {w v : ℤ} → Moved op w v → v ≡ cond (wrong op w) (pos 0) w
moved_is {op} {w} m = ⊎_elim (λ h. rw h (m.dropped h)) (λ h. rw h (m.kept h)) (truth (wrong op w))

pub multiplies_one : (op : ℕ) (x : Float) (r : Rounded) → Multiplies op x r → r ≡ multiplier_of op x
unfolding right_sign multiplier_of
multiplies_one op x (Whole v) a = rw (← scales_one x (Whole a.0) a.1) (ap Whole (moved_is a.2))
multiplies_one op x (Beyond z) a = rw (← scales_one x (Beyond z) a)
multiplies_one op x NotANumber a = rw (← scales_one x NotANumber a)
