-- Doubles to whole numbers. A finite double is `fin s m e`, the number m * 2 ^ e, negative where s is true; 2 ^ e is
-- the
-- fraction up e / down e. Assumes nothing.
use Rattle.std.specs.Prelude.{◌≡◌, ℕ, ◌*◌, ◌%◌, ◌^◌, ◌<◌, ◌≤◌, Bool, true, false, cond, not, ℤ, pos, ◌*ℤ◌, neg_ℤ, ◌≤ℤ◌, ◌<ℤ◌, int_lt, unsigned_abs, Float}
use Rattle.std.specs.Float.{nan, inf, fin, binary64}
use Rattle.std.specs.Float.Ieee.{up, down, mul}
use Rattle.std.specs.Float.Ieee.Nearest.{closest}
use Rattle.std.specs.Float.Ieee.Positive.{num, den}
use Rattle.doubles.specs.Limits.{max_amount, max_multiplier, unit}
use Rattle.doubles.specs.Exact.{signed, gap}
use Rattle.sheet_rules.specs.Sheet.{wrong}
use Rattle.whole_round.specs.declared.Rounded.{Rounded}
use Rattle.whole_round.specs.declared.Rounded.TheVariants.{Whole, Beyond, NotANumber}

-- the double -1024 * x
abbrev pub scaled : Float → Float
scaled x = mul binary64 x (fin true 1 (pos 10))

-- ---- what is promised
-- how far the whole number w is from n * 2 ^ e, in units of 1 / down e
abbrev pub away : (n e w : ℤ) → ℕ
away n e w = gap n e w 1

-- w is the whole number nearest to n * 2 ^ e: none is nearer, and where another is as near, w is the even one
pub record Nearest (n e w : ℤ) : Type 0 where
  pub none_nearer : (v : ℤ) → away n e w ≤ away n e v
  pub even : (v : ℤ) → ¬ (v ≡ w) → away n e v ≡ away n e w → unsigned_abs w % 2 ≡ 0

-- the answer for the exact value n * 2 ^ e: the nearest whole number, where its size is within the limit; y is the
-- double that Beyond hands out
abbrev pub Answer : (limit n e : ℤ) → Float → Rounded → Type 0
Answer limit n e y (Whole w) = Nearest n e w × (pos (unsigned_abs w) ≤ℤ limit)
Answer limit n e y (Beyond z) = (z ≡ y) × ((w : ℤ) → Nearest n e w → limit <ℤ pos (unsigned_abs w))
Answer limit n e y NotANumber = ⊥

-- of a double x
abbrev pub Rounds : (limit : ℤ) → Float → Rounded → Type 0
Rounds limit nan r = r ≡ NotANumber
Rounds limit (inf s) r = r ≡ Beyond (inf s)
Rounds limit (fin s m e) r = Answer limit (signed s m) e (fin s m e) r

-- of a price, before its row's comparison is looked at: the exact value is -1024 * n * 2 ^ e
abbrev pub Scales : Float → Rounded → Type 0
Scales nan r = r ≡ NotANumber
Scales (inf s) r = r ≡ Beyond (inf (not s))
Scales (fin s m e) r = Answer (pos max_multiplier) (neg_ℤ (pos unit) *ℤ signed s m) e (scaled (fin s m e)) r

-- 02: "then moved to 0 where the sign is wrong": the sheet's own test says which sign is
pub record Moved (op : ℕ) (w v : ℤ) : Type 0 where
  pub kept : wrong op w ≡ false → v ≡ w
  pub dropped : wrong op w ≡ true → v ≡ pos 0

-- of a price in a row with the comparison op: a sign is looked at only where the number is whole
abbrev pub Multiplies : ℕ → Float → Rounded → Type 0
Multiplies op x (Whole v) = (w : ℤ) × Scales x (Whole w) × Moved op w v
Multiplies op x (Beyond z) = Scales x (Beyond z)
Multiplies op x NotANumber = Scales x NotANumber

-- ---- what is worked out: the one answer that keeps the promise (proofs/Meaning.antt)
-- the whole number nearest to ± n * 2 ^ e
unfoldable pub whole_of : Bool → ℕ → ℤ → ℤ
whole_of s n e = signed s (closest (n * up e) (down e))

-- w, or the double y where w is past the limit in size
unfoldable pub held : ℤ → ℤ → Float → Rounded
held limit w y = cond (int_lt limit (pos (unsigned_abs w))) (Beyond y) (Whole w)

unfoldable pub round_even : ℤ → Float → Rounded
round_even limit nan = NotANumber
round_even limit (inf s) = Beyond (inf s)
round_even limit (fin s m e) = held limit (whole_of s m e) (fin s m e)

unfoldable pub amount_of : Float → Rounded
amount_of x = round_even (pos max_amount) x

unfoldable pub scaled_of : Float → Rounded
scaled_of nan = NotANumber
scaled_of (inf s) = Beyond (inf (not s))
scaled_of (fin s m e) = held (pos max_multiplier) (whole_of (not s) (unit * m) e) (scaled (fin s m e))

unfoldable pub right_sign : ℕ → Rounded → Rounded
right_sign op (Whole w) = Whole (cond (wrong op w) (pos 0) w)
right_sign op (Beyond x) = Beyond x
right_sign op NotANumber = NotANumber

unfoldable pub multiplier_of : ℕ → Float → Rounded
multiplier_of op x = right_sign op (scaled_of x)

-- ---- of an answer
unfoldable pub is_whole : Rounded → Bool
is_whole (Whole w) = true
is_whole (Beyond x) = false
is_whole NotANumber = false

-- the whole number, 0 where there is none
unfoldable pub number_of : Rounded → ℤ
number_of (Whole w) = w
number_of (Beyond x) = pos 0
number_of NotANumber = pos 0

-- ---- of a double from 0 up, for `nearest`
pub record Nearby (a : Float) (r : ℕ) : Type 0 where
  pub is : r ≡ closest (num a) (den a)
  pub small : r < 2 ^ 63
