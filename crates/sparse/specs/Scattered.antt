-- A scattered vector: values, a mark for each place, and the list of the touched places, `count` of them.
-- 01: "A touched list grows at first touch; a place that becomes 0.0 stays (ours)". From minilp 0.2.2, src/sparse.rs, Apache-2.0, changed. Assumes nothing.
use Rattle.std.specs.Prelude.{◌≡◌, Bool, true, false, List, [], ◌∷◌, ℕ, suc, ◌+◌, ◌<◌, ◌≤◌, length, get_or, set, take, replicate, Float}
use Rattle.doubles.specs.Num.{◌⊕◌, ◌⊖◌, ◌⊗◌, f0, finite}
use Rattle.doubles.specs.Limits.{places}
use Rattle.doubles.specs.Loop.{run, all}
use Rattle.doubles.specs.Lists.{◌!◌, ◌#◌}

-- is_nonzero, nonzero and how many places of the list are in use
pub record Pat : Type 0 where
  pub marks : List Bool
  pub list : List ℕ
  pub count : ℕ

abbrev pub pat : List Bool → List ℕ → ℕ → Pat
pat m l n = record { marks = m; list = l; count = n }

pub record Sv : Type 0 where
  pub vals : List Float
  pub pat : Pat

abbrev pub sv_of : List Float → Pat → Sv
sv_of v p = record { vals = v; pat = p }

abbrev pub sv : List Float → List Bool → List ℕ → ℕ → Sv
sv v m l n = sv_of v (pat m l n)

-- every place 0.0, none touched: what fresh arrays hold
abbrev pub blank : Sv
blank = sv (replicate places f0) (replicate places false) (replicate places 0) 0

-- by the mark: as it was, or marked and appended to the list
abbrev pub touched_by : Bool → Pat → ℕ → Pat
touched_by true p i = p
touched_by false p i = pat (set p.marks i true) (set p.list p.count i) (p.count + 1)

unfoldable pub touched : Pat → ℕ → Pat
touched p i = touched_by (get_or p.marks i false) p i

-- `*get_mut(i) = x`
unfoldable pub put_at : Sv → ℕ → Float → Sv
put_at s i x = sv_of (set s.vals i x) (touched s.pat i)

-- `*get_mut(i) += x`, `*get_mut(i) -= x`
abbrev pub add_at : Sv → ℕ → Float → Sv
add_at s i x = put_at s i (s.vals ! i ⊕ x)

abbrev pub sub_at : Sv → ℕ → Float → Sv
sub_at s i x = put_at s i (s.vals ! i ⊖ x)

-- x times a column taken off, in its order; a place is touched even where x is 0.0
abbrev pub take_turn : Float → List ℕ → List Float → ℕ → Sv → Sv
take_turn x rows coeffs k s = sub_at s (rows # k) (x ⊗ coeffs ! k)

unfoldable pub take_off : Float → List ℕ → List Float → Sv → Sv
take_off x rows coeffs s = run (take_turn x rows coeffs) (length rows) s

-- the k-th listed place, and the value there
abbrev pub listed : Sv → ℕ → ℕ
listed s k = s.pat.list # k

abbrev pub listed_val : Sv → ℕ → Float
listed_val s k = s.vals ! listed s k

-- `set`: the values xs, `n` of them, put at the places `at`
abbrev pub put_turn : List ℕ → List Float → ℕ → Sv → Sv
put_turn at xs k s = put_at s (at # k) (xs ! k)

unfoldable pub loaded : List ℕ → List Float → ℕ → Sv → Sv
loaded at xs n s = run (put_turn at xs) n s

-- `clear`: the listed places set back to 0.0 and unmarked, and the list emptied. The list is read as it was
abbrev pub clear_turn : List ℕ → ℕ → Sv → Sv
clear_turn l k s = sv_of (set s.vals (l # k) f0) (pat (set s.pat.marks (l # k) false) s.pat.list s.pat.count)

unfoldable pub cleared : Sv → Sv
cleared s = let t = run (clear_turn s.pat.list) s.pat.count s in sv t.vals t.pat.marks t.pat.list 0

-- `sq_norm`: 01: "Sums start at 0.0 and follow entry or listed order"
abbrev pub square_turn : Sv → ℕ → Float → Float
square_turn s k t = t ⊕ listed_val s k ⊗ listed_val s k

unfoldable pub sq_norm : Sv → Float
sq_norm s = run (square_turn s) s.pat.count f0

-- the sum of coefficient times value, from 0.0, in order
abbrev pub dot_turn : List ℕ → List Float → List Float → ℕ → Float → Float
dot_turn at xs v k t = t ⊕ xs ! k ⊗ v ! (at # k)

unfoldable pub dot : List ℕ → List Float → List Float → Float
dot at xs v = run (dot_turn at xs v) (length at) f0

-- the listed values, in listed order, put onto a fresh vector
unfoldable pub relisted : Sv → Sv
relisted c = run (λ k t. put_at t (listed c k) (listed_val c k)) c.pat.count blank

-- every listed entry is finite
unfoldable pub listed_finite : Sv → Bool
listed_finite s = all s.pat.count (λ k. finite (listed_val s k))

-- ---- what is always true of a vector

-- how many marks are set
unfoldable pub trues : List Bool → ℕ
trues [] = 0
trues (true ∷ m) = suc (trues m)
trues (false ∷ m) = trues m

-- the places of l are marked, each once, and no other place is
unfoldable pub Built : List ℕ → List Bool → Type 0
unfolding trues
Built [] m = trues m ≡ 0
Built (i ∷ l) m = (i < length m) × (get_or m i false ≡ true) × Built l (set m i false)

-- a pattern in order, of n cells
pub record Wf (n : ℕ) (p : Pat) : Type 0 where
  pub marks_long : length p.marks ≡ n
  pub list_long : length p.list ≡ n
  pub within : p.count ≤ n
  pub built : Built (take p.count p.list) p.marks

-- a vector in order, of n cells: a place that is not marked is 0.0
pub record Good (n : ℕ) (s : Sv) : Type 0 where
  pub vals_long : length s.vals ≡ n
  pub wf : Wf n s.pat
  pub zeros : (j : ℕ) → j < n → get_or s.pat.marks j false ≡ false → s.vals ! j ≡ f0

-- the vector is a fresh one
pub record Fresh (s : Sv) : Type 0 where
  pub fresh : s ≡ blank

-- every listed place is below m
pub record Below (m : ℕ) (s : Sv) : Type 0 where
  pub below : (k : ℕ) → k < s.pat.count → listed s k < m

-- the first n places of a list are below m
pub record Within (m n : ℕ) (at : List ℕ) : Type 0 where
  pub inside : (k : ℕ) → k < n → at # k < m
