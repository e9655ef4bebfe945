-- Solves of a triangle that is stored by columns, sparse and dense. From minilp 0.2.2, src/lu.rs, Apache-2.0, changed. Assumes nothing.
use Rattle.std.specs.Prelude.{◌≡◌, Bool, true, false, List, ℕ, ◌+◌, ◌<◌, ◌≤◌, length, get_or, set, replicate, Float}
use Rattle.doubles.specs.Num.{◌⊖◌, ◌⊗◌, ◌⊘◌, f0}
use Rattle.doubles.specs.Limits.{max_rows}
use Rattle.doubles.specs.Loop.{run, down}
use Rattle.doubles.specs.Lists.{◌!◌, ◌#◌}
use Rattle.sparse.specs.Scattered.{Pat, pat, touched, trues}
use Rattle.lu_walk.specs.Walk.{Shape, shape, State, fresh, many, kid, reached, Columns, Listed}

-- a triangle with its numbers. Without a diagonal (an exported call's with_diag is 0) it is all ones there, and `diag` isn't read (ours)
pub record Tri : Type 0 where
  pub shape : Shape
  pub vals : List Float
  pub has_diag : Bool
  pub diag : List Float

abbrev pub tri : Bool → ℕ → List ℕ → List ℕ → List Float → Bool → List Float → Tri
tri l n s r v h d = record { shape = shape l n s r; vals = v; has_diag = h; diag = d }

-- tri_solve_process_col: the column's own place is divided by its diagonal, and that number, times each entry, is taken off the entry's row
abbrev pub divided_by : Bool → Float → Float → Float
divided_by true x d = x ⊘ d
divided_by false x d = x

abbrev pub own_of : Tri → ℕ → List Float → Float
own_of t c v = divided_by t.has_diag (v ! c) (t.diag ! c)

abbrev pub off_turn : Tri → ℕ → Float → ℕ → List Float → List Float
off_turn t c x k v = set v (kid t.shape c k) (v ! kid t.shape c k ⊖ x ⊗ (t.vals ! (t.shape.starts # c + k)))

unfoldable pub process_col : Tri → ℕ → List Float → List Float
process_col t c v = run (off_turn t c (own_of t c v)) (many t.shape c) (set v c (own_of t c v))

-- the dense solve: a lower triangle's columns rising, an upper one's falling
abbrev pub dense_by : Bool → Tri → List Float → List Float
dense_by true t v = run (process_col t) t.shape.size v
dense_by false t v = down (process_col t) t.shape.size v

unfoldable pub dense : Tri → List Float → List Float
dense t v = dense_by t.shape.lower t v

-- is_nonzero of the given list
abbrev pub mark_turn : List ℕ → ℕ → List Bool → List Bool
mark_turn l k m = set m (l # k) true

unfoldable pub given : List ℕ → ℕ → List Bool
given l n = run (mark_turn l) n (replicate max_rows false)

-- 01: "Unlisted places count as 0.0", whatever they hold. Every place of the triangle is written: one that is neither listed nor visited holds 0.0
-- afterwards (ours)
abbrev pub held_by : Bool → Float → Float
held_by true x = x
held_by false x = f0

abbrev pub zero_turn : List Bool → ℕ → List Float → List Float
zero_turn g i v = set v i (held_by (get_or g i false) (v ! i))

unfoldable pub zeroed : List Bool → ℕ → List Float → List Float
zeroed g n v = run (zero_turn g) n v

-- 01: "Processing is the reverse of finishing order (ours), each column as tri_solve_process_col"
abbrev pub back_turn : Tri → List ℕ → ℕ → List Float → List Float
back_turn t d k v = process_col t (d # k) v

unfoldable pub processed : Tri → List ℕ → ℕ → List Float → List Float
processed t d n v = down (back_turn t d) n v

-- the list afterwards: the given one, then the newly visited places in finishing order
abbrev pub grow_turn : List ℕ → ℕ → Pat → Pat
grow_turn d k p = touched p (d # k)

unfoldable pub grown : List ℕ → ℕ → Pat → Pat
grown d n p = run (grow_turn d) n p

-- what the sparse solve leaves
pub record Out : Type 0 where
  pub values : List Float
  pub list : List ℕ
  pub count : ℕ

abbrev pub out : List Float → List ℕ → ℕ → Out
out v l n = record { values = v; list = l; count = n }

abbrev pub sparse_with : Tri → List Bool → State → List ℕ → ℕ → List Float → Out
sparse_with t g w l n v =
    let p = grown w.done w.count (pat g l n) in
    out (processed t w.done w.count (zeroed g t.shape.size v)) p.list p.count

unfoldable pub sparse : Tri → List ℕ → ℕ → List Float → Out
sparse t l n v = sparse_with t (given l n) (reached t.shape l n fresh) l n v

-- ---- what the solves ask

-- the numbers of a triangle in order, and a vector to solve for
pub record Numbers (t : Tri) (v : List Float) : Type 0 where
  pub columns : Columns t.shape
  pub vals_long : (j : ℕ) → j < t.shape.size → t.shape.starts # (j + 1) ≤ length t.vals
  pub diag_long : t.has_diag ≡ true → t.shape.size ≤ length t.diag
  pub values_long : t.shape.size ≤ length v

-- the first m of d are places of the triangle
pub record Places (n m : ℕ) (d : List ℕ) : Type 0 where
  pub in_list : m ≤ max_rows
  pub in_size : n ≤ max_rows
  pub places : (k : ℕ) → k < m → d # k < n

-- as many places are listed as marked, all below n, and the list has n cells or more: an append always fits
pub record Grows (n : ℕ) (p : Pat) : Type 0 where
  pub marks_long : length p.marks ≡ max_rows
  pub list_long : n ≤ length p.list
  pub counted : p.count ≡ trues p.marks
  pub below : (q : ℕ) → get_or p.marks q false ≡ true → q < n

pub record Growable (d : List ℕ) (m : ℕ) (p : Pat) : Type 0 where
  pub size : ℕ
  pub grows : Grows size p
  pub places : Places size m d

-- what one append asks
pub record Touchable (p : Pat) (i : ℕ) : Type 0 where
  pub inside : i < max_rows
  pub room : get_or p.marks i false ≡ false → p.count < length p.list

-- the list names places of the triangle, none twice
pub record Distinct (t : Shape) (l : List ℕ) (n : ℕ) : Type 0 where
  pub listed : Listed t l n
  pub roomy : t.size ≤ length l
  pub once : (j k : ℕ) → j < n → k < n → l # j ≡ l # k → j ≡ k
