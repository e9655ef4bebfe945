-- The post-order walk of places with children: of a triangular matrix that is stored by columns, and of L while a basis
-- is factored. 01: "columns are walked from each listed place. The walk finishes every child of a place before the
-- place itself; children come in stored order, visited places once". 02: "Row map and filter in MarkNonzero.run come
-- back for this". From minilp 0.2.2, src/lu.rs (MarkNonzero), Apache-2.0, changed: a walk that calls itself stands for
-- the stack of steps. Assumes nothing.
use Rattle.std.specs.Prelude.{◌≡◌, Bool, true, false, List, ℕ, zero, suc, ◌+◌, ◌-◌, ◌<◌, ◌≤◌, ltb, length, get_or, set, replicate}
use Rattle.doubles.specs.Limits.{max_rows}
use Rattle.doubles.specs.Loop.{run}
use Rattle.doubles.specs.Lists.{◌#◌}
use Rattle.sparse.specs.Scattered.{trues}

-- Places with children: place p has `many` p of them, and `kid` p i is the i-th. `left` p is what is left below or
-- above p.
pub record Graph : Type 0 where
  pub size : ℕ
  pub many : ℕ → ℕ
  pub kid : ℕ → ℕ → ℕ
  pub left : ℕ → ℕ

-- the numbers left below p, up to n, in a lower triangle; above p, p itself counted, in an upper one
abbrev pub left_by : Bool → ℕ → ℕ → ℕ
left_by true n p = n - p
left_by false n p = suc p

-- ---- a triangle: the off-diagonal rows of column p are those from `starts` p up to `starts` (p + 1)
pub record Shape : Type 0 where
  pub lower : Bool
  pub size : ℕ
  pub starts : List ℕ
  pub rows : List ℕ

abbrev pub shape : Bool → ℕ → List ℕ → List ℕ → Shape
shape l n s r = record { lower = l; size = n; starts = s; rows = r }

-- how many entries column p has, and the row of the i-th of them: a child of p
abbrev pub many : Shape → ℕ → ℕ
many t p = t.starts # (p + 1) - t.starts # p

abbrev pub kid : Shape → ℕ → ℕ → ℕ
kid t p i = t.rows # (t.starts # p + i)

-- the rows left below p in a lower triangle, above p in an upper one
abbrev pub left : Shape → ℕ → ℕ
left t p = left_by t.lower t.size p

abbrev pub graph_of : Shape → Graph
graph_of t = record { size = t.size; many = many t; kid = kid t; left = left t }

-- ---- columns with a row map: place p has the number `at` p, and its children are the rows of the column of that
-- number. Only numbers below `bound` have a column. While a basis is factored these are the pivot numbers.
pub record Mapped : Type 0 where
  pub lower : Bool
  pub size : ℕ
  pub at : List ℕ
  pub bound : ℕ
  pub starts : List ℕ
  pub rows : List ℕ

abbrev pub mapped : Bool → ℕ → List ℕ → ℕ → List ℕ → List ℕ → Mapped
mapped l n a b s r = record { lower = l; size = n; at = a; bound = b; starts = s; rows = r }

-- the filter: the number j has a column
abbrev pub passes : ℕ → ℕ → Bool
passes bound j = ltb j bound

abbrev pub many_if : Bool → ℕ → ℕ
many_if true n = n
many_if false n = 0

-- how many entries the column of the number j has
unfoldable pub many_in : ℕ → List ℕ → ℕ → ℕ
many_in bound starts j = many_if (passes bound j) (starts # (j + 1) - starts # j)

-- the rows of the column of number j stand from `starts` j on; the numbers left below or above it
abbrev pub graph_in : Mapped → Graph
graph_in t =
    record {
      size = t.size;
      many = λ p. many_in t.bound t.starts (t.at # p);
      kid = λ p i. t.rows # (t.starts # (t.at # p) + i);
      left = λ p. left_by t.lower t.bound (t.at # p);
    }

-- a triangle's row map: every place is its own number
abbrev pub own_turn : ℕ → List ℕ → List ℕ
own_turn p l = set l p p

unfoldable pub own_numbers : ℕ → List ℕ → List ℕ
own_numbers n l = run own_turn n l

-- the marks of the visited places, and the finished ones, `count` of them, in a list that has room for more
pub record State : Type 0 where
  pub marks : List Bool
  pub done : List ℕ
  pub count : ℕ

abbrev pub state : List Bool → List ℕ → ℕ → State
state m d c = record { marks = m; done = d; count = c }

-- nothing visited: what fresh arrays hold
abbrev pub fresh : State
fresh = state (replicate max_rows false) (replicate max_rows 0) 0

abbrev pub mark : ℕ → State → State
mark p s = state (set s.marks p true) s.done s.count

abbrev pub finish : ℕ → State → State
finish p s = state s.marks (set s.done s.count p) (s.count + 1)

abbrev pub unless : Bool → State → State → State
unless true s t = s
unless false s t = t

-- A place that is marked is left. Else it is marked, its children are walked in stored order, and it is finished. k
-- bounds how deep the walk goes.
unfoldable pub walk : ℕ → Graph → ℕ → State → State
walk zero g p s = s
walk (suc k) g p s = unless (get_or s.marks p false) s (finish p
    (run (λ i. walk k g (g.kid p i)) (g.many p) (mark p s)))

-- as deep as there are places, and one deeper for a place with nothing left, is deep enough
abbrev pub walk_of : Graph → ℕ → State → State
walk_of g p s = walk (suc g.size) g p s

-- the walk of the i-th child of p, and from the i-th listed place
abbrev pub kid_turn : Graph → ℕ → ℕ → State → State
kid_turn g p i s = walk_of g (g.kid p i) s

abbrev pub list_turn : Graph → List ℕ → ℕ → State → State
list_turn g l i s = walk_of g (l # i) s

unfoldable pub reached : Shape → List ℕ → ℕ → State → State
reached t l n s = run (list_turn (graph_of t) l) n s

-- with a row map only from the listed places that pass the filter
abbrev pub entered : Mapped → ℕ → State → State
entered t p s = unless (passes t.bound (t.at # p)) (walk_of (graph_in t) p s) s

abbrev pub enter_turn : Mapped → List ℕ → ℕ → State → State
enter_turn t l i s = entered t (l # i) s

unfoldable pub reached_in : Mapped → List ℕ → ℕ → State → State
reached_in t l n s = run (enter_turn t l) n s

-- ---- what a walk keeps to

-- children are places, and less is left of a child
pub record Falling (g : Graph) : Type 0 where
  pub small : g.size ≤ max_rows
  pub inside : (j i : ℕ) → j < g.size → i < g.many j → g.kid j i < g.size
  pub falls : (j i : ℕ) → j < g.size → i < g.many j → g.left (g.kid j i) < g.left j
  pub shallow : (j : ℕ) → j < g.size → g.left j ≤ g.size

-- the columns of a triangle
pub record Columns (t : Shape) : Type 0 where
  pub small : t.size ≤ max_rows
  pub long : t.size < length t.starts
  pub rise : (j : ℕ) → j < t.size → t.starts # j ≤ t.starts # (j + 1)
  pub ends : (j : ℕ) → j < t.size → t.starts # (j + 1) ≤ length t.rows
  pub inside : (j i : ℕ) → j < t.size → i < many t j → kid t j i < t.size
  pub falls : (j i : ℕ) → j < t.size → i < many t j → left t (kid t j i) < left t j

-- columns with a row map, which stand within the lent arrays
pub record MapColumns (t : Mapped) : Type 0 where
  pub falling : Falling (graph_in t)
  pub long : t.bound < length t.starts
  pub rise : (j : ℕ) → j < t.bound → t.starts # j ≤ t.starts # (j + 1)
  pub ends : (j : ℕ) → j < t.bound → t.starts # (j + 1) ≤ length t.rows

-- as many are finished as are marked, or fewer: an append to the finished ones always fits
pub record Fits (s : State) : Type 0 where
  pub marks_long : length s.marks ≡ max_rows
  pub done_long : length s.done ≡ max_rows
  pub counted : s.count ≤ trues s.marks

pub record Walkable (t : Mapped) (p : ℕ) (s : State) : Type 0 where
  pub columns : MapColumns t
  pub place : p < t.size
  pub fits : Fits s

-- the first n of a list are places below m
pub record ListedIn (m : ℕ) (l : List ℕ) (n : ℕ) : Type 0 where
  pub listed_long : n ≤ length l
  pub places : (i : ℕ) → i < n → l # i < m

abbrev pub Listed : Shape → List ℕ → ℕ → Type 0
Listed t l n = ListedIn t.size l n
