-- Factoring a basis, column by column. Ask 5, docs/RULES-02.md. From minilp 0.2.2, src/lu.rs, lu_factorize, Apache-2.0,
-- changed: no reordering of columns, the pivot is the largest, and what is not finite is an answer. Assumes nothing.
use Rattle.std.specs.Prelude.{Bool, true, false, List, ℕ, ◌+◌, ltb, eqb, set, replicate, Float}
use Rattle.std.specs.Float.Ieee.{lt, le, eq}
use Rattle.doubles.specs.Num.{◌⊘◌, f0, eps, finite, size}
use Rattle.doubles.specs.Limits.{max_rows, max_tri_entries}
use Rattle.doubles.specs.Loop.{run, down, all, until, Next, done, more}
use Rattle.doubles.specs.Lists.{◌!◌, ◌#◌, part}
use Rattle.sparse.specs.Scattered.{Sv, sv_of, take_off}
use Rattle.lu_walk.specs.Walk.{State, fresh, mapped, reached_in}
use Rattle.lu_solve.specs.Solve.{grown}
use Rattle.lu_factor_rules.specs.declared.Best.{Best}

-- entries that are written one behind another, `count` of them, in arrays that have room for more
pub record Entries : Type 0 where
  pub rows : List ℕ
  pub vals : List Float
  pub count : ℕ

abbrev pub entries : List ℕ → List Float → ℕ → Entries
entries r v n = record { rows = r; vals = v; count = n }

abbrev pub push : Entries → ℕ → Float → Entries
push e r x = entries (set e.rows e.count r) (set e.vals e.count x) (e.count + 1)

-- A factor in the making: `made` columns are factored. `order` has the pivot rows so far, and `number` the pivot number
-- of each row; a row that is none yet has one that is too large. L's row numbers are those of the basis, U's are pivot
-- numbers.
pub record Partial : Type 0 where
  pub made : ℕ
  pub order : List ℕ
  pub number : List ℕ
  pub lower : Entries
  pub lower_starts : List ℕ
  pub upper : Entries
  pub upper_starts : List ℕ
  pub diag : List Float

-- what fresh arrays hold
abbrev pub nothing : Partial
nothing =
    record {
      made = 0;
      order = replicate max_rows 0;
      number = replicate max_rows max_rows;
      lower = entries (replicate max_tri_entries 0) (replicate max_tri_entries f0) 0;
      lower_starts = replicate (max_rows + 1) 0;
      upper = entries (replicate max_tri_entries 0) (replicate max_tri_entries f0) 0;
      upper_starts = replicate (max_rows + 1) 0;
      diag = replicate max_rows f0;
    }

-- is row r one of the first i pivot rows?
abbrev pub is_pivot : List ℕ → ℕ → ℕ → Bool
is_pivot number i r = ltb (number # r) i

-- ---- 2: "Walk (MarkNonzero.run with row map and filter): from each listed row, in listed order, that is already a
-- pivot row and not yet visited, post-order; the children of pivot row number j (< i) are the rows of L's column j in
-- stored order; a row that isn't a pivot row yet has no children, but is visited and finished as a child. Newly reached
-- rows are added to the list in finishing order"
abbrev pub walked : ℕ → List ℕ → ℕ → List ℕ → List ℕ → Sv → State
walked m number i starts rows s = reached_in (mapped true m number i starts rows) s.pat.list s.pat.count fresh

abbrev pub grown_by : State → Sv → Sv
grown_by w s = sv_of s.vals (grown w.done w.count s.pat)

-- ---- 3: "In the reverse of finishing order, for each visited row that is pivot row number j: x = its value; for each
-- entry (r, a) of L's column j in stored order: value of r -= x * a"
abbrev pub back_by : Bool → ℕ → ℕ → List ℕ → List ℕ → List Float → Sv → Sv
back_by true r j starts rows vals s = take_off (s.vals ! r) (part (starts # j) (starts # (j + 1)) rows)
    (part (starts # j) (starts # (j + 1)) vals) s
back_by false r j starts rows vals s = s

unfoldable pub back_one : List ℕ → ℕ → List ℕ → List ℕ → List Float → ℕ → Sv → Sv
back_one number i starts rows vals r s = back_by (is_pivot number i r) r (number # r) starts rows vals s

abbrev pub back_turn : List ℕ → ℕ → List ℕ → List ℕ → List Float → List ℕ → ℕ → Sv → Sv
back_turn number i starts rows vals d k s = back_one number i starts rows vals (d # k) s

unfoldable pub reduced : List ℕ → ℕ → List ℕ → List ℕ → List Float → State → Sv → Sv
reduced number i starts rows vals w s = down (back_turn number i starts rows vals w.done) w.count s

-- 2 and 3, where w is the walk
abbrev pub solved_by : List ℕ → ℕ → List ℕ → List ℕ → List Float → State → Sv → Sv
solved_by number i starts rows vals w s = reduced number i starts rows vals w (grown_by w s)

unfoldable pub solved : ℕ → List ℕ → ℕ → List ℕ → List ℕ → List Float → Sv → Sv
solved m number i starts rows vals s = solved_by number i starts rows vals (walked m number i starts rows s) s

-- ---- 4: "Every listed value must be finite, else 23". v are the values, and the first n of l the listed rows
unfoldable pub listed_finite : List Float → List ℕ → ℕ → Bool
listed_finite v l n = all n (λ k. finite (v ! (l # k)))

-- ---- 5: "among listed rows that aren't pivot rows yet, the one of largest size, strictly larger, so the first listed
-- on a tie"
abbrev pub best : ℕ → Float → Best
best r x = record { row = r; most = x }

abbrev pub better_by : Bool → Bool → Best → Best → Best
better_by true larger b c = b
better_by false true b c = c
better_by false false b c = b

unfoldable pub better : List ℕ → ℕ → ℕ → Float → Best → Best
better number i r x b = better_by (is_pivot number i r) (lt b.most (size x)) b (best r (size x))

abbrev pub best_turn : List ℕ → ℕ → List Float → List ℕ → ℕ → Best → Best
best_turn number i v l k b = better number i (l # k) (v ! (l # k)) b

unfoldable pub chosen : List ℕ → ℕ → List Float → List ℕ → ℕ → Best
chosen number i v l n = run (best_turn number i v l) n (best 0 f0)

-- ---- 6: "In listed order, values equal to 0.0 passed over: a pivot row number j gives the entry (j, value) of U's
-- column i; the new pivot gives the diagonal; any other row r gives the entry (r, value / pivot) of L's column i"
pub record Parts : Type 0 where
  pub lower : Entries
  pub upper : Entries

abbrev pub parts : Entries → Entries → Parts
parts l u = record { lower = l; upper = u }

-- what a row is for column i: a pivot row, the new one, or another
abbrev pub sorted : Bool → Bool → ℕ → ℕ → Float → Float → Parts → Parts
sorted true new j r x pivot t = parts t.lower (push t.upper j x)
sorted false true j r x pivot t = t
sorted false false j r x pivot t = parts (push t.lower r (x ⊘ pivot)) t.upper

abbrev pub unless_zero : Bool → Parts → Parts → Parts
unless_zero true t u = t
unless_zero false t u = u

unfoldable pub gathered_one : List ℕ → ℕ → ℕ → Float → ℕ → Float → Parts → Parts
gathered_one number i row pivot r x t = unless_zero (eq x f0) t
    (sorted (is_pivot number i r) (eqb r row) (number # r) r x pivot t)

abbrev pub gather_turn : List ℕ → ℕ → ℕ → List Float → List ℕ → ℕ → Parts → Parts
gather_turn number i row v l k t = gathered_one number i row (v ! row) (l # k) (v ! (l # k)) t

unfoldable pub gathered : List ℕ → ℕ → ℕ → List Float → List ℕ → ℕ → Parts → Parts
gathered number i row v l n t = run (gather_turn number i row v l) n t

-- a column's pivot row, the value there, and L and U with its entries; or why there is none
pub data Outcome (F : Type 0) : Type 0 where
  factored : F → Outcome F
  -- 23
  non_finite : Outcome F
  -- 25
  singular : Outcome F

pub record Found : Type 0 where
  pub row : ℕ
  pub pivot : Float
  pub parts : Parts

abbrev pub found : ℕ → Float → Parts → Found
found r x t = record { row = r; pivot = x; parts = t }

-- "If that size isn't at least EPS, or there is none: 25"
abbrev pub pivoted_by : Bool → List ℕ → ℕ → List Float → List ℕ → ℕ → Parts → ℕ → Outcome Found
pivoted_by true number i v l n t row = factored (found row (v ! row) (gathered number i row v l n t))
pivoted_by false number i v l n t row = singular

abbrev pub pivoted : List ℕ → ℕ → List Float → List ℕ → ℕ → Parts → Best → Outcome Found
pivoted number i v l n t b = pivoted_by (le eps b.most) number i v l n t b.row

abbrev pub judged_by : Bool → List ℕ → ℕ → List Float → List ℕ → ℕ → Parts → Outcome Found
judged_by true number i v l n t = pivoted number i v l n t (chosen number i v l n)
judged_by false number i v l n t = non_finite

-- 4 to 6
unfoldable pub judged : List ℕ → ℕ → List Float → List ℕ → ℕ → Parts → Outcome Found
judged number i v l n t = judged_by (listed_finite v l n) number i v l n t

-- one column, which s holds
unfoldable pub column : ℕ → ℕ → List ℕ → List ℕ → Parts → Sv → Outcome Found
column m i number starts t s =
    let u = solved m number i starts t.lower.rows t.lower.vals s in
    judged number i u.vals u.pat.list u.pat.count t

-- the column is added, with its pivot row
unfoldable pub added : Partial → Found → Partial
added f c =
    record {
      made = f.made + 1;
      order = set f.order f.made c.row;
      number = set f.number c.row f.made;
      lower = c.parts.lower;
      lower_starts = set f.lower_starts (f.made + 1) c.parts.lower.count;
      upper = c.parts.upper;
      upper_starts = set f.upper_starts (f.made + 1) c.parts.upper.count;
      diag = set f.diag f.made c.pivot;
    }

-- ---- the whole basis: `col i` is its column i, loaded
abbrev pub next_of : Partial → Outcome Found → Next Partial (Outcome Partial)
next_of f (factored c) = more (added f c)
next_of f non_finite = done non_finite
next_of f singular = done singular

unfoldable pub factor_turn : ℕ → (ℕ → Sv) → Partial → Next Partial (Outcome Partial)
factor_turn m col f = next_of f (column m f.made f.number f.lower_starts (parts f.lower f.upper)
    (col f.made))

unfoldable pub factor_part : ℕ → (ℕ → Sv) → Outcome Partial
factor_part m col = until (factor_turn m col) factored m nothing

-- ---- "At the end L's row numbers become pivot numbers"
pub record Matrix : Type 0 where
  pub starts : List ℕ
  pub rows : List ℕ
  pub vals : List Float

abbrev pub matrix : List ℕ → List ℕ → List Float → Matrix
matrix s r v = record { starts = s; rows = r; vals = v }

pub record Factor : Type 0 where
  pub size : ℕ
  pub order : List ℕ
  pub number : List ℕ
  pub lower : Matrix
  pub upper : Matrix
  pub diag : List Float

abbrev pub renumber_turn : List ℕ → ℕ → List ℕ → List ℕ
renumber_turn number k l = set l k (number # (l # k))

unfoldable pub renumbered : List ℕ → ℕ → List ℕ → List ℕ
renumbered number n l = run (renumber_turn number) n l

abbrev pub factor_of : ℕ → Partial → Factor
factor_of m f =
    record {
      size = m;
      order = f.order;
      number = f.number;
      lower = matrix f.lower_starts (renumbered f.number f.lower.count f.lower.rows) f.lower.vals;
      upper = matrix f.upper_starts f.upper.rows f.upper.vals;
      diag = f.diag;
    }

abbrev pub ended : ℕ → Outcome Partial → Outcome Factor
ended m (factored f) = factored (factor_of m f)
ended m non_finite = non_finite
ended m singular = singular

unfoldable pub factorize : ℕ → (ℕ → Sv) → Outcome Factor
factorize m col = ended m (factor_part m col)
