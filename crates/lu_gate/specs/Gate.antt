-- The tests of a triangle solve. 01: "Refused, lowest first, nothing changed: 1 a bad size or start, an off-diagonal row too large or not below (lower) or
-- above (upper), a diagonal of 0; 2 a number not finite; 3 a listed place too large or repeated". lu/specs/Conditions.antt says in words when each is given. Assumes nothing.
use Rattle.std.specs.Prelude.{Bool, true, false, not, ◌&&◌, ◌||◌, List, ℕ, ◌+◌, ◌<◌, ◌≤◌, length, get_or, leb, ltb, eqb, Float}
use Rattle.std.specs.Float.Ieee.{eq}
use Rattle.doubles.specs.Num.{f0, finite}
use Rattle.doubles.specs.Limits.{max_rows, max_tri_entries}
use Rattle.doubles.specs.Loop.{all}
use Rattle.doubles.specs.Lists.{◌!◌, ◌#◌}
use Rattle.lu_walk.specs.Walk.{Shape, many, kid}
use Rattle.lu_solve.specs.Solve.{Tri, given}

-- ---- 1: "a bad size or start, an off-diagonal row too large or not below (lower) or above (upper), a diagonal of 0"

-- 01's limits with 02's numbers, 96 places and 4,560 entries, and no lent array too short: n places, e entries, and the lengths of starts, rows, numbers, diagonal, values
abbrev pub ok_sizes : ℕ → ℕ → ℕ → ℕ → ℕ → Bool → ℕ → ℕ → Bool
ok_sizes n e s r x h d v = (((((leb n max_rows && leb e max_tri_entries) && ltb n s) && leb e r) && leb e x) && (not h || leb n d)) && leb n v

-- the starts begin at 0, don't fall, and end at the entry count
abbrev pub rises_at : List ℕ → ℕ → Bool
rises_at s j = leb (s # j) (s # (j + 1))

unfoldable pub ok_starts : ℕ → ℕ → List ℕ → Bool
ok_starts n e s = (eqb (s # 0) 0 && eqb (s # n) e) && all n (rises_at s)

abbrev pub beyond : Bool → ℕ → ℕ → Bool
beyond true c r = ltb c r
beyond false c r = ltb r c

abbrev pub ok_row : Shape → ℕ → ℕ → Bool
ok_row t c i = ltb (kid t c i) t.size && beyond t.lower c (kid t c i)

unfoldable pub ok_column : Shape → ℕ → Bool
ok_column t c = all (many t c) (ok_row t c)

unfoldable pub ok_rows : Shape → Bool
ok_rows t = all t.size (ok_column t)

-- "a diagonal of 0" is one that equals 0.0: -0.0 too
abbrev pub nonzero_at : List Float → ℕ → Bool
nonzero_at d j = not (eq (d ! j) f0)

unfoldable pub ok_diag : ℕ → Bool → List Float → Bool
ok_diag n h d = not h || all n (nonzero_at d)

abbrev pub sizes_of : Tri → ℕ → ℕ → Bool
sizes_of t e v = ok_sizes t.shape.size e (length t.shape.starts) (length t.shape.rows) (length t.vals) t.has_diag (length t.diag) v

unfoldable pub ok_triangle : Tri → ℕ → ℕ → Bool
ok_triangle t e v = ((sizes_of t e v && ok_starts t.shape.size e t.shape.starts) && ok_rows t.shape) && ok_diag t.shape.size t.has_diag t.diag

-- ---- 2: "a number not finite"

abbrev pub finite_at : List Float → ℕ → Bool
finite_at x i = finite (x ! i)

unfoldable pub ok_numbers : ℕ → ℕ → List Float → Bool → List Float → Bool
ok_numbers n e x h d = all e (finite_at x) && (not h || all n (finite_at d))

-- the numbers of listed places that are in range: a sparse solve's 2 reads no other value (ours), since "Unlisted places count as 0.0"
abbrev pub held_at : ℕ → List ℕ → List Float → ℕ → Bool
held_at n l v k = not (ltb (l # k) n) || finite (v ! (l # k))

unfoldable pub ok_held : ℕ → List ℕ → ℕ → List Float → Bool
ok_held n l m v = all m (held_at n l v)

-- ---- 3: "a listed place too large or repeated"

abbrev pub new_at : ℕ → List ℕ → ℕ → Bool
new_at n l k = ltb (l # k) n && not (get_or (given l k) (l # k) false)

unfoldable pub ok_list : ℕ → List ℕ → ℕ → Bool
ok_list n l m = all m (new_at n l)

-- ---- what the tests themselves ask

pub record Readable (t : Shape) : Type 0 where
  pub small : t.size ≤ max_rows
  pub long : t.size < length t.starts
  pub rise : (j : ℕ) → j < t.size → t.starts # j ≤ t.starts # (j + 1)
  pub ends : (j : ℕ) → j < t.size → t.starts # (j + 1) ≤ length t.rows
