-- What the walk's order is, apart from marks and from how deep it may go. 01: "columns are walked from each listed
-- place. The walk finishes every child of a place before the place itself; children come in stored order, visited
-- places once". `Walked` is that sentence, and `Ordered` what it says of the finished places. Assumes nothing.
use Rattle.std.specs.Prelude.{◌≡◌, Bool, true, false, ◌||◌, List, [], ◌∷◌, ◌++◌, ◌⊎◌, ℕ, zero, suc, ◌+◌, ◌<◌, ◌≤◌, take, eqb}
use Rattle.doubles.specs.Lists.{◌#◌, part}
use Rattle.lu_walk.specs.Walk.{Graph, Shape, Mapped, passes, State}

-- the children of p in stored order: the off-diagonal rows of column p as they stand in the lent array
abbrev pub stored : Shape → ℕ → List ℕ
stored t p = part (t.starts # p) (t.starts # (p + 1)) t.rows

-- with a row map they are the rows of the column of p's number, where that passes the filter
abbrev pub stored_by : Bool → Mapped → ℕ → List ℕ
stored_by true t p = part (t.starts # (t.at # p)) (t.starts # (t.at # p + 1)) t.rows
stored_by false t p = []

abbrev pub stored_in : Mapped → ℕ → List ℕ
stored_in t p = stored_by (passes t.bound (t.at # p)) t p

-- "from each listed row, in listed order, that is already a pivot row": of the first n places of l those that pass the
-- filter
abbrev pub entering_by : Bool → List ℕ → ℕ → List ℕ
entering_by true l p = l ++ (p ∷ [])
entering_by false l p = l

unfoldable pub entering : Mapped → List ℕ → ℕ → List ℕ
entering t l zero = []
entering t l (suc n) = entering_by (passes t.bound (t.at # (l # n))) (entering t l n) (l # n)

-- the finished places, the first finished first
abbrev pub finished : State → List ℕ
finished s = take s.count s.done

-- whether p stands in a list
unfoldable pub among : ℕ → List ℕ → Bool
among p [] = false
among p (q ∷ l) = eqb p q || among p l

-- `Walked kids l ps m`: where the places l are finished, the walks of the places ps, one after the other, leave the
-- places m finished. `kids p` are the children of p, in stored order.
pub data Walked (kids : ℕ → List ℕ) : List ℕ → List ℕ → List ℕ → Type 0 where
  -- no place is left
  stop : {l : List ℕ} → Walked kids l [] l
  -- "visited places once": p is finished already
  again : {l ps m : List ℕ} {p : ℕ} → among p l ≡ true → Walked kids l ps m → Walked kids l (p ∷ ps) m
  -- p is not: its children are walked, in stored order, and then p is finished itself
  first : {l k ps m : List ℕ} {p : ℕ} → among p l ≡ false → Walked kids l (kids p) k → Walked kids (k ++ (p ∷ [])) ps m
      → Walked kids l (p ∷ ps) m

-- q can be reached from p: it is p, or can be reached from a child of p
pub data Reach (g : Graph) : ℕ → ℕ → Type 0 where
  here : {p : ℕ} → Reach g p p
  down : {p q : ℕ} (i : ℕ) → i < g.many p → Reach g (g.kid p i) q → Reach g p q

-- the place q is finished in s
pub record Has (s : State) (q : ℕ) : Type 0 where
  pub at : ℕ
  pub below : at < s.count
  pub is : s.done # at ≡ q

-- The turn of a child q of the place that stands at i among the finished places d, after the children ps.
pub record Turn (kids : ℕ → List ℕ) (d : List ℕ) (i : ℕ) (ps : List ℕ) (q : ℕ) : Type 0 where
  -- how many places were finished when the walk of that place began, and when q's turn came
  pub begun : ℕ
  pub came : ℕ
  pub in_turn : (begun ≤ came) × (came ≤ i)
  -- what is newly finished under the earlier children stands from `begun` up to `came`
  pub earlier : Walked kids (take begun d) ps (take came d)
  -- and the later child stands behind it, unless it was finished by then
  pub later : (among q (take came d) ≡ true) ⊎ ((k : ℕ) × (came ≤ k) × (k < i) × (d # k ≡ q))

-- The finished places of a walk from the first n places of l. `kids p` are the children of p, as they stand in the lent
-- array.
pub record Ordered (g : Graph) (kids : ℕ → List ℕ) (l : List ℕ) (n : ℕ) (s : State) : Type 0 where
  -- 01's whole sentence; it leaves one list of finished places (`order_settles`)
  pub walked : Walked kids [] (take n l) (finished s)
  -- "The walk finishes every child of a place before the place itself": the j-th child of the i-th finished place
  -- stands at an earlier b
  pub children_first : (i j : ℕ) → i < s.count → j < g.many (s.done # i)
      → (b : ℕ) × (b < i) × (s.done # b ≡ g.kid (s.done # i) j)
  -- "children come in stored order": of the i-th finished place
  pub stored_order : (i : ℕ) → i < s.count → (ps : List ℕ) (q : ℕ) (rs : List ℕ) → kids (s.done # i) ≡ ps ++ (q ∷ rs)
      → Turn kids (finished s) i ps q
  -- "visited places once"
  pub none_twice : (i j : ℕ) → i < s.count → j < s.count → s.done # i ≡ s.done # j → i ≡ j
  -- "columns are walked from each listed place": only what a listed place reaches, and all of it
  pub only_reached : (i : ℕ) → i < s.count → (j : ℕ) × (j < n) × Reach g (l # j) (s.done # i)
  pub all_reached : (j q : ℕ) → j < n → Reach g (l # j) q → Has s q
