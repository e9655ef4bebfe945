-- What the tests tell: a triangle that passes them is in order, and so is a list. Assumes nothing.
use mathlib.Core.Path.{◌≡◌, refl, sym, ap, ◌∙◌}
use mathlib.Core.Bool.{Bool, true, false, not, ◌&&◌, ◌||◌}
use mathlib.Core.List.{List}
use Prim.Native.Nat.{ℕ, zero, suc, ◌+◌, ◌-◌, ◌<◌, ◌≤◌}
use native.Mathlib.Omega.{arith}
use lib.ListN.{length, get_or}
use lib.Dec.{leb, ltb, eqb}
use lib.Ieee.{Float}
use borrow.Author.Tests.{leb-true, ltb-true, ltb-false, eqb-true, not-true}
use Rattle.doubles.specs.Limits.{max_rows, max_tri_entries}
use Rattle.doubles.specs.Lists.{◌#◌}
use Rattle.doubles.proofs.Loops.{both_true, all_at}
use Rattle.lu_walk.specs.Walk.{Shape, many, kid, left_by}
use Rattle.sparse.proofs.Laws.{no_both}
use Rattle.lu_solve.specs.Solve.{Tri, given, Numbers, Distinct}
use Rattle.lu_solve.proofs.Laws.{given_marks}
use Rattle.lu_gate.specs.Gate.{ok_sizes, sizes_of, rises_at, ok_starts, beyond, ok_row, ok_column, ok_rows, ok_diag, ok_triangle, new_at, ok_list, Readable}

or_true : (h b : Bool) → not h || b ≡ true → h ≡ true → b ≡ true
or_true true b e f = e
or_true false b e f = absurd (let w : ◌≡◌ {A = ℕ} 0 1 = cc in omega arith)

-- ---- the sizes
pub record Sized (n e s r x : ℕ) (h : Bool) (d v : ℕ) : Type 0 where
  pub small : n ≤ max_rows
  pub starts_long : n < s
  pub rows_long : e ≤ r
  pub vals_long : e ≤ x
  pub diag_long : h ≡ true → n ≤ d
  pub values_long : n ≤ v

pub sized : (n e s r x : ℕ) (h : Bool) (d v : ℕ) → ok_sizes n e s r x h d v ≡ true → Sized n e s r x h d v
sized n e s r x h d v o =
    let a = both_true _ (leb n v) o in
    let b = both_true _ (not h || leb n d) a.0 in
    let c = both_true _ (leb e x) b.0 in
    let f = both_true _ (leb e r) c.0 in
    let g = both_true _ (ltb n s) f.0 in
    let k = both_true (leb n max_rows) (leb e max_tri_entries) g.0 in
    record {
      small = leb-true _ _ k.0;
      starts_long = ltb-true _ _ g.1;
      rows_long = leb-true _ _ f.1;
      vals_long = leb-true _ _ c.1;
      diag_long = λ q. leb-true _ _ (or_true h (leb n d) b.1 q);
      values_long = leb-true _ _ a.1;
    }

-- ---- the starts
pub record Starts (n e : ℕ) (s : List ℕ) : Type 0 where
  pub begins : s # 0 ≡ 0
  pub finishes : s # n ≡ e
  pub rises : (j : ℕ) → j < n → s # j ≤ s # (j + 1)

pub starts_told : (n e : ℕ) (s : List ℕ) → ok_starts n e s ≡ true → Starts n e s
unfolding ok_starts
starts_told n e s o =
    let a = both_true (eqb (s # 0) 0 && eqb (s # n) e) _ o in
    let b = both_true (eqb (s # 0) 0) (eqb (s # n) e) a.0 in
    record { begins = eqb-true _ _ b.0; finishes = eqb-true _ _ b.1; rises = λ j h. leb-true _ _ (all_at (rises_at s) n a.1 j h) }

-- no start is above the last
rising : (s : List ℕ) (k j : ℕ) → ((i : ℕ) → i < j + k → s # i ≤ s # (i + 1)) → s # j ≤ s # (j + k)
rising s zero j h = let q : j + 0 ≡ j = omega arith in rw q (omega arith)
rising s (suc k) j h =
    let q : j + suc k ≡ (j + 1) + k = omega arith in
    let a = h j (omega arith) in
    let b = rising s k (j + 1) (λ i l. h i (omega arith)) in
    rw q (omega (arith, a, b))

pub starts_end : {n e : ℕ} {s : List ℕ} → Starts n e s → (j : ℕ) → j < n → s # (j + 1) ≤ e
starts_end {n} {e} {s} t j h =
    let q : (j + 1) + (n - (j + 1)) ≡ n = omega arith in
    let r = rising s (n - (j + 1)) (j + 1) (λ i l. t.rises i (omega (arith, l))) in
    let u : s # (j + 1) ≤ s # n = rw q at r in
    omega (arith, u, t.finishes)

pub readable : {t : Shape} {e : ℕ} → t.size ≤ max_rows → t.size < length t.starts → e ≤ length t.rows → Starts t.size e t.starts → Readable t
readable {t} {e} a b c s = record { small = a; long = b; rise = s.rises; ends = λ j h. omega (arith, c, starts_end s j h) }

-- ---- the triangle

-- rows on the far side of a column have fewer rows left
beyond_falls : (b : Bool) (n c r : ℕ) → r < n → beyond b c r ≡ true → left_by b n r < left_by b n c
beyond_falls true n c r h e = let q = ltb-true c r e in omega arith
beyond_falls false n c r h e = let q = ltb-true r c e in omega arith

pub record Told (t : Tri) (e v : ℕ) : Type 0 where
  pub sizes : Sized t.shape.size e (length t.shape.starts) (length t.shape.rows) (length t.vals) t.has_diag (length t.diag) v
  pub starts : Starts t.shape.size e t.shape.starts
  pub rows : (c i : ℕ) → c < t.shape.size → i < many t.shape c → ok_row t.shape c i ≡ true
  pub diag : ok_diag t.shape.size t.has_diag t.diag ≡ true

pub told : (t : Tri) (e v : ℕ) → ok_triangle t e v ≡ true → Told t e v
unfolding ok_triangle ok_rows ok_column
told t e v o =
    let a = both_true _ (ok_diag t.shape.size t.has_diag t.diag) o in
    let b = both_true _ (ok_rows t.shape) a.0 in
    let d = both_true (sizes_of t e v) (ok_starts t.shape.size e t.shape.starts) b.0 in
    record {
      sizes = sized _ _ _ _ _ _ _ _ d.0;
      starts = starts_told _ _ _ d.1;
      rows = λ c i h g. all_at (ok_row t.shape c) (many t.shape c) (all_at (ok_column t.shape) t.shape.size b.1 c h) i g;
      diag = a.1;
    }

-- a triangle that passes is in order
pub numbers_told : (t : Tri) (e : ℕ) (v : List Float) → Told t e (length v) → Numbers t v
numbers_told t e v o =
    let z = o.sizes in
    let in_row : (c i : ℕ) → c < t.shape.size → i < many t.shape c → (ltb (kid t.shape c i) t.shape.size ≡ true) × (beyond t.shape.lower c (kid t.shape c i) ≡ true) =
    λ c i h g. both_true (ltb (kid t.shape c i) t.shape.size) _ (o.rows c i h g) in
    record {
      columns = record {
        small = z.small;
        long = z.starts_long;
        rise = o.starts.rises;
        ends = λ j h. omega (arith, z.rows_long, starts_end o.starts j h);
        inside = λ c i h g. ltb-true _ _ (in_row c i h g).0;
        falls = λ c i h g. beyond_falls t.shape.lower t.shape.size c (kid t.shape c i) (ltb-true _ _ (in_row c i h g).0) (in_row c i h g).1;
      };
      vals_long = λ j h. omega (arith, z.vals_long, starts_end o.starts j h);
      diag_long = z.diag_long;
      values_long = z.values_long;
    }

-- ---- the list

module _ (n m : ℕ) (l : List ℕ) (small : n ≤ max_rows) (o : ok_list n l m ≡ true) where
  new_told : (k : ℕ) → k < m → (l # k < n) × (get_or (given l k) (l # k) false ≡ false)
  unfolding ok_list
  new_told k h =
      let a = both_true (ltb (l # k) n) _ (all_at (new_at n l) m o k h) in
      (ltb-true _ _ a.0, not-true _ a.1)

  pub list_inside : (k : ℕ) → k < m → l # k < n
  list_inside k h = (new_told k h).0

  -- a place is marked by those before it
  before : (j k : ℕ) → j < k → k < m → l # j ≡ l # k → ⊥
  before j k h g e =
      let w = given_marks l k (record { inside = λ i f. omega (arith, list_inside i (omega arith), small) }) in
      no_both (get_or (given l k) (l # k) false) (ap (λ (q : ℕ). get_or (given l k) q false) (sym e) ∙ w.has j h) (new_told k g).1

  pub list_once : (j k : ℕ) → j < m → k < m → l # j ≡ l # k → j ≡ k
  list_once j k h g e = go (ltb j k) (ltb k j) refl refl
    where
      go : (a b : Bool) → ltb j k ≡ a → ltb k j ≡ b → j ≡ k
      go true b p q = absurd (before j k (ltb-true j k p) g e)
      go false true p q = absurd (before k j (ltb-true k j q) h (sym e))
      go false false p q = omega (arith, ltb-false j k p, ltb-false k j q)

-- a list that passes names places of the triangle, none twice
pub distinct_told : (t : Shape) (l : List ℕ) (m : ℕ) → t.size ≤ max_rows → t.size ≤ length l → m ≤ length l → ok_list t.size l m ≡ true → Distinct t l m
distinct_told t l m a b c o = record { listed = record { listed_long = c; places = list_inside t.size m l a o }; roomy = b; once = list_once t.size m l a o }
