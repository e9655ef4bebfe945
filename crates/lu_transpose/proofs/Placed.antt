-- Where each entry goes: `transposed`, at the end, says that the transpose has the same entries, and `roomy` that each
-- has room. Assumes nothing.
use mathlib.Core.Path.{◌≡◌, refl, sym, ap, ◌∙◌}
use mathlib.Core.Logic.{◌⊎◌, inl, inr, ⊎_elim}
use mathlib.Core.List.{List}
use Prim.Native.Nat.{ℕ, zero, suc, ◌+◌, ◌-◌, ◌<◌, ◌≤◌}
use native.Mathlib.Nat.{le_refl}
use native.Mathlib.Numerals.{add-one}
use native.Mathlib.Omega.{arith}
use lib.Dec.{ltb}
use lib.ListN.{length, length-set, length-replicate}
use lib.Seq.{get_or-set_same, get_or-set_other}
use lib.Ieee.{Float, nan}
use borrow.Author.Tests.{ltb-true, ltb-false}
use Rattle.doubles.specs.Num.{f0}
use Rattle.doubles.specs.Limits.{max_rows, max_tri_entries}
use Rattle.doubles.specs.Loop.{run}
use Rattle.doubles.specs.Lists.{◌!◌, ◌#◌}
use Rattle.doubles.proofs.Bools.{by_test, same?, last?}
use Rattle.doubles.proofs.Loops.{keeps}
use Rattle.lu_factor_rules.specs.Factor.{Matrix, matrix}
use Rattle.lu_factor_rules.specs.Transpose.{counted, summed, placed_one, place_turn, placed_column, placed, empty, ends_of}
use Rattle.lu_factor_rules.specs.Transpose.{transpose}
use Rattle.lu_transpose.specs.Means.{in_row, before_row, place_of, Stands, Transposed}
use Rattle.lu_transpose.specs.Read.{Read, Countable, Room, Roomy, Summable}
use Rattle.lu_transpose.proofs.Counts.{in_here, in_else, in_grows, nth, before_next, before_most, before_all}
use Rattle.lu_transpose.proofs.Counts.{before_grows, Counting, counted_at, Summing, summing, summable}

-- one is smaller, or they are equal
which : (a b : ℕ) → (a < b) ⊎ (b ≤ a)
which a b = by_test (ltb a b) (λ e. inl (ltb-true a b e)) (λ e. inr (ltb-false a b e))

module _ {m : ℕ} {t : Matrix} (r : Read m t) where
  abbrev l : List ℕ
  l = t.rows

  abbrev n : ℕ
  n = t.starts # m

  -- ---- the columns of t
  starts_by : (c d : ℕ) → c + d ≤ m → t.starts # c ≤ t.starts # (c + d)
  starts_by c zero h = let q : c + 0 ≡ c = omega arith in rw q (le_refl (t.starts # c))
  starts_by c (suc d) h = let q : c + suc d ≡ c + d + 1 = omega arith in rw q
      (omega (arith, starts_by c d (omega arith), (r.column (c + d) (omega arith)).rises))

  starts_grow : (c e : ℕ) → c ≤ e → e ≤ m → t.starts # c ≤ t.starts # e
  starts_grow c e h g = let q : c + (e - c) ≡ e = omega arith in rw q at (starts_by c (e - c) (omega arith))

  -- an entry stands in one column
  one_column : (c d k : ℕ) → c < m → d < m → t.starts # c ≤ k → k < t.starts # (c + 1) → t.starts # d ≤ k
      → k < t.starts # (d + 1) → c ≡ d
  one_column c d k a b e f g h = ⊎_elim
      (λ (i : c < d). absurd (omega (arith, starts_grow (c + 1) d (omega arith) (omega arith))))
      (λ (i : d ≤ c). ⊎_elim (λ (j : d < c). absurd (omega (arith, starts_grow (d + 1) c (omega arith) (omega arith))))
      (λ (j : d ≡ c). sym j) (last? d c (omega arith)))
      (which c d)

  pub column_of_holds : (j k : ℕ) → j ≤ m → k < t.starts # j
      → (c : ℕ) × (c < j) × (t.starts # c ≤ k) × (k < t.starts # (c + 1))
  column_of_holds zero k h g = absurd (omega (arith, r.first))
  column_of_holds (suc j) k h g = ⊎_elim
      (λ (i : k < t.starts # j). let w = column_of_holds j k (omega arith) i in (w.0, omega (arith, w.1), w.2, w.3))
      (λ (i : t.starts # j ≤ k). (j, omega arith, i, rw (add-one j) g))
      (which k (t.starts # j))

  -- ---- where entry k goes
  record In (k : ℕ) : Type 0 where
    low : before_row l (l # k) n ≤ place_of l n k
    high : place_of l n k < before_row l (suc (l # k)) n
    sum : place_of l n k + in_row l (l # k) (k + 1) ≡ before_row l (suc (l # k)) n

  place_in : (k : ℕ) → k < n → In k
  place_in k h =
      let a = in_grows l (l # k) (k + 1) n (omega arith) in
      let b = before_next l (l # k) n in
      let c = in_here l (l # k) k refl in
      record { low = omega (arith, a, b); high = omega (arith, a, b, c); sum = omega (arith, a, b) }

  later_first : (j k : ℕ) → j < k → k < n → l # j ≡ l # k → place_of l n k < place_of l n j
  later_first j k h g e =
      let a = in_grows l (l # k) (j + 1) k (omega arith) in
      let b = in_here l (l # k) k refl in
      let c = place_in k g in
      let d = place_in j (omega arith) in
      let f : before_row l (suc (l # j)) n ≡ before_row l (suc (l # k)) n = ap (λ (x : ℕ). before_row l (suc x) n) e in
      let i : in_row l (l # j) (j + 1) ≡ in_row l (l # k) (j + 1) = ap (λ (x : ℕ). in_row l x (j + 1)) e in
      omega (arith, a, b, c.sum, d.sum, f, i)

  apart : (j k : ℕ) → j < k → k < n → place_of l n j ≡ place_of l n k → ⊥
  apart j k h g e =
      let c = place_in k g in
      let d = place_in j (omega arith) in
      ⊎_elim
      (λ (i : l # j < l # k). omega (arith, c.low, d.high, before_grows l (suc (l # j)) (l # k) n i))
      (λ (i : l # k ≤ l # j). ⊎_elim
      (λ (f : l # k < l # j). omega (arith, c.high, d.low, before_grows l (suc (l # k)) (l # j) n f))
      (λ (f : l # k ≡ l # j). omega (arith, later_first j k h g (sym f)))
      (last? (l # k) (l # j) (omega arith)))
      (which (l # j) (l # k))

  -- ---- e entries are placed
  pub record Putting (e : ℕ) (u : Matrix) : Type 0 where
    pub starts_long : length u.starts ≡ max_rows + 1
    pub rows_long : length u.rows ≡ max_tri_entries
    pub vals_long : length u.vals ≡ max_tri_entries
    pub at : (q : ℕ) → q ≤ m → u.starts # q + in_row l q e ≡ before_row l (suc q) n
    pub there : (c k : ℕ) → k < e → c < m → t.starts # c ≤ k → k < t.starts # (c + 1)
        → (u.rows # (place_of l n k) ≡ c) × (u.vals ! place_of l n k ≡ t.vals ! k)

  module _ (c : ℕ) (h : c < m) (k : ℕ) (g : k < t.starts # (c + 1) - t.starts # c) (u : Matrix)
      (w : Putting (t.starts # c + k) u) where
    abbrev e : ℕ
    e = t.starts # c + k

    abbrev q : ℕ
    q = l # e

    e_in : e < n
    e_in = omega (arith, starts_grow (c + 1) m (omega arith) (le_refl m))

    q_in : q < m
    q_in = r.inside e e_in

    room_one : Room q u
    room_one =
        let a = w.at q (omega (arith, q_in)) in
        let b = in_grows l q (e + 1) n (omega (arith, e_in)) in
        record {
          row = omega (arith, q_in, r.small);
          some = omega (arith, a, b, in_here l q e refl, before_next l q n);
          most = omega (arith, a, before_most l (suc q) n, r.fits);
        }

    place_is : u.starts # q - 1 ≡ place_of l n e
    place_is = omega (arith, w.at q (omega (arith, q_in)), in_here l q e refl, (place_in e e_in).sum)

    abbrev p : ℕ
    p = place_of l n e

    p_in : p < max_tri_entries
    p_in = omega (arith, (place_in e e_in).high, before_most l (suc q) n, r.fits)

    putting_one : Putting (t.starts # c + (k + 1)) (place_turn t c k u)
    unfolding placed_one
    putting_one =
        let z : t.starts # c + (k + 1) ≡ e + 1 = omega arith in
        rw (z, place_is) (record {
          starts_long = length-set u.starts q p ∙ w.starts_long;
          rows_long = length-set u.rows p c ∙ w.rows_long;
          vals_long = length-set u.vals p (t.vals ! e) ∙ w.vals_long;
          at = λ x f. ⊎_elim
              (λ (i : x ≡ q). rw i (omega (
                arith,
                get_or-set_same u.starts q p 0
                    (omega (arith, w.starts_long, q_in, r.small)),
                (place_in e e_in).sum,
              )))
              (λ (i : x ≡ q → ⊥). omega (
                arith,
                get_or-set_other u.starts q x p 0 i,
                in_else l x e
                    (λ (y : l # e ≡ x). i (sym y)),
                w.at x f,
              ))
              (same? x q);
          there = λ d j f a b y. ⊎_elim
              (λ (i : j < e).
              let o : place_of l n j ≡ p → ⊥ = apart j e i e_in in (
                get_or-set_other u.rows p (place_of l n j) c 0 o ∙ (w.there d j i a b y).0,
                get_or-set_other u.vals p
                    (place_of l n j) (t.vals ! e) nan o ∙ (w.there d j i a b y).1,
              ))
              (λ (i : j ≡ e).
              let s : c ≡ d = one_column c d j h a (omega arith) (omega arith) b y in
              rw i (
                get_or-set_same u.rows p c 0 (omega (arith, w.rows_long, p_in)) ∙ s,
                get_or-set_same u.vals p
                    (t.vals ! e) nan (omega (arith, w.vals_long, p_in)),
              ))
              (last? j e f);
        })

  pub putting_column : (c : ℕ) → c < m → (u : Matrix) → Putting (t.starts # c) u → (k : ℕ)
      → k ≤ t.starts # (c + 1) - t.starts # c → Putting (t.starts # c + k) (run (place_turn t c) k u)
  putting_column c h u w k g =
      let z : t.starts # c + 0 ≡ t.starts # c = omega arith in
      keeps (place_turn t c) u (λ j x. Putting (t.starts # c + j) x) (t.starts # (c + 1) - t.starts # c)
      (λ j x f y. putting_one c h j f x y) (rw z w) k g

  -- the ends, before anything is placed
  pub countable : Countable n l
  countable = record { few = r.fits; rows_long = r.rows_long; held = λ k h. omega (arith, r.inside k h, r.small) }

  pub counting_all : Counting l n (counted l n empty.starts)
  counting_all = counted_at l n countable.held

  ends_at : Summing l n m (ends_of m t)
  unfolding summed
  ends_at = summing l counting_all m r.small m (le_refl m)

  abbrev begin : Matrix
  begin = matrix (ends_of m t) empty.rows empty.vals

  putting_none : Putting (t.starts # 0) begin
  unfolding in_row run
  putting_none =
      rw r.first (record {
        starts_long = ends_at.long;
        rows_long = length-replicate {A = ℕ} max_tri_entries 0;
        vals_long = length-replicate max_tri_entries f0;
        at = λ q h. omega (arith, ends_at.done q h);
        there = λ c k h. absurd (omega arith);
      })

  pub putting : (c : ℕ) → c ≤ m → Putting (t.starts # c) (run (placed_column t) c begin)
  unfolding placed_column
  putting c h =
      keeps (placed_column t) begin (λ j x. Putting (t.starts # j) x) m
      (λ j x f y.
      let z : t.starts # j + (t.starts # (j + 1) - t.starts # j) ≡ t.starts # (j + 1) = omega
      (arith, (r.column j f).rises) in
      rw z at (putting_column j f x y (t.starts # (j + 1) - t.starts # j) (le_refl _)))
      putting_none c h

  -- ---- every entry has room
  pub roomy : Roomy m t begin
  roomy = record {
    columns = λ c h. record {
      room = λ k g. room_one c h k g
          (run (place_turn t c) k (run (placed_column t) c begin)) (putting_column c h _ (putting c (omega arith)) k
          (omega arith));
    };
  }

  -- ---- the code's steps put together
  pub sums_fit : {s k : List ℕ} {w : List ℕ} {x : List Float} → matrix s w x ≡ empty → k ≡ counted l n s → Summable m k
  sums_fit e f = rw (f, ap (λ (y : Matrix). y.starts) e) (summable l counting_all m r.small r.fits)

  pub begin_is : {s k u : List ℕ} {w : List ℕ} {x : List Float} → matrix s w x ≡ empty → k ≡ counted l n s
      → u ≡ summed m k → begin ≡ matrix u w x
  begin_is e f g = rw (
    g,
    f,
    ap (λ (y : Matrix). y.starts) e,
    ap (λ (y : Matrix). y.rows) e,
    ap
        (λ (y : Matrix). y.vals) e,
  ) refl

  pub transpose_made : {a u : Matrix} → begin ≡ a → u ≡ placed m t a → u ≡ transpose m t
  unfolding transpose
  transpose_made e f = f ∙ ap (placed m t) (sym e)

  -- ---- and the transpose has it
  abbrev turned : Matrix
  turned = transpose m t

  all_put : Putting n turned
  unfolding transpose placed
  all_put = putting m (le_refl m)

  starts_at : (q : ℕ) → q ≤ m → turned.starts # q ≡ before_row l q n
  starts_at q h = omega (arith, all_put.at q h, before_next l q n)

  starts_next : (q : ℕ) → q < m → turned.starts # (q + 1) ≡ before_row l (suc q) n
  starts_next q h = rw (add-one q) (starts_at (suc q) (omega arith))

  holds : (c k : ℕ) → c < m → t.starts # c ≤ k → k < t.starts # (c + 1) → Stands t turned n c k
  holds c k h a b =
      let in-n : k < n = omega (arith, starts_grow (c + 1) m (omega arith) (le_refl m)) in
      let w = place_in k in-n in
      let i = r.inside k in-n in
      let v = all_put.there c k in-n h a b in
      record {
        begins = omega (arith, starts_at (l # k) (omega (arith, i)), w.low);
        ends = omega
            (arith, starts_next (l # k) i, w.high);
        row = v.0;
        val = v.1;
      }

  only : (q p : ℕ) → q < m → turned.starts # q ≤ p → p < turned.starts # (q + 1)
      → (k : ℕ) × (k < n) × (l # k ≡ q) × (place_of l n k ≡ p)
  only q p h a b =
      let s = before_next l q n in
      let low = starts_at q (omega arith) in
      let high = starts_next q h in
      let w = nth l q n (before_row l (suc q) n - p) (omega (arith, high)) (omega (arith, s, low)) in
      (w.0, w.1, w.2, rw w.2 (omega (arith, w.3, high)))

  falling : (q x y : ℕ) → q < m → turned.starts # q ≤ x → x < y → y < turned.starts # (q + 1)
      → turned.rows # y ≤ turned.rows # x
  falling q x y h a b c =
      let u = only q x h a (omega arith) in
      let v = only q y h (omega arith) c in
      let less : v.0 < u.0 = ⊎_elim
      (λ (i : v.0 < u.0). i)
      (λ (i : u.0 ≤ v.0). ⊎_elim
      (λ (j : u.0 < v.0). absurd (omega (arith, later_first u.0 v.0 j v.1 (u.2 ∙ sym v.2), u.3, v.3)))
      (λ (j : u.0 ≡ v.0). absurd (omega (arith, ap (place_of l n) j, u.3, v.3)))
      (last? u.0 v.0 (omega arith)))
      (which v.0 u.0) in
      let d = column_of_holds m u.0 (le_refl m) u.1 in
      let e = column_of_holds m v.0 (le_refl m) v.1 in
      let row-x = rw u.3 at (holds d.0 u.0 d.1 d.2 d.3).row in
      let row-y = rw v.3 at (holds e.0 v.0 e.1 e.2 e.3).row in
      ⊎_elim
      (λ (i : d.0 < e.0). absurd (omega (
        arith,
        starts_grow (d.0 + 1) e.0 (omega arith) (omega (arith, e.1)),
        d.3,
        e.2,
        less,
      )))
      (λ (i : e.0 ≤ d.0). omega (arith, row-x, row-y))
      (which d.0 e.0)

  pub transposed : Transposed m t turned
  transposed =
      record {
        starts_at = starts_at;
        as_many = starts_at m (le_refl m) ∙ before_all l m n r.inside;
        holds = holds;
        only = only;
        later_first = later_first;
        falling = falling;
      }
