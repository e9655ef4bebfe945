-- D of every column, row by row: what it is after some rows, and that one row more takes its part off. Assumes nothing.
use mathlib.Core.Path.{◌≡◌, refl, sym, ap, ◌∙◌}
use mathlib.Core.Bool.{true}
use mathlib.Core.List.{List}
use Prim.Native.Nat.{ℕ, ◌+◌, ◌*◌, ◌≤◌, ◌<◌}
use native.Mathlib.Nat.{le_trans, le_antisymm}
use native.Mathlib.Numerals.{add-one}
use native.Mathlib.Omega.{arith}
use lib.Dec.{lit≤}
use lib.IntN.{ℤ, pos, ◌+ℤ◌, ◌-ℤ◌, ◌*ℤ◌, *ℤ-zero, +ℤ_idr}
use lib.ListN.{length, drop, length-append}
use lib.Seq.{drop-append_seam}
use Rattle.doubles.specs.Limits.{max_rows, max_coefficient, max_cost, max_multiplier, max_d, unit}
use Rattle.doubles.specs.Lists.{over}
use Rattle.doubles.specs.Loop.{run, table}
use Rattle.doubles.proofs.Loops.{length_tab, over_same}
use Rattle.sheet_rules.specs.Sum.{◌‼◌, sum, dot}
use Rattle.sheet_rules.specs.Verdict.{is_zero}
use Rattle.sheet_rules.proofs.Fronts.{front}
use Rattle.sheet_rules.proofs.Local.{place_in}
use Rattle.sheet_rules.proofs.Ring.{ring}
use Rattle.sheet_rules.proofs.Sizes.{mul_size, sub_size, up_to}
use Rattle.sheet_rules.proofs.Tests.{zero_decides}
use Rattle.sheet_terms.specs.Small.{Small}
use Rattle.sheet_open.proofs.Laws.{row_within, cut, cut_long, cut_at}

-- past what is written, nothing changes
past_table : (n : ℕ) (f : ℕ → ℤ) (l : List ℤ) → drop n (over (table n f) l) ≡ drop n l
past_table n f l =
    ap (λ (k : ℕ). drop k (over (table n f) l)) (sym (length_tab n 0 f))
    ∙ drop-append_seam (table n f) (drop (length (table n f)) l)
    ∙ ap (λ (k : ℕ). drop k l) (length_tab n 0 f)

less : (a b c : ℤ) → a -ℤ (b +ℤ c) ≡ a -ℤ b -ℤ c
less a b c = simp ring

module _ (coefs costs mults : List ℤ) (n : ℕ) where
  -- D of column j with the first i rows taken off
  abbrev pub price_at : ℕ → ℕ → ℤ
  price_at i j = pos unit *ℤ costs ‼ j -ℤ dot i (λ k. coefs ‼ (k * n + j)) (λ k. mults ‼ k)

  row_more : (i j : ℕ) → price_at i j -ℤ coefs ‼ (i * n + j) *ℤ mults ‼ i ≡ price_at (i + 1) j
  unfolding sum run
  row_more i j = rw (add-one i) (sym (less (pos unit *ℤ costs ‼ j) (dot i (λ k. coefs ‼ (k * n + j)) (λ k. mults ‼ k)) (coefs ‼ (i * n + j) *ℤ mults ‼ i)))

  -- before the first row, and after the last
  pub none_yet : (d₀ d : List ℤ) → d ≡ over (table n (λ j. pos unit *ℤ costs ‼ j)) d₀ → d ≡ over (table n (price_at 0)) d
  unfolding sum run
  none_yet d₀ d e =
      e
      ∙ over_same (λ j. pos unit *ℤ costs ‼ j) (price_at 0) n d₀ d (λ j h. sym (+ℤ_idr (pos unit *ℤ costs ‼ j)))
      (sym (ap (drop n) e ∙ past_table n (λ j. pos unit *ℤ costs ‼ j) d₀))

  pub all_off : (d₀ d e : List ℤ) (i m : ℕ) → i ≤ m → m ≤ i → d ≡ over (table n (λ j. pos unit *ℤ costs ‼ j)) d₀ → e ≡ over (table n (price_at i)) d
      → e ≡ over (table n (price_at m)) d₀
  all_off d₀ d e i m h k ed ee =
      ee
      ∙ over_same (price_at i) (price_at m) n d d₀ (λ j l. ap (λ (t : ℕ). price_at t j) (le_antisymm h k))
      (ap (drop n) ed ∙ past_table n (λ j. pos unit *ℤ costs ‼ j) d₀)

  -- a multiplier of 0 takes nothing off
  pub row_passed : (d₀ : List ℤ) (i : ℕ) → is_zero (mults ‼ i) ≡ true → over (table n (price_at i)) d₀ ≡ over (table n (price_at (i + 1))) d₀
  row_passed d₀ i z =
      over_same (price_at i) (price_at (i + 1)) n d₀ d₀ (λ j h.
      let none : coefs ‼ (i * n + j) *ℤ mults ‼ i ≡ pos 0 =
      ap (λ (m : ℤ). coefs ‼ (i * n + j) *ℤ m) ((zero_decides (mults ‼ i)).yes_so z) ∙ *ℤ-zero (coefs ‼ (i * n + j)) in
      sym (ap (λ (t : ℤ). price_at i j -ℤ t) none ∙ +ℤ_idr (price_at i j)) ∙ row_more i j) refl

  pub row_off : (d₀ d e : List ℤ) (i m : ℕ) (y : ℤ) → i < m → m * n ≤ length coefs → y ≡ mults ‼ i → d ≡ over (table n (price_at i)) d₀
      → e ≡ over (table (length (cut coefs (i * n) n)) (λ j. d ‼ j -ℤ cut coefs (i * n) n ‼ j *ℤ y)) d
      → e ≡ over (table n (price_at (i + 1))) d₀
  row_off d₀ d e i m y l there ey ed ee =
      let long = cut_long coefs (i * n) n (le_trans (row_within i m n l) there) in
      let rest : drop n d ≡ drop n d₀ = ap (drop n) ed ∙ past_table n (price_at i) d₀ in
      ee
      ∙ ap (λ (k : ℕ). over (table k (λ j. d ‼ j -ℤ cut coefs (i * n) n ‼ j *ℤ y)) d) long
      ∙ over_same (λ j. d ‼ j -ℤ cut coefs (i * n) n ‼ j *ℤ y) (price_at (i + 1)) n d d₀ (λ j h.
      (λ t. (ap (λ (q : List ℤ). q ‼ j) ed ∙ front n (price_at i) d₀ j h) t -ℤ cut_at coefs (i * n) n j h t *ℤ ey t) ∙ row_more i j) rest

  -- what taking a row off asks
  pub prices_asked : (d₀ d : List ℤ) (i m : ℕ) → m ≤ max_rows → i < m → Small max_coefficient (m * n) coefs → Small max_cost n costs → Small max_multiplier m mults → d ≡ over (table n (price_at i)) d₀
      → Small max_d (length (cut coefs (i * n) n)) d
  prices_asked d₀ d i m few l a k y ed =
      rw (cut_long coefs (i * n) n (le_trans (row_within i m n l) a.there)) record {
        there = rw ed (simp (length-append, length_tab) (omega arith));
        at = λ j h. rw (ed, front n (price_at i) d₀ j h)
            (le_trans
            (sub_size (pos unit *ℤ costs ‼ j) (dot i (λ k. coefs ‼ (k * n + j)) (λ k. mults ‼ k)) (unit * max_cost) (max_rows * (max_coefficient * max_multiplier))
            (mul_size (pos unit) (costs ‼ j) unit max_cost (lit≤ tt) (k.at j h))
            (up_to max_rows (max_coefficient * max_multiplier) i _ (omega arith) (λ t q. mul_size (coefs ‼ (t * n + j)) (mults ‼ t) max_coefficient max_multiplier (a.at _ (place_in t m j n (omega arith) h)) (y.at t (omega arith)))))
            (lit≤ tt));
      }

  pub row_small : (i m : ℕ) → i < m → Small max_coefficient (m * n) coefs → Small max_coefficient (length (cut coefs (i * n) n)) (cut coefs (i * n) n)
  row_small i m l a =
      let long = cut_long coefs (i * n) n (le_trans (row_within i m n l) a.there) in
      rw long record { there = omega (arith, long); at = λ j h. rw (cut_at coefs (i * n) n j h) (a.at (i * n + j) (omega (arith, row_within i m n l))) }
