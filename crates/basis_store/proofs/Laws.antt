-- The tail of the store, lent and put back, and the room that `eta_fits` shows. No contract cites this file. Assumes nothing.
use mathlib.Core.Path.{◌≡◌, refl, sym, ◌∙◌}
use mathlib.Core.Bool.{true}
use mathlib.Core.List.{List}
use Prim.Native.Nat.{ℕ, ◌+◌, ◌-◌, ◌≤◌}
use native.Mathlib.Omega.{arith}
use lib.ListN.{length, set, length-set}
use lib.Ieee.{Float}
use borrow.Author.Tests.{ltb-true, leb-true}
use borrow.Rule.Slice.PartMut.{put_mid}
use Rattle.doubles.specs.Limits.{eta_columns, eta_entries}
use Rattle.doubles.specs.Loop.{run}
use Rattle.doubles.specs.Lists.{◌#◌}
use Rattle.doubles.proofs.Loops.{keeps, both_true}
use Rattle.sparse.specs.Scattered.{Sv}
use Rattle.rules.specs.Plan.{State}
use Rattle.rules.specs.Basis.{Tail, tail, write_turn, write_column, push_eta, eta_used, eta_fits}
use Rattle.state.specs.Packed.{section, packed, Sized, eta_leaving_at, eta_starts_at, eta_rows_at, kept_at, eta_coeffs_at, dual_norms_at}
use Rattle.state.proofs.Sections.{section_at, section_tail, written, tail_lent}
use Rattle.state.proofs.Moves.{as_lent, in_eta_leaving, in_eta_starts, in_eta_rows, in_eta_coeffs}
use Rattle.basis_store.specs.Room.{Room, column_pushed}

-- ---- the writer keeps the tail's lengths
pub record Long (a b : ℕ) (t : Tail) : Type 0 where
  pub rows_long : length t.rows ≡ a
  pub coeffs_long : length t.coeffs ≡ b

pub writing_long : (c : Sv) (row : ℕ) (pivot : Float) (t : Tail) (k : ℕ) → k ≤ c.pat.count → Long (length t.rows) (length t.coeffs) (run (write_turn c row pivot) k t)
writing_long c row pivot t k h =
    keeps (write_turn c row pivot) t (λ _. Long (length t.rows) (length t.coeffs)) c.pat.count
    (λ j u b w. record { rows_long = simp length-set w.rows_long; coeffs_long = simp length-set w.coeffs_long })
    (record { rows_long = refl; coeffs_long = refl }) k h

-- ---- the tail of a section, lent from the middle of an array and put back
module _ (c : Sv) (row : ℕ) (pivot : Float) (n : ℕ) (N : List ℕ) (D : List Float) (s : Sized N D) (room : Room (packed N D).etas n c.pat.count) where
  abbrev used : ℕ
  used = N # (eta_starts_at + n)

  pub used_is : used ≡ (packed N D).etas.starts # n
  used_is = sym (section_at eta_starts_at (eta_columns + 1) N n 0 (omega (arith, room)))

  pub used_fits : used + c.pat.count ≤ eta_entries
  used_fits = omega (arith, used_is, room)

  module _ (t : Tail) (e : t ≡ write_column c row pivot (tail (section (eta_rows_at + used) (kept_at - (eta_rows_at + used)) N) (section (eta_coeffs_at + used) (dual_norms_at - (eta_coeffs_at + used)) D)))
      (rows-kept : length t.rows ≡ length (section (eta_rows_at + used) (kept_at - (eta_rows_at + used)) N))
      (coeffs_kept : length t.coeffs ≡ length (section (eta_coeffs_at + used) (dual_norms_at - (eta_coeffs_at + used)) D)) where
    abbrev M : List ℕ
    M = put_mid (eta_rows_at + used) (kept_at - (eta_rows_at + used)) N t.rows

    pub push_is : packed (set (set M (eta_leaving_at + n) row) (eta_starts_at + (n + 1)) (used + c.pat.count)) (put_mid (eta_coeffs_at + used) (dual_norms_at - (eta_coeffs_at + used)) D t.coeffs) ≡ column_pushed c row pivot n (packed N D)
    unfolding push_eta
    push_is =
        let h1 = in_eta_rows (as_lent N D) (tail_lent eta_rows_at eta_entries N used (kept_at - (eta_rows_at + used)) t.rows (omega (arith, used_fits)) (omega (arith, s)) rows-kept) in
        let h2 = in_eta_coeffs h1 (tail_lent eta_coeffs_at eta_entries D used (dual_norms_at - (eta_coeffs_at + used)) t.coeffs (omega (arith, used_fits)) (omega (arith, s)) coeffs_kept) in
        let h3 = in_eta_leaving h2 (written eta_leaving_at eta_columns M n row room.column_room) in
        let h4 = in_eta_starts h3 (written eta_starts_at (eta_columns + 1) (set M (eta_leaving_at + n) row) (n + 1) (used + c.pat.count) (omega (arith, room))) in
        h4.is ∙ rw (e, section_tail eta_rows_at eta_entries used (kept_at - (eta_rows_at + used)) N (omega (arith, used_fits)) (omega (arith, s)), section_tail eta_coeffs_at eta_entries used (dual_norms_at - (eta_coeffs_at + used)) D (omega (arith, used_fits)) (omega (arith, s)), used_is)

-- ---- after `eta_fits`: the room that `push_eta` asks
pub fits_room : (s : State) (k : ℕ) → eta_fits s k ≡ true → Room s.ws.etas s.eta_count k
unfolding eta_fits
fits_room s k e =
    let b = both_true _ _ e in
    let n = ltb-true s.eta_count eta_columns b.0 in
    let u = leb-true (eta_used s + k) eta_entries b.1 in
    record { column_room = n; entries_room = u }
