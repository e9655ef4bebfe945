-- What a write refuses, and what it leaves. Assumes nothing.
use mathlib.Core.Path.{◌≡◌, refl, sym, ap, ◌∙◌}
use mathlib.Core.Bool.{Bool, true, false, ◌&&◌}
use mathlib.Core.List.{List, [], ◌∷◌, ◌++◌}
use Prim.Native.Nat.{ℕ, zero, suc, ◌+◌, ◌*◌, ◌<◌, ◌≤◌}
use native.Mathlib.Nat.{zero-add}
use native.Mathlib.Omega.{arith}
use lib.Dec.{leb}
use lib.ListN.{length, drop}
use lib.Seq.{sets, sets-eq}
use lib.IntN.{ℤ}
use borrow.Author.Tests.{le-leb, lt-leb, leb-true}
use Rattle.doubles.specs.Limits.{max_rows, max_columns}
use Rattle.doubles.specs.Lists.{over}
use Rattle.doubles.specs.Loop.{table}
use Rattle.doubles.proofs.Bools.{by_test, never}
use Rattle.doubles.proofs.Loops.{both_true, length_tab}
use Rattle.sheet_rules.specs.Sheet.{Plan, plan_of, fresh}
use Rattle.sheet_rules.specs.Opening.{first_failed, sizes_fine, numbers_fine, uncrossed}
use Rattle.sheet_tests.specs.Sized.{PlanSized}
use Rattle.file_rules.specs.Block.{size_of_block}
use Rattle.file_rules.specs.PlanFile.{ceil, shape, write_file, Held, plan_sized}
use Rattle.file_rules.specs.Calls.{write_refusal, writing_by, written_by, Writes}
use Rattle.file_rules.specs.declared.Writing.TheVariants.{Written, Refused}
use Rattle.file_rules.proofs.File.{fits, file_length}
use Rattle.file_plan.specs.Room.{block_count, Roomy}
use Rattle.file_open.specs.Places.{places_of}
use Rattle.file_open.proofs.Payload.{shape_end}

-- ---- 11: the sizes and the ten arrays
pub and_true : (b : Bool) → b && true ≡ b
and_true true = refl
and_true false = refl

pub sized_is : (m n : ℕ) (co c l u : List ℤ) (lm um : List ℕ) (r : List ℤ) (o : List ℕ) (x y : List ℤ) → plan_sized (plan_of m n co c l u lm um r o x y)
    ≡ (leb m max_rows && leb n max_columns && leb (m * n) (length co) && leb n (length c) && leb n (length l) && leb n (length u) && leb n (length lm) && leb n (length um) && leb m (length r) && leb m (length o) && leb n (length x) && leb m (length y))
unfolding plan_sized sizes_fine fresh
sized_is m n co c l u lm um r o x y = rw (length_tab m 0 _, length_tab n 0 _, le-leb m m (omega arith), le-leb n n (omega arith)) (simp and_true)

-- what they promise once 11 has looked at them
pub sized_plan : (p : Plan) → plan_sized p ≡ true → PlanSized p
sized_plan p z =
    let k = fits p z in
    record {
      rows_few = k.rows_fit;
      cols_few = k.cols_fit;
      coefs_long = k.coefs_fit;
      costs_long = k.costs_fit;
      lowers_long = k.lowers_fit;
      uppers_long = k.uppers_fit;
      lower_marks_long = k.lower_marks_fit;
      upper_marks_long = k.upper_marks_fit;
      rhs_long = k.rhs_fit;
      ops_long = k.ops_fit;
      amounts_long = k.amounts_fit;
      mults_long = k.mults_fit;
    }

-- ---- the file's length, by the places
pub file_room : (p : Plan) → plan_sized p ≡ true → length (write_file p) ≡ size_of_block * ((places_of p.rows p.cols).end + 1)
file_room p z = file_length p z ∙ rw (shape_end p.rows p.cols) (omega arith)

-- ---- each answer
module _ (p : Plan) (out : List ℕ) where
  pub says_sizes : plan_sized p ≡ false → 11 ≡ write_refusal p out
  unfolding write_refusal first_failed
  says_sizes z = rw z

  pub says_short : plan_sized p ≡ true → length out < size_of_block * ((places_of p.rows p.cols).end + 1) → 11 ≡ write_refusal p out
  unfolding write_refusal first_failed
  says_short z h = rw (z, lt-leb (length (write_file p)) (length out) (rw (file_room p z) h))

  module _ (z : plan_sized p ≡ true) (h : size_of_block * ((places_of p.rows p.cols).end + 1) ≤ length out) where
    there : leb (length (write_file p)) (length out) ≡ true
    there = le-leb (length (write_file p)) (length out) (rw (file_room p z) h)

    pub says_number : numbers_fine p ≡ false → 12 ≡ write_refusal p out
    unfolding write_refusal first_failed
    says_number n = rw (z, there, n)

    pub says_crossed : numbers_fine p ≡ true → uncrossed p ≡ false → 13 ≡ write_refusal p out
    unfolding write_refusal first_failed
    says_crossed n u = rw (z, there, n, u)

    pub says_fine : numbers_fine p ≡ true → uncrossed p ≡ true → 0 ≡ write_refusal p out
    unfolding write_refusal first_failed
    says_fine n u = rw (z, there, n, u)

  -- ---- what 0 means
  pub record Accepted : Type 0 where
    pub held : Held p
    pub room : length (write_file p) ≤ length out

  pub accepted : write_refusal p out ≡ 0 → Accepted
  unfolding write_refusal first_failed
  accepted e =
      by_test (plan_sized p && leb (length (write_file p)) (length out)) (λ a.
      by_test (numbers_fine p) (λ b.
      by_test (uncrossed p) (λ d. let q = both_true (plan_sized p) (leb (length (write_file p)) (length out)) a in record { held = record { sizes_in_holds = q.0; numbers_in = b; bounds_in = d }; room = leb-true _ _ q.1 })
      (λ d. absurd (some d (rw (a, b, d) at e))))
      (λ b. absurd (some b (rw (a, b) at e))))
      (λ a. absurd (some a (rw a at e)))
    where
      some : {n : ℕ} {b : Bool} → b ≡ false → suc n ≡ 0 → ⊥
      some z e = omega arith

  -- ---- what is left
  pub writes_refused : (k : ℕ) → k ≡ write_refusal p out → (k ≡ 0 → ⊥) → Writes p out (Refused k) out
  unfolding writing_by written_by
  writes_refused zero e h = absurd (h refl)
  writes_refused (suc k) e h = record { answers = rw (← e); left = rw (← e) }

  pub writes_done : (k b : ℕ) (out' : List ℕ) → k ≡ write_refusal p out → k ≡ 0 → b ≡ block_count p.rows p.cols → out' ≡ sets out 0 (write_file p) → Writes p out (Written (size_of_block * b)) out'
  unfolding writing_by written_by
  writes_done k b out' e h q w =
      let z = sym e ∙ h in
      let a = accepted z in
      let n : length (write_file p) ≡ size_of_block * b = file_room p a.held.sizes_in_holds ∙ rw q (omega arith) in
      record {
        answers = rw (z, n);
        left = rw z (w ∙ sets-eq (write_file p) out 0 (omega (arith, a.room)) ∙ ap (λ (i : ℕ). write_file p ++ drop i out) (zero-add (length (write_file p))));
      }

-- ---- what the blocks' writer asks
pub roomy : (m n : ℕ) (co c l u : List ℤ) (lm um : List ℕ) (r : List ℤ) (o : List ℕ) (x y : List ℤ) (out : List ℕ) → write_refusal (plan_of m n co c l u lm um r o x y) out ≡ 0 → Roomy m n co c l u lm um r o x y out
roomy m n co c l u lm um r o x y out e =
    let q = accepted (plan_of m n co c l u lm um r o x y) out e in
    let k = fits (plan_of m n co c l u lm um r o x y) q.held.sizes_in_holds in
    let f = file_room (plan_of m n co c l u lm um r o x y) q.held.sizes_in_holds in
    record {
      rows_fit = k.rows_fit;
      cols_fit = k.cols_fit;
      coefs_fit = k.coefs_fit;
      costs_fit = k.costs_fit;
      lowers_fit = k.lowers_fit;
      uppers_fit = k.uppers_fit;
      lower_marks_fit = k.lower_marks_fit;
      upper_marks_fit = k.upper_marks_fit;
      rhs_fit = k.rhs_fit;
      ops_fit = k.ops_fit;
      amounts_fit = k.amounts_fit;
      mults_fit = k.mults_fit;
      out_fits = omega (arith, f, q.room);
    }
