-- What the two calls mean, over what they promise (`Writes`, `Reads`). Assumes nothing.
use mathlib.Core.Path.{◌≡◌, refl, sym, ap, ap₂, ◌∙◌, subst}
use mathlib.Core.Logic.{◌⊎◌, inl, inr}
use mathlib.Core.Bool.{true, false}
use mathlib.Core.List.{List, [], ◌∷◌, ◌++◌}
use Prim.Native.Nat.{ℕ, zero, suc, ◌*◌, ◌/◌, ◌<◌, ◌≤◌}
use native.Mathlib.Omega.{arith}
use lib.ListN.{length, get_or, take, drop, set}
use lib.Seq.{take_at, drop_at}
use borrow.Author.Tests.{le-leb}
use lib.IntN.{ℤ}
use Rattle.doubles.specs.Lists.{◌#◌, over}
use Rattle.doubles.specs.Loop.{table}
use Rattle.doubles.proofs.Bools.{never}
use Rattle.doubles.proofs.Loops.{length_tab}
use Rattle.sheet_rules.specs.Sheet.{Plan, plan_of, sheet_of, fresh}
use Rattle.sheet_rules.specs.Opening.{first_failed, opening, sizes_fine, numbers_fine, uncrossed}
use Rattle.file_rules.specs.Bytes.{Bytes}
use Rattle.file_rules.specs.Block.{size_of_block}
use Rattle.file_rules.specs.PlanFile.{trimmed, write_file, Answer, refused, plan, plan_sized, resized, read_file}
use Rattle.file_rules.specs.Calls.{write_refusal, writing_by, written_by, Writes, reading_of, over_plan, left_of, Reads}
use Rattle.file_rules.specs.declared.Writing.{Writing}
use Rattle.file_rules.specs.declared.Writing.TheVariants.{Written, Refused}
use Rattle.file_rules.specs.declared.Reading.{Reading}
use Rattle.file_rules.specs.declared.Reading.TheVariants.{Held, Refused as Reading-as-Refused}
use Rattle.file_rules.proofs.File.{Changed, reads_written, one_file, byte_changed}
use Rattle.file_open.specs.Places.{plan_at}
use Rattle.file_decide.proofs.Writing.{and_true, Accepted, accepted}
use Rattle.file_decide.proofs.Reading.{Gives, held}

-- ---- any two results are equal
pub writes_alike : (p : Plan) (out : List ℕ) (a b : Writing) (x y : List ℕ) → Writes p out a x → Writes p out b y → (a ≡ b) × (x ≡ y)
writes_alike p out a b x y h g = (h.answers ∙ sym g.answers, h.left ∙ sym g.left)

pub reads_alike : (f : List ℕ) (l : Plan) (a b : Reading) (x y : Plan) → Reads f l a x → Reads f l b y → (a ≡ b) × (x ≡ y)
reads_alike f l a b x y h g = (h.answers ∙ sym g.answers, h.left ∙ sym g.left)

-- ---- a refusal leaves every lent cell as it was
pub write_refused_leaves : (p : Plan) (out out' : List ℕ) (k : ℕ) → Writes p out (Refused k) out' → out' ≡ out
unfolding writing_by written_by
write_refused_leaves p out out' k h = at (write_refusal p out) h.answers h.left
  where
    at : (r : ℕ) → Refused k ≡ writing_by r p → out' ≡ written_by r p out → out' ≡ out
    at zero e q = absurd (let z : ◌≡◌ {A = ℕ} 0 1 = cc in omega arith)
    at (suc r) e q = q

pub read_refused_leaves : (f : List ℕ) (l l' : Plan) (k b : ℕ) → Reads f l (Reading-as-Refused k b) l' → l' ≡ l
unfolding reading_of left_of
read_refused_leaves f l l' k b h = at (read_file l f) h.answers h.left
  where
    at : (a : Answer) → Reading-as-Refused k b ≡ reading_of a → l' ≡ left_of a l → l' ≡ l
    at (refused i j) e q = q
    at (plan p) e q = absurd (let z : ◌≡◌ {A = ℕ} 0 1 = cc in omega arith)

-- ---- writing refuses with opening's number what opening refuses, where the file fits
pub writes_as_opening : (p : Plan) (out : List ℕ) → length (write_file p) ≤ length out → write_refusal p out ≡ opening (sheet_of p (fresh p))
unfolding write_refusal opening first_failed plan_sized
writes_as_opening p out h = rw (le-leb (length (write_file p)) (length out) h, and_true (sizes_fine (sheet_of p (fresh p))))

-- ---- what a write leaves: the file, and the cells behind it as they were
pub record Wrote (p : Plan) (out out' : List ℕ) (n : ℕ) : Type 0 where
  pub ok : Accepted p out
  pub bytes : n ≡ length (write_file p)
  pub file : take n out' ≡ write_file p
  pub rest : drop n out' ≡ drop n out

pub wrote : (p : Plan) (out out' : List ℕ) (n : ℕ) → Writes p out (Written n) out' → Wrote p out out' n
unfolding writing_by written_by
wrote p out out' n h = at (write_refusal p out) refl h.answers h.left
  where
    at : (r : ℕ) → write_refusal p out ≡ r → Written n ≡ writing_by r p → out' ≡ written_by r p out → Wrote p out out' n
    at (suc r) z e q = absurd (let z : ◌≡◌ {A = ℕ} 0 1 = cc in omega arith)
    at zero z e q =
        let b : n ≡ length (write_file p) = cc in
        record {
          ok = accepted p out z;
          bytes = b;
          file = ap (take n) q ∙ take_at (write_file p) (drop (length (write_file p)) out) n (sym b);
          rest = ap (drop n) q ∙ drop_at (write_file p) (drop (length (write_file p)) out) n (sym b) ∙ ap (λ (i : ℕ). drop i out) (sym b);
        }

-- ---- "Reading what was written gives the same plan": sizes and all ten arrays
pub written_reads : (p : Plan) (out out' : List ℕ) (n : ℕ) (l l' : Plan) (a : Reading) → Writes p out (Written n) out' → plan_sized (resized p.rows p.cols l) ≡ true → Reads (take n out') l a l' → (a ≡ Held p.rows p.cols) × (l' ≡ over_plan (trimmed p) l)
unfolding reading_of left_of trimmed
written_reads p out out' n l l' a h z r =
    let w = wrote p out out' n h in
    let e : read_file l (take n out') ≡ plan (trimmed p) = ap (read_file l) w.file ∙ reads_written p w.ok.held l z in
    (r.answers ∙ ap reading_of e, r.left ∙ ap (λ (x : Answer). left_of x l) e)

-- ---- "changing any one byte of a block is always refused": at that byte's block, and the arrays are as they were
pub changed_refused : (p : Plan) (out out' : List ℕ) (n k v : ℕ) (l l' : Plan) (a : Reading) → Writes p out (Written n) out' → plan_sized (resized p.rows p.cols l) ≡ true → k < n → (v ≡ take n out' # k → ⊥) → Reads (set (take n out') k v) l a l'
    → ((a ≡ Reading-as-Refused 31 (k / size_of_block)) ⊎ (a ≡ Reading-as-Refused 32 (k / size_of_block))) × (l' ≡ l)
unfolding reading_of left_of
changed_refused p out out' n k v l l' a h z i ne r =
    let w = wrote p out out' n h in
    let c = byte_changed l p w.ok.held k v (rw (← w.bytes) i) (λ e. ne (e ∙ ap (λ (g : List ℕ). g # k) (sym w.file))) in
    at (read_file l (set (take n out') k v)) (subst (λ (g : List ℕ). Changed (plan_sized (resized p.rows p.cols l)) (k / size_of_block) (read_file l (set g k v))) (sym w.file) c) r.answers r.left
  where
    at : (x : Answer) → Changed (plan_sized (resized p.rows p.cols l)) (k / size_of_block) x → a ≡ reading_of x → l' ≡ left_of x l → ((a ≡ Reading-as-Refused 31 (k / size_of_block)) ⊎ (a ≡ Reading-as-Refused 32 (k / size_of_block))) × (l' ≡ l)
    at x (inl (inl e)) q u = (inl (q ∙ ap reading_of e), u ∙ ap (λ (y : Answer). left_of y l) e)
    at x (inl (inr e)) q u = (inr (q ∙ ap reading_of e), u ∙ ap (λ (y : Answer). left_of y l) e)
    at x (inr s) q u = never z s.0

-- ---- "one plan has one file": a file that is read is the one that is written for what was read
trim_over : {A : Type 0} (n : ℕ) (g : ℕ → A) (l : List A) → take n (over (table n g) l) ≡ table n g
trim_over n g l = take_at (table n g) (drop (length (table n g)) l) n (length_tab n 0 g)

read_plan_is : (f : List ℕ) (m n : ℕ) (l : Plan) → trimmed (resized m n (over_plan (plan_at f m n) l)) ≡ plan_at f m n
unfolding trimmed resized over_plan plan_at
read_plan_is f m n l = simp trim_over

pub read_file_is : (f : List ℕ) (l l' : Plan) (m n : ℕ) → Bytes f → Reads f l (Held m n) l' → f ≡ write_file (trimmed (resized m n l'))
unfolding left_of
read_file_is f l l' m n b r =
    let g = held l f m n (sym r.answers) in
    let q : l' ≡ over_plan (plan_at f m n) l = r.left ∙ ap (λ (x : Answer). left_of x l) g.gives in
    one_file l f (plan_at f m n) b g.gives ∙ ap write_file (sym (read_plan_is f m n l) ∙ ap (λ (x : Plan). trimmed (resized m n x)) (sym q))

pub one_plan_one_file : (f g : List ℕ) (l l' k k' : Plan) (m n : ℕ) → Bytes f → Bytes g → Reads f l (Held m n) l' → Reads g k (Held m n) k' → trimmed (resized m n l') ≡ trimmed (resized m n k') → f ≡ g
one_plan_one_file f g l l' k k' m n b c r s e = read_file_is f l l' m n b r ∙ ap write_file e ∙ sym (read_file_is g k k' m n c s)
