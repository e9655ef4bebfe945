-- `lu_transpose::place_column` meets its contract. Assumes nothing.
use Rattle.std.proofs.Common.{◌≡◌, ℕ, List, ◌+◌, ◌-◌, ◌<◌, ◌≤◌, length, get_or, drop, arith, refl, rules, sym, subst, ◌∙◌}
use lib.ListN.{length-append, length-drop}
use lib.Seq.{get_or-drop, length-take-le}
use Rattle.std.proofs.lemmas.Slice.Zip.{zip_turn, zip_end}
use Rattle.std.specs.Float.{nan}
use Rattle.doubles.specs.Loop.{run}
use Rattle.doubles.specs.Lists.{◌#◌, ◌!◌, part}
use Rattle.doubles.proofs.Loops.{next, done}
use Rattle.lu_factor_rules.specs.Transpose.{placed_column}
use Rattle.lu_transpose.specs.Read.{Room}
use Rattle.doubles.proofs.Items.{within, item}
use Rattle.lu_transpose.proofs.place_column.Goals as goal

-- a part of a list is as long as its ends say, and its k-th item is the list's
module _ {A : Type 0} (a e : ℕ) (l : List A) (rises : a ≤ e) (ends : e ≤ length l) where
  part_fits : e - a ≤ length (drop a l)
  part_fits = rw length-drop (omega arith)

  part_item : {k : ℕ} → k < length (part a e l) → (d : A) → get_or (part a e l) k d ≡ get_or l (a + k) d
  part_item {k} h d = item (e - a) (drop a l) part_fits h d ∙ get_or-drop a l k d

pub loop-r-init : goal.loop-r-init
unfolding run
loop-r-init c = refl

pub place_one-requires : goal.place_one-requires
place_one-requires c =
    let w = c.requires.column_read in
    let a = c.args.starts.now # c.args.c in
    let e = c.args.starts.now # (c.args.c + 1) in
    let z = zip_turn (part a e c.args.rows.now) (part a e c.args.vals.now) c.loop-r.yielded c.into_iter-r-iterator.result c.loop-r.r-iterator c.next.new.self c.next.result (search rules) (search rules) c.loop-r.yielded_by (c.in-Some.field-0-0, c.in-Some.field-0-1) c.in-Some.is c.next.ensures.steps in
    let q : c.in-Some.field-0-0.now ≡ c.args.rows.now # (a + length c.loop-r.yielded) = z.2 0 ∙ part_item a e c.args.rows.now w.rises w.rows_end z.0 0 in
    rw q (subst (Room _) (sym c.loop-r.invariant) (c.requires.column_room.room (length c.loop-r.yielded) (within _ _ (part_fits a e c.args.rows.now w.rises w.rows_end) z.0)))

pub loop-r-preserved : goal.loop-r-preserved
loop-r-preserved c =
    let w = c.requires.column_read in
    let a = c.args.starts.now # c.args.c in
    let e = c.args.starts.now # (c.args.c + 1) in
    let z = zip_turn (part a e c.args.rows.now) (part a e c.args.vals.now) c.loop-r.yielded c.into_iter-r-iterator.result c.loop-r.r-iterator c.next.new.self c.next.result (search rules) (search rules) c.loop-r.yielded_by (c.in-Some.field-0-0, c.in-Some.field-0-1) c.in-Some.is c.next.ensures.steps in
    let q : c.in-Some.field-0-0.now ≡ c.args.rows.now # (a + length c.loop-r.yielded) = z.2 0 ∙ part_item a e c.args.rows.now w.rises w.rows_end z.0 0 in
    let r : c.in-Some.field-0-1.now ≡ c.args.vals.now ! (a + length c.loop-r.yielded) = z.3 nan ∙ part_item a e c.args.vals.now w.rises w.vals_end z.1 nan in
    rw length-append (next _ _ (length c.loop-r.yielded) c.loop-r.invariant (rw (q, r) at c.place_one.ensures))

pub returns : goal.returns
unfolding placed_column
returns c =
    let w = c.requires.column_read in
    let a = c.args.starts.now # c.args.c in
    let e = c.args.starts.now # (c.args.c + 1) in
    let z = zip_end (part a e c.args.rows.now) (part a e c.args.vals.now) c.loop-r.yielded c.into_iter-r-iterator.result c.loop-r.r-iterator c.next.new.self c.next.result (search rules) (search rules) c.loop-r.yielded_by c.in-None.is c.next.ensures.steps in
    let p = length-take-le (e - a) (drop a c.args.rows.now) (part_fits a e c.args.rows.now w.rises w.rows_end) in
    let q = length-take-le (e - a) (drop a c.args.vals.now) (part_fits a e c.args.vals.now w.rises w.vals_end) in
    let n : length c.loop-r.yielded ≡ e - a = omega (arith, z, p, q) in
    done _ _ _ _ (omega (arith, n)) (omega (arith, n)) c.loop-r.invariant
