-- `step_store::store_numbers` meets its contract: three sections are lent in turn. Assumes nothing.
use borrow.Author.Rules.{rules}
use borrow.Rule.Slice.PartMut.{put_mid, same_len_mid}
use mathlib.Core.Path.{◌≡◌, ap, ◌∙◌}
use mathlib.Core.List.{List, []}
use Prim.Native.Nat.{ℕ}
use native.Mathlib.Omega.{arith}
use lib.ListN.{length}
use lib.Ieee.{Float}
use Rattle.doubles.specs.Limits.{max_rows, max_columns}
use Rattle.sparse.specs.Scattered.{sv, sv_of}
use Rattle.rules.specs.Pivot.{stored}
use Rattle.state.specs.Packed.{section, basic_var_vals_at, prices_at, norms_at}
use Rattle.step_numbers.specs.Lent.{numbers_of}
use Rattle.step_numbers.proofs.Laws.{norm_is}
use Rattle.step_numbers.proofs.Parts.{listing_in}
use Rattle.step_store.proofs.Laws.{numbers_is}
use Rattle.step_store.proofs.store_numbers.Statement.{statement}
use Rattle.step_store.proofs.store_numbers.Tie as tie

-- the doubles after the basic values came back, as long as before
abbrev vals_put : tie.Start → tie.After-store_vals → List Float
vals_put s d = put_mid basic_var_vals_at max_rows s.args.doubles.now d.store_vals.new.basic_var_vals

vals_long : (s : tie.Start) (d : tie.After-store_vals) → length d.store_vals.new.basic_var_vals ≡ length (section basic_var_vals_at max_rows s.args.doubles.now) → length (vals_put s d) ≡ length s.args.doubles.now
vals_long s d e = same_len_mid basic_var_vals_at max_rows s.args.doubles.now d.store_vals.new.basic_var_vals e

-- and after the prices came back
abbrev norms-from : tie.Start → tie.After-store_vals → tie.After-store_prices → List Float
norms-from s d f = put_mid prices_at max_columns (vals_put s d) f.store_prices.new.prices

sub-store-vals : tie.Need-slice_bounds-store_vals-count
sub-store-vals c = search rules

part-store-vals-start : tie.Need-slice_bounds-store_vals-start
part-store-vals-start c = search rules

part-store-vals-end : tie.Need-slice_bounds-store_vals-end
part-store-vals-end c = search rules

store-vals-requires : tie.Need-store_vals-requires
store-vals-requires c κs = let s : tie.Start = search in listing_in basic_var_vals_at max_rows s.args.doubles.now (omega (arith, s.requires.1.1)) s.requires.0.0

sub-store-prices : tie.Need-slice_bounds-store_prices-count
sub-store-prices c = search rules

part-store-prices-start : tie.Need-slice_bounds-store_prices-start
part-store-prices-start c = search rules

part-store-prices-end : tie.Need-slice_bounds-store_prices-end
part-store-prices-end c = search rules

store-prices-requires : tie.Need-store_prices-requires
store-prices-requires c κs = let s : tie.Start = search in let d : tie.After-store_vals = search in listing_in prices_at max_columns (vals_put s d) (omega (arith, s.requires.1.1, vals_long s d d.store_vals.auto.basic_var_vals)) s.requires.1.0

sub-store-norms : tie.Need-slice_bounds-store_norms-count
sub-store-norms c = search rules

part-store-norms-start : tie.Need-slice_bounds-store_norms-start
part-store-norms-start c = search rules

part-store-norms-end : tie.Need-slice_bounds-store_norms-end
part-store-norms-end c = search rules

store-norms-requires : tie.Need-store_norms-requires
store-norms-requires c κs = let s : tie.Start = search in let d : tie.After-store_vals = search in let f : tie.After-store_prices = search in listing_in norms_at max_columns (norms-from s d f) (omega (arith, s.requires.1.1, vals_long s d d.store_vals.auto.basic_var_vals, same_len_mid prices_at max_columns (vals_put s d) f.store_prices.new.prices f.store_prices.auto.prices)) s.requires.1.0

same_length : tie.Need-shape_of-doubles
same_length c = search rules

returns : tie.Need-returns
returns c N m rm p =
    let s : tie.Start = search in
    let d : tie.After-store_vals = search in
    let f : tie.After-store_prices = search in
    let g : tie.After-store_norms = search in
    let a = s.args in
    let v = sv a.values.now m a.list.now a.count in
    let rv = sv a.row_values.now rm a.row_list.now a.row_count in
    numbers_is N a.doubles.now a.e v rv (sv_of a.helper.now p) a.x.value a.x.diff a.x.row a.x.pivot s.requires.1.1
    d.store_vals.new.basic_var_vals f.store_prices.new.prices g.store_norms.new.norms (d.store_vals.ensures m) d.store_vals.auto.basic_var_vals (f.store_prices.ensures rm) f.store_prices.auto.prices (g.store_norms.ensures rm
    ∙ ap (λ (h : ℕ → Float). stored rv h (section norms_at max_columns (norms-from s d f)))
    (norm_is (numbers_of [] [] (section norms_at max_columns (norms-from s d f))) a.x.pivot a.sq a.e v rv (sv_of a.helper.now p) (s.requires.0.1 m)))
    g.store_norms.auto.norms

pub store_numbers_spec : {M : Type 1} → statement M
store_numbers_spec =
    tie.close
    (tie.spec
    sub-store-vals
    part-store-vals-start
    part-store-vals-end
    store-vals-requires
    sub-store-prices
    part-store-prices-start
    part-store-prices-end
    store-prices-requires
    sub-store-norms
    part-store-norms-start
    part-store-norms-end
    store-norms-requires
    same_length
    returns)
