-- `basis_factor::factorize` meets its contract: all columns, and then L's rows by their numbers. Assumes nothing.
use Prim.Native.Nat.{ℕ, ◌<◌}
use Rattle.sparse.specs.Scattered.{Sv}
use Rattle.lu_factor_rules.specs.Ready.{Vector}
use Rattle.lu_factor_rules.proofs.Keeps.{part_sound, renumberable}
use Rattle.lu_factor_rules.proofs.Turns.{whole_done, whole_wild, whole_flat, whole_factor}
use Rattle.basis_factor.specs.Basis.{columns_of}
use borrow.Author.Rules.{rules}
use Rattle.basis_factor.proofs.factorize.Statement.{statement}
use Rattle.basis_factor.proofs.factorize.Tie as tie

abbrev start : tie.After-factor_all-r → tie.Start
start k = search

abbrev cols : tie.Start → ℕ → Sv
cols s = let g = s.args in columns_of g.col_starts.now g.col_rows.now g.col_coeffs.now g.n
    g.basis.now

vector : (s : tie.Start) (i : ℕ) → i < s.args.m → Vector s.args.m (cols s i)
vector s i h = s.requires.0.1.vector i h

factor-all-requires : tie.Need-factor_all-r-requires
factor-all-requires c κs = let s : tie.Start = search in (s.requires.0, s.requires.1)

enum_told : tie.Need-enum_told-1
enum_told c = search rules

returns : tie.Need-returns-in-NotFinite
returns c =
    let k : tie.After-factor_all-r = search in
    whole_wild _ _ _ _ _ _ _ _ _ _ _ _ k.factor_all-r.ensures c.in-NotFinite.is

enum-told-2 : tie.Need-enum_told-in-Singular
enum-told-2 c = search rules

returns-2 : tie.Need-returns-in-Singular
returns-2 c =
    let k : tie.After-factor_all-r = search in
    whole_flat _ _ _ _ _ _ _ _ _ _ _ _ k.factor_all-r.ensures c.in-Singular.is

enum-known-r : tie.Need-enum_known-r
enum-known-r c = search rules

renumber-requires : tie.Need-renumber-requires
renumber-requires c κs =
    let v : tie.In-Done = search in
    let k : tie.After-factor_all-r = search in
    let s = start k in
    renumberable (part_sound (cols s) (vector s) s.requires.0.0
    (whole_done _ _ _ _ _ _ _ _ _ _ _ _ k.factor_all-r.ensures v.in-Done.is))

returns-3 : tie.Need-returns-in-Done
returns-3 c =
    let v : tie.In-Done = search in
    let k : tie.After-factor_all-r = search in
    let n : tie.After-renumber = search in
    whole_factor _ _ _ _ _ _ _ _ _ _ _ _ k.factor_all-r.ensures v.in-Done.is n.renumber.ensures

pub factorize_spec : {M : Type 1} → statement M
factorize_spec =
    tie.close
    (tie.spec
    factor-all-requires
    enum_told
    returns
    enum-told-2
    returns-2
    enum-known-r
    renumber-requires
    returns-3)
