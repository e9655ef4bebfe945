-- `fix_gate::is_fixed` meets its contract: where the column stands, and its mark. Assumes nothing.
use borrow.Author.Rules.{rules}
use mathlib.Core.Path.{sym, ap, ◌∙◌}
use native.Mathlib.Omega.{arith}
use Rattle.rules.specs.declared.NonBasicVarState.{NonBasicVarState}
use Rattle.check_final.proofs.Laws.{place_cell}
use Rattle.fix_gate.proofs.Laws.{basic_loose, place_marked}
use Rattle.fix_gate.proofs.is_fixed.Statement.{statement}
use Rattle.fix_gate.proofs.is_fixed.Tie as tie

add-var-state : tie.Need-overflow_add-column
add-var-state c = search rules

mul-var-state : tie.Need-offset_bounds-numbers-column
mul-var-state c = search rules

shared-slice-read-var-state : tie.Need-bounds-numbers-column
shared-slice-read-var-state c = search rules

var-state-requires : tie.Need-var_state-standing-requires
var-state-requires c κs = search rules

enum_told : tie.Need-enum_told-1
enum_told c = search rules

returns : tie.Need-returns-in-Basic
returns c D =
    let s : tie.Start = search in
    let v : tie.After-var_state-standing = search in
    let w : tie.In-Basic = search in
    let a = s.args in
    basic_loose a.columns a.numbers.now D a.column (omega (arith, s.requires)) _
    (sym v.var_state-standing.ensures ∙ w.in-Basic.is)

enum-known-standing : tie.Need-enum_known-standing
enum-known-standing c = search rules

add-read-flags : tie.Need-overflow_add-col
add-read-flags c =
    let s : tie.Start = search in
    let v : tie.After-var_state-standing = search in
    let w : tie.In-NonBasic = search in
    omega (arith, s.requires, place_cell _ _ _ (sym v.var_state-standing.ensures ∙ w.in-NonBasic.is))

mul-read-flags : tie.Need-offset_bounds-numbers-col
mul-read-flags c =
    let s : tie.Start = search in
    let v : tie.After-var_state-standing = search in
    let w : tie.In-NonBasic = search in
    omega (arith, s.requires, place_cell _ _ _ (sym v.var_state-standing.ensures ∙ w.in-NonBasic.is))

shared-slice-read-read-flags : tie.Need-bounds-numbers-col
shared-slice-read-read-flags c =
    let s : tie.Start = search in
    let v : tie.After-var_state-standing = search in
    let w : tie.In-NonBasic = search in
    omega (arith, s.requires, place_cell _ _ _ (sym v.var_state-standing.ensures ∙ w.in-NonBasic.is))

read-flags-requires : tie.Need-read_flags-flags-requires
read-flags-requires c κs = search rules

returns-2 : tie.Need-returns-in-NonBasic
returns-2 c D =
    let s : tie.Start = search in
    let v : tie.After-var_state-standing = search in
    let w : tie.In-NonBasic = search in
    let f : tie.After-read_flags-flags = search in
    let a = s.args in
    let q = sym v.var_state-standing.ensures ∙ w.in-NonBasic.is in
    ap (λ (x : NonBasicVarState). x.«fixed») f.read_flags-flags.ensures
    ∙ place_marked a.columns a.numbers.now D a.column (omega (arith, s.requires)) _ q (omega (arith, s.requires, place_cell _ _ _ q))

pub is_fixed_spec : {M : Type 1} → statement M
is_fixed_spec =
    tie.close
    (tie.spec
    add-var-state
    mul-var-state
    shared-slice-read-var-state
    var-state-requires
    enum_told
    returns
    enum-known-standing
    add-read-flags
    mul-read-flags
    shared-slice-read-read-flags
    read-flags-requires
    returns-2)
