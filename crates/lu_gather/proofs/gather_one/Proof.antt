-- `lu_gather::gather_one` meets its contract. Assumes nothing.
use native.Mathlib.Omega.{arith}
use borrow.Author.Tests.{lt-ltb, le-ltb, ne_eqb}
use Rattle.lu_factor_rules.proofs.Laws.{gather_zero, gather_upper, gather_pivot, gather_lower}
use borrow.Author.Rules.{rules}
use Rattle.lu_gather.proofs.gather_one.Statement.{statement}
use Rattle.lu_gather.proofs.gather_one.Tie as tie

returns : tie.Need-returns-then-x
returns c = gather_zero _ _ _ _ _ _ _ c.if-x.true

mul-j : tie.Need-offset_bounds-number-r
mul-j c = search rules

element-copy-out-j : tie.Need-bounds-number-r
element-copy-out-j c = search rules

mul-urows : tie.Need-offset_bounds-urows-at
mul-urows c = let s : tie.Start = search in let e : tie.Then-j-i = search in omega
    (arith, s.requires.1.upper_room (lt-ltb _ _ e.if-j-i.true))

element-write-urows : tie.Need-bounds-urows-at
element-write-urows c = let s : tie.Start = search in let e : tie.Then-j-i = search in omega
    (arith, s.requires.1.upper_room (lt-ltb _ _ e.if-j-i.true))

mul-uvals : tie.Need-offset_bounds-uvals-at
mul-uvals c = let s : tie.Start = search in let e : tie.Then-j-i = search in omega
    (arith, s.requires.1.upper_room (lt-ltb _ _ e.if-j-i.true))

element-write-uvals : tie.Need-bounds-uvals-at
element-write-uvals c = let s : tie.Start = search in let e : tie.Then-j-i = search in omega
    (arith, s.requires.1.upper_room (lt-ltb _ _ e.if-j-i.true))

add-t20 : tie.Need-overflow_add-result
add-t20 c = let s : tie.Start = search in let e : tie.Then-j-i = search in omega
    (arith, s.requires.1.upper_room (lt-ltb _ _ e.if-j-i.true))

returns-2 : tie.Need-returns-then-j-i
returns-2 c = let a : tie.Else-x = search in gather_upper _ _ _ _ _ _ _ a.if-x.false c.if-j-i.true

returns-3 : tie.Need-returns-then-r-row
returns-3 c = let a : tie.Else-x = search in let b : tie.Else-j-i = search in gather_pivot _ _ _ _ _ _ _ a.if-x.false
    b.if-j-i.false c.if-r-row.true

mul-lrows : tie.Need-offset_bounds-lrows-at
mul-lrows c = let s : tie.Start = search in let e : tie.Else-j-i = search in let f : tie.Else-r-row = search in omega
    (arith, s.requires.1.lower_room (le-ltb _ _ e.if-j-i.false) (ne_eqb _ _ f.if-r-row.false))

element-write-lrows : tie.Need-bounds-lrows-at
element-write-lrows c = let s : tie.Start = search in let e : tie.Else-j-i = search in let f : tie.Else-r-row = search in omega
    (arith, s.requires.1.lower_room (le-ltb _ _ e.if-j-i.false) (ne_eqb _ _ f.if-r-row.false))

mul-lvals : tie.Need-offset_bounds-lvals-at
mul-lvals c = let s : tie.Start = search in let e : tie.Else-j-i = search in let f : tie.Else-r-row = search in omega
    (arith, s.requires.1.lower_room (le-ltb _ _ e.if-j-i.false) (ne_eqb _ _ f.if-r-row.false))

element-write-lvals : tie.Need-bounds-lvals-at
element-write-lvals c = let s : tie.Start = search in let e : tie.Else-j-i = search in let f : tie.Else-r-row = search in omega
    (arith, s.requires.1.lower_room (le-ltb _ _ e.if-j-i.false) (ne_eqb _ _ f.if-r-row.false))

add-t19 : tie.Need-overflow_add-result-2
add-t19 c = let s : tie.Start = search in let e : tie.Else-j-i = search in let f : tie.Else-r-row = search in omega
    (arith, s.requires.1.lower_room (le-ltb _ _ e.if-j-i.false) (ne_eqb _ _ f.if-r-row.false))

returns-4 : tie.Need-returns
returns-4 c = let a : tie.Else-x = search in let b : tie.Else-j-i = search in gather_lower _ _ _ _ _ _ _ a.if-x.false
    b.if-j-i.false c.if-r-row.false

pub gather_one_spec : {M : Type 1} → statement M
gather_one_spec =
    tie.close
    (tie.spec
    returns
    mul-j
    element-copy-out-j
    mul-urows
    element-write-urows
    mul-uvals
    element-write-uvals
    add-t20
    returns-2
    returns-3
    mul-lrows
    element-write-lrows
    mul-lvals
    element-write-lvals
    add-t19
    returns-4)
