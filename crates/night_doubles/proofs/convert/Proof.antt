-- `night_doubles::convert` meets its contract, array by array. Assumes nothing.
use Rattle.std.proofs.Common.{[], length, ap, rules}
use Rattle.sheet_rules.specs.Sheet.{plan_of}
use lib.Ieee.{neg}
use Rattle.night_doubles.proofs.Laws.{converted_is, converted_long}
use Rattle.night_doubles.proofs.convert.Statement.{statement}
use Rattle.night_doubles.proofs.convert.Tie as tie

numbers-requires : tie.Need-numbers-requires
numbers-requires c κs = search rules

infinity-requires : tie.Need-infinity-requires
infinity-requires c κs = search rules

bounds-requires : tie.Need-bounds-requires
bounds-requires c κs = search rules

infinity-requires-2 : tie.Need-infinity-requires-2
infinity-requires-2 c κs = search rules

bounds-requires-2 : tie.Need-bounds-requires-2
bounds-requires-2 c κs = search rules

lay-rows-requires : tie.Need-lay_rows-requires
lay-rows-requires c κs =
    let s : tie.Start = search in (
      (s.requires.0.rows_few, s.requires.0.coefs_long, s.requires.0.entries_few),
      (ap length s.requires.1.starts_zero, s.requires.1.blank),
    )

numbers-requires-2 : tie.Need-numbers-requires-2
numbers-requires-2 c κs = search rules

returns : tie.Need-returns
unfolding neg
returns c =
    let s : tie.Start = search in
    let a = s.args in
    let q = plan_of a.rows a.columns a.coefs.now a.costs.now a.lowers.now a.uppers.now
    a.lower_marks.now a.upper_marks.now a.rhs.now [] [] [] in
    let low = ap neg c.infinity.ensures in (
      converted_is q s.requires.1 low c.infinity-2.ensures c.numbers.ensures c.bounds.ensures
          c.bounds-2.ensures
          c.lay_rows.ensures.0 c.lay_rows.ensures.1 c.numbers-2.ensures,
      converted_long q s.requires.1 low c.infinity-2.ensures c.numbers.ensures c.bounds.ensures
          c.bounds-2.ensures
          c.lay_rows.ensures.0 c.lay_rows.ensures.1 c.numbers-2.ensures s.requires.0,
    )

pub convert_spec : {M : Type 1} → statement M
convert_spec =
    tie.close
    (tie.spec
    numbers-requires
    infinity-requires
    bounds-requires
    infinity-requires-2
    bounds-requires-2
    lay-rows-requires
    numbers-requires-2
    returns)
