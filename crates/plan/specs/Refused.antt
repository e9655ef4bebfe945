-- What the gateway's first five refusals answer. Assumes nothing.
use Rattle.std.specs.Prelude.{Bool, true, false, eqb, Option, Some, None}
use Rattle.rules.specs.Plan.{Plan}
use Rattle.rules.specs.Refusals.{starts_rise, passes2, first_bad_row, first_bad_in, first_crossed, first_false}
use Rattle.rules.specs.declared.Answer.{Answer}
use Rattle.rules.specs.declared.Answer.TheVariants.{BadSize, BadNumber, BadEntry, CrossedBounds, FalseEmptyRow}
use Rattle.plan.specs.declared.Bad.{Bad}
use Rattle.plan.specs.declared.Bad.TheVariants.{Entry, Nothing}

-- 3: the first bad entry, by row and place
unfoldable pub bad_entry : Plan → Bad
bad_entry p = elim (eqb (first_bad_row p) p.rows) [ true ↦ Nothing | false ↦ Entry (first_bad_row p) (first_bad_in p (first_bad_row p)) ]

-- "The lowest number that applies is given"
abbrev pub passing : Bool → Answer → Option Answer → Option Answer
passing b a r = elim b [ true ↦ r | false ↦ Some a ]

-- 1 to 5 of a plan whose sizes and lengths have passed
unfoldable pub refusal_of : Plan → Option Answer
refusal_of p =
    passing (starts_rise p) BadSize
    (passing (passes2 p) BadNumber
    (passing (eqb (first_bad_row p) p.rows) (BadEntry (first_bad_row p) (first_bad_in p (first_bad_row p)))
    (passing (eqb (first_crossed p) p.columns) (CrossedBounds (first_crossed p))
    (passing (eqb (first_false p) p.rows) (FalseEmptyRow (first_false p)) None))))
