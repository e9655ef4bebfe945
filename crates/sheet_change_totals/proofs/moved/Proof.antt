-- `sheet_change_totals::moved` meets its contract. Assumes nothing.
use Rattle.sheet_terms.proofs.Machine.{E, num, add, sub, exact, fit}
use Rattle.sheet_change_totals.specs.Parts.{totals_of, moved_totals}
use Rattle.sheet_change_totals.proofs.moved.Statement.{statement}
use Rattle.sheet_change_totals.proofs.moved.Tie as tie

module _ (s : tie.Start) where
  abbrev cost_part : E
  cost_part = sub (num s.args.new.cost _ s.requires.2.cost_in) (num s.args.old.cost _ s.requires.1.cost_in)

  abbrev costs : E
  costs = add (num s.args.t.cost _ s.requires.0.cost_in) cost_part

  abbrev floor_part : E
  floor_part = sub (num s.args.new.floor _ s.requires.2.floor_in) (num s.args.old.floor _ s.requires.1.floor_in)

  abbrev floors : E
  floors = add (num s.args.t.floor _ s.requires.0.floor_in) floor_part

  abbrev broken_part : E
  broken_part = sub (num s.args.new.broken _ s.requires.2.broken_in) (num s.args.old.broken _ s.requires.1.broken_in)

  abbrev brokens : E
  brokens = add (num s.args.t.broken _ s.requires.0.broken_in) broken_part

  abbrev outside_part : E
  outside_part = sub (num s.args.new.outside _ s.requires.2.outside_in) (num s.args.old.outside _ s.requires.1.outside_in)

  abbrev outsides : E
  outsides = add (num s.args.t.outside _ s.requires.0.outside_in) outside_part

  abbrev wrong_part : E
  wrong_part = sub (num s.args.new.wrong _ s.requires.2.wrong_in) (num s.args.old.wrong _ s.requires.1.wrong_in)

  abbrev wrongs : E
  wrongs = add (num s.args.t.wrong _ s.requires.0.wrong_in) wrong_part

  abbrev absent_part : E
  absent_part = sub (num s.args.new.absent _ s.requires.2.absent_in) (num s.args.old.absent _ s.requires.1.absent_in)

  abbrev absents : E
  absents = add (num s.args.t.absent _ s.requires.0.absent_in) absent_part

sub-t4 : tie.Need-overflow_sub-result
sub-t4 c = let s = c.before.before.before.before in fit (cost_part s) tt

add-t5 : tie.Need-overflow_add-result
add-t5 c = let s = c.before.before.before.before.before.before in fit (costs s) tt

sub-t6 : tie.Need-overflow_sub-result-2
sub-t6 c = let s = c.before.before.before.before.before.before.before.before.before.before in fit (floor_part s) tt

add-t7 : tie.Need-overflow_add-result-2
add-t7 c = let s = c.before.before.before.before.before.before.before.before.before.before.before.before in fit (floors s) tt

sub-t8 : tie.Need-overflow_sub-result-3
sub-t8 c = let s = c.before.before.before.before.before.before.before.before.before.before.before.before.before.before.before.before in fit (broken_part s) tt

add-t9 : tie.Need-overflow_add-result-3
add-t9 c = let s = c.before.before.before.before.before.before.before.before.before.before.before.before.before.before.before.before.before.before in fit (brokens s) tt

sub-t10 : tie.Need-overflow_sub-result-4
sub-t10 c = let s = c.before.before.before.before.before.before.before.before.before.before.before.before.before.before.before.before.before.before.before.before.before.before in fit (outside_part s) tt

add-t11 : tie.Need-overflow_add-result-4
add-t11 c = let s = c.before.before.before.before.before.before.before.before.before.before.before.before.before.before.before.before.before.before.before.before.before.before.before.before in fit (outsides s) tt

sub-t12 : tie.Need-overflow_sub-result-5
sub-t12 c = let s = c.before.before.before.before.before.before.before.before.before.before.before.before.before.before.before.before.before.before.before.before.before.before.before.before.before.before.before.before in fit (wrong_part s) tt

add-t13 : tie.Need-overflow_add-result-5
add-t13 c = let s = c.before.before.before.before.before.before.before.before.before.before.before.before.before.before.before.before.before.before.before.before.before.before.before.before.before.before.before.before.before.before in fit (wrongs s) tt

sub-t14 : tie.Need-overflow_sub-result-6
sub-t14 c = let s = c.before.before.before.before.before.before.before.before.before.before.before.before.before.before.before.before.before.before.before.before.before.before.before.before.before.before.before.before.before.before.before.before.before.before in fit (absent_part s) tt

add-t15 : tie.Need-overflow_add-result-6
add-t15 c = let s = c.before.before.before.before.before.before.before.before.before.before.before.before.before.before.before.before.before.before.before.before.before.before.before.before.before.before.before.before.before.before.before.before.before.before.before.before in fit (absents s) tt

returns : tie.Need-returns
unfolding moved_totals
returns c = let s = c.before.before.before.before.before.before.before.before.before.before.before.before.before.before.before.before.before.before.before.before.before.before.before.before.before.before.before.before.before.before.before.before.before.before.before.before in λ h. totals_of (exact (costs s) tt h) (exact (floors s) tt h) (exact (brokens s) tt h) (exact (outsides s) tt h) (exact (wrongs s) tt h) (exact (absents s) tt h)

pub moved_spec : {M : Type 1} → statement M
moved_spec =
    tie.close
    (tie.spec
    sub-t4
    add-t5
    sub-t6
    add-t7
    sub-t8
    add-t9
    sub-t10
    add-t11
    sub-t12
    add-t13
    sub-t14
    add-t15
    returns)
