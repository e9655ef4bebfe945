-- `sheet_change_edit::kind_rule` meets its contract. Arm by arm. Assumes nothing.
use mathlib.Core.Path.{◌≡◌}
use native.Mathlib.Omega.{arith}
use Rattle.sheet_rules.specs.Opening.{first_failed}
use Rattle.sheet_change_edit.specs.Rules.{kind_refusal, limit_of, rule_of}
use Rattle.sheet_change_edit.proofs.Laws.{past, rule_later, rule_unknown}
use Rattle.sheet_change_edit.proofs.kind_rule.Statement.{statement}
use Rattle.sheet_change_edit.proofs.kind_rule.Tie as tie

returns : tie.Need-returns-in-1
unfolding rule_of kind_refusal first_failed limit_of
returns c = rw c.in-1.is

returns-2 : tie.Need-returns-in-2
unfolding rule_of kind_refusal first_failed limit_of
returns-2 c = rw c.in-2.is

returns-3 : tie.Need-returns-in-3
unfolding rule_of kind_refusal first_failed limit_of
returns-3 c = rw c.in-3.is

returns-4 : tie.Need-returns-in-4
unfolding rule_of kind_refusal first_failed limit_of
returns-4 c = rw c.in-4.is

returns-5 : tie.Need-returns-in-5
unfolding rule_of kind_refusal first_failed limit_of
returns-5 c = rw c.in-5.is

returns-6 : tie.Need-returns-in-6
unfolding rule_of kind_refusal first_failed limit_of
returns-6 c = rw c.in-6.is

returns-7 : tie.Need-returns-in-7
unfolding rule_of kind_refusal first_failed limit_of
returns-7 c = rw c.in-7.is

returns-8 : tie.Need-returns-in-8
unfolding rule_of kind_refusal first_failed limit_of
returns-8 c = rw c.in-8.is

returns-9 : tie.Need-returns-in-9
unfolding rule_of kind_refusal first_failed limit_of
returns-9 c = rw c.in-9.is

returns-10 : tie.Need-returns-in-10-to-31
returns-10 c =
    let k = c.args.kind in
    let r = c.in-10-to-31.in_default-own.rest in
    rule_later k (past 9 k (past 8 k (past 7 k (past 6 k (past 5 k (past 4 k (past 3 k (past 2 k (past 1 k c.in-10-to-31.if-kind-lt1-own.false r.0.0.0.0.0.0.0.0.1) r.0.0.0.0.0.0.0.1) r.0.0.0.0.0.0.1) r.0.0.0.0.0.1) r.0.0.0.0.1) r.0.0.0.1) r.0.0.1) r.0.1) r.1) (omega (arith, c.in-10-to-31.if-kind-lt32-own.true))

returns-11 : tie.Need-returns-in_default
unfolding rule_of kind_refusal first_failed limit_of
returns-11 c = let z : c.args.kind ≡ 0 = omega (arith, c.in_default.if-kind-lt1-own.true) in rw z

returns-12 : tie.Need-returns-in_default-2
returns-12 c = rule_unknown c.args.kind c.in_default.if-kind-lt32-own.false

pub kind_rule_spec : {M : Type 1} → statement M
kind_rule_spec =
    tie.close
    (tie.spec
    returns
    returns-2
    returns-3
    returns-4
    returns-5
    returns-6
    returns-7
    returns-8
    returns-9
    returns-10
    returns-11
    returns-12)
