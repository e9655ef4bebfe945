-- `sheet_terms::term` meets its contract. Assumes nothing.
use mathlib.Core.Path.{◌≡◌, sym, ap, ◌∙◌}
use borrow.Author.Tests.{eq-eqb, ne_eqb}
use lib.IntN.{ℤ, pos}
use lib.Signed.{lt_z}
use mathlib.Core.Bool.{Bool, true, false}
use Rattle.doubles.specs.Limits.{max_bound}
use Rattle.sheet_rules.specs.Sheet.{term_by, term}
use Rattle.sheet_terms.specs.Small.{far_d}
use Rattle.sheet_terms.proofs.Machine.{word, of_word, E, num, mul, exact, fit}
use Rattle.sheet_terms.proofs.term.Statement.{statement}
use Rattle.sheet_terms.proofs.term.Tie as tie

abbrev low : tie.Start → E
low s = mul (num s.args.d far_d s.requires.0) (num s.args.low max_bound s.requires.1)

abbrev high : tie.Start → E
high s = mul (num s.args.d far_d s.requires.0) (num s.args.high max_bound s.requires.2)

-- d as the tests read it
up : (s : tie.Start) (t : Bool) → lt_z (pos 0) (word s.args.d) ≡ t → lt_z (pos 0) s.args.d ≡ t
up s t e = ap (lt_z (pos 0)) (sym (of_word s.ranges.d)) ∙ e

down : (s : tie.Start) (t : Bool) → lt_z (word s.args.d) (pos 0) ≡ t → lt_z s.args.d (pos 0) ≡ t
down s t e = ap (λ (z : ℤ). lt_z z (pos 0)) (sym (of_word s.ranges.d)) ∙ e

mul-result : tie.Need-overflow_mul-result
mul-result c = fit (low c.before.before) tt

returns : tie.Need-returns-then-lowmark-eq1
unfolding term term_by
returns c = let s = c.before.before in rw (up s true c.if-d-gt0.true, eq-eqb _ _ c.if-lowmark-eq1.true) (exact (low s) tt)

returns-2 : tie.Need-returns-then-d-gt0
unfolding term term_by
returns-2 c = let s = c.before.before in rw (up s true c.if-d-gt0.true, ne_eqb _ _ c.if-lowmark-eq1.false)

mul-result-2 : tie.Need-overflow_mul-result-then-highmark-eq1
mul-result-2 c = fit (high c.before.before.before) tt

returns-3 : tie.Need-returns-then-highmark-eq1
unfolding term term_by
returns-3 c = let s = c.before.before.before in rw (up s false c.if-d-gt0.false, down s true c.if-d-lt0.true, eq-eqb _ _ c.if-highmark-eq1.true) (exact (high s) tt)

returns-4 : tie.Need-returns-then-d-lt0
unfolding term term_by
returns-4 c = let s = c.before.before.before in rw (up s false c.if-d-gt0.false, down s true c.if-d-lt0.true, ne_eqb _ _ c.if-highmark-eq1.false)

returns-5 : tie.Need-returns
unfolding term term_by
returns-5 c = let s = c.before.before in rw (up s false c.if-d-gt0.false, down s false c.if-d-lt0.false)

pub term_spec : {M : Type 1} → statement M
term_spec =
    tie.close (tie.spec mul-result returns returns-2 mul-result-2 returns-3 returns-4 returns-5)
