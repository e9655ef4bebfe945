-- The first v values stand at the front. Assumes nothing.
use Rattle.doubles.proofs.Loops.{Filled}
use Rattle.rules.specs.FinalCheck.{value_of}
use Rattle.check_final.specs.Lent.{valued_of}
use Rattle.check_final.proofs.values_into.Given as goal

abbrev pub invariant-loop-v : goal.invariant-loop-v
invariant-loop-v l = Filled (value_of l.n (valued_of l.var_states l.basic_var_vals l.nb_var_vals)) l.initial.xs l.v l.xs
