-- An answer from any start and every lent cell, as state:Memory has them of a solve. Assumes nothing.
use Rattle.std.specs.Prelude.{List, ℕ, Float}
use Rattle.state.specs.Memory.{memory_in, Past, past_of}
use Rattle.reprice_rules.specs.declared.AnyAnswer.{AnyAnswer}
use Rattle.reprice_rules.specs.Any.{AnyCalled, any_called}

pub record HandedAny : Type 0 where
  pub called : AnyCalled
  pub past : Past

abbrev pub handed_any : AnyCalled → Past → HandedAny
handed_any c past = record { called = c; past = past }

abbrev pub any_by : AnyAnswer → List Float → List ℕ → List Float → List ℕ → List Float → HandedAny
any_by a v N D F G = handed_any (any_called a (memory_in v N D F G)) (past_of N D)
