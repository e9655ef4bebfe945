-- The rows or columns that an edit can touch. Assumes nothing.
use Rattle.std.specs.Prelude.{Bool, true, false, ℕ, ◌+◌}
use Rattle.sheet_store_shift.specs.declared.Span.{Span}

abbrev pub span_of : ℕ → ℕ → Span
span_of a b = record { from = a; end = b }

-- every one of n places, or place i alone, or none
unfoldable pub span_by : (every one : Bool) → ℕ → ℕ → Span
span_by true one n i = span_of 0 n
span_by false true n i = span_of i (i + 1)
span_by false false n i = span_of 0 0
