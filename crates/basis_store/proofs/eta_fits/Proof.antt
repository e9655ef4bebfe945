-- `basis_store::eta_fits` meets its contract: both tests, as the definition has them. Assumes nothing.
use mathlib.Core.Path.{◌≡◌, refl}
use Prim.Native.Nat.{◌+◌}
use native.Mathlib.Omega.{arith}
use borrow.Author.Rules.{rules}
use Rattle.doubles.specs.Limits.{eta_columns}
use Rattle.doubles.specs.Lists.{◌#◌}
use Rattle.rules.specs.Basis.{eta_fits}
use Rattle.state.specs.Packed.{section, eta_starts_at}
use Rattle.state.proofs.Sections.{section_at}
use Rattle.basis_store.proofs.eta_fits.Statement.{statement}
use Rattle.basis_store.proofs.eta_fits.Tie as tie

-- the start that is read is the section's
same : (s : tie.Start) → section eta_starts_at (eta_columns + 1) s.args.numbers.now # s.args.at.eta_count ≡ s.args.numbers.now # (eta_starts_at + s.args.at.eta_count)
same s = section_at eta_starts_at (eta_columns + 1) s.args.numbers.now s.args.at.eta_count 0 (omega (arith, s.requires.0.1))

add-used : tie.Need-overflow_add-used
add-used c = search rules

mul-used : tie.Need-offset_bounds-numbers-columns
mul-used c = search rules

shared-slice-read-used : tie.Need-bounds-numbers-columns
shared-slice-read-used c = search rules

add-result : tie.Need-overflow_add-result
add-result c = let s : tie.Start = search in omega (arith, same s, s.requires.1, s.requires.0.2)

returns : tie.Need-returns
unfolding eta_fits
returns c D = let s : tie.Start = search in rw (same s) refl

pub eta_fits_spec : {M : Type 1} → statement M
eta_fits_spec = tie.close (tie.spec add-used mul-used shared-slice-read-used add-result returns)
