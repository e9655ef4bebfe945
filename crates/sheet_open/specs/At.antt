-- B and the counts at activities R and prices D that stand in arrays. With the fresh ones they are the fresh B and counts. Assumes nothing.
use Rattle.std.specs.Prelude.{List, [], ◌∷◌, ℤ, ◌+ℤ◌}
use Rattle.sheet_rules.specs.Sum.{◌‼◌, sum, dot, count}
use Rattle.sheet_rules.specs.Sheet.{Plan, Y, rhs, term_at, broken_at, lacks_at, outside_amounts, wrong_signs}

unfoldable pub floor_at : Plan → List ℤ → ℤ
floor_at p D = dot p.rows (Y p) (rhs p) +ℤ sum p.cols (λ j. term_at p j (D ‼ j))

unfoldable pub counts_at : Plan → List ℤ → List ℤ → List ℤ
counts_at p R D = count p.rows (λ i. broken_at p i (R ‼ i)) ∷ outside_amounts p ∷ wrong_signs p ∷ count p.cols (λ j. lacks_at p j (D ‼ j)) ∷ []
