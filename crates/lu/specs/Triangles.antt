-- The triangles on which the sparse and the dense solve differ (proofs/Differ.antt). Assumes nothing.
use Rattle.std.specs.Prelude.{true, false, [], ◌∷◌, Float}
use Rattle.std.specs.Float.{binary64}
use Rattle.std.specs.Float.Ieee.{of_bits}
use Rattle.doubles.specs.Num.{f1}
use Rattle.lu_solve.specs.Solve.{Tri, tri}

-- -0.0, -1.0, and 2 to the 53rd
abbrev pub -f0 : Float
-f0 = of_bits binary64 0x8000_0000_0000_0000

abbrev pub -f1 : Float
-f1 = of_bits binary64 0xbff0_0000_0000_0000

abbrev pub big : Float
big = of_bits binary64 0x4340_0000_0000_0000

-- one place, with a diagonal of -1.0
abbrev pub one_place : Tri
one_place = tri true 1 (0 ∷ 0 ∷ []) [] [] true (-f1 ∷ [])

-- three places without a diagonal: place 0 and place 1 are taken off place 2
abbrev pub three_places : Tri
three_places = tri true 3 (0 ∷ 1 ∷ 2 ∷ 2 ∷ []) (2 ∷ 2 ∷ []) (f1 ∷ -f1 ∷ []) false []
