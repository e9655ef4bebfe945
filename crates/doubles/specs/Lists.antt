-- Lists that stand for lent arrays: reads, parts, and what a store at the front leaves. Assumes nothing.
use Rattle.std.specs.Prelude.{List, ◌++◌, ℕ, ◌-◌, length, get_or, take, drop, Float}
use Rattle.std.specs.Float.{nan}

infixl 90 ◌!◌
infixl 90 ◌#◌
-- a double and a number of a lent array
abbrev pub ◌!◌ : List Float → ℕ → Float
l ! i = get_or l i nan

abbrev pub ◌#◌ : List ℕ → ℕ → ℕ
l # i = get_or l i 0

-- the cells from a up to, not including, b
abbrev pub part : {A : Type 0} → ℕ → ℕ → List A → List A
part a b l = take (b - a) (drop a l)

-- l with xs written over its front: the cells past xs never change
abbrev pub over : {A : Type 0} → List A → List A → List A
over xs l = xs ++ drop (length xs) l
