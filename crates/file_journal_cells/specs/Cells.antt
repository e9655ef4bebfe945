-- A block of a feed in parts: how many entries are taken from it, and the four cells behind it. Assumes nothing.
use Rattle.std.specs.Prelude.{Bool, true, false, List, [], ◌∷◌, ℕ, zero, suc, leb}
use Rattle.doubles.specs.Lists.{◌#◌, over}
use Rattle.file_journal_rules.specs.Journal.{unless_so}
use Rattle.file_journal_rules.specs.File.{per_block}

-- by what is said of the block, whether it is the end, and its count
unfoldable pub takes : ℕ → Bool → ℕ → ℕ
takes (suc k) end n = 0
takes zero true n = 0
takes zero false n = n

-- r: the refusal of an entry, 0 where all were taken
unfoldable pub settled : ℕ → Bool → ℕ → ℕ → List ℕ → List ℕ
settled (suc k) end n r c = over (c # 0 ∷ 0 ∷ suc k ∷ c # 3 ∷ []) c
settled zero true n r c = over (suc (c # 0) ∷ 0 ∷ 0 ∷ 2 ∷ []) c
settled zero false n r c = over (suc (c # 0) ∷ 0 ∷ r ∷ unless_so 1 (leb per_block n) ∷ []) c
