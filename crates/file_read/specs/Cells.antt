-- Where the cells of an array stand in a file, its blocks from a place on: 504 bytes of it in each. Assumes nothing.
use Rattle.std.specs.Prelude.{List, ℕ, ◌+◌, ◌*◌, ◌/◌, ◌%◌, take, drop, ℤ}
use Rattle.doubles.specs.Lists.{◌#◌}
use Rattle.file_rules.specs.Bytes.{value, number_of}
use Rattle.file_rules.specs.Block.{size_of_block}

-- byte j of the array
abbrev pub spot : ℕ → ℕ → ℕ
spot place j = size_of_block * (place + j / 504) + 3 + j % 504

abbrev pub byte_at : List ℕ → ℕ → ℕ → ℕ
byte_at f place k = f # spot place k

-- number k
abbrev pub number_at : List ℕ → ℕ → ℕ → ℤ
number_at f place k = number_of (value (take 8 (drop (spot place (8 * k)) f)))
