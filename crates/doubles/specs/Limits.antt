-- The limits of 01, one name each. src/lib.rt has the same names for the code: no limit is written anywhere else. Assumes nothing.
use Rattle.std.specs.Prelude.{ℕ, ◌+◌, ◌^◌}

-- 01: "0 to 128 columns; 0 to 64 rows, empty ones counted; 0 to 2,048 entries; budget 0 to 10,000"; 02: "Raise 64 rows
-- to 96, in solver, triangles and sheet"
abbrev pub max_columns : ℕ
max_columns = 128

abbrev pub max_rows : ℕ
max_rows = 96

abbrev pub max_entries : ℕ
max_entries = 2048

-- 02: "a triangle then takes 4,560 entries, all that a factor can fill": 96 * 95 / 2
abbrev pub max_tri_entries : ℕ
max_tri_entries = 4560

abbrev pub max_budget : ℕ
max_budget = 10000

-- 01: "The eta store has 256 columns and 4,096 entries"
abbrev pub eta_columns : ℕ
eta_columns = 256

abbrev pub eta_entries : ℕ
eta_entries = 4096

-- a scattered vector has a place for each column or each row: the limit of columns is the larger of the two
abbrev pub places : ℕ
places = 128

-- the columns and the slacks
abbrev pub vars : ℕ
vars = max_columns + max_rows

-- the workspace's own numbers: kept rows, eta columns, eta entries, steps, status, whether there is a factor, factorings
abbrev pub count_cells : ℕ
count_cells = 7

-- the audit sheet. 01: "coefficients in size up to 4,096, costs 2^20, right sides 2^31, finite bounds and amounts 2^16, multipliers Y (in 1/1024) 2^20"
abbrev pub max_coefficient : ℕ
max_coefficient = 4096

abbrev pub max_cost : ℕ
max_cost = 2 ^ 20

abbrev pub max_right_side : ℕ
max_right_side = 2 ^ 31

abbrev pub max_bound : ℕ
max_bound = 2 ^ 16

abbrev pub max_amount : ℕ
max_amount = 2 ^ 16

abbrev pub max_multiplier : ℕ
max_multiplier = 2 ^ 20

-- 01: "Kept sizes: R 2^35, D 2^39, C 2^43, B 2^62"
abbrev pub max_r : ℕ
max_r = 2 ^ 35

abbrev pub max_d : ℕ
max_d = 2 ^ 39

abbrev pub max_c : ℕ
max_c = 2 ^ 43

abbrev pub max_b : ℕ
max_b = 2 ^ 62

-- a multiplier is a whole number of 1/1024
abbrev pub unit : ℕ
unit = 1024
