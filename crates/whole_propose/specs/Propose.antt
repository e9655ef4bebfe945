-- A proposal for the sheet from a plan and the memory of a run (02, Ask 3; docs/RULES-02.md). Assumes nothing.
use Rattle.std.specs.Prelude.{Bool, true, false, not, ◌&&◌, List, [], ℕ, ltb, leb, eqb, length, ℤ, Float}
use Rattle.doubles.specs.Limits.{max_rows, max_columns}
use Rattle.doubles.specs.Loop.{first, table}
use Rattle.doubles.specs.Lists.{◌!◌, ◌#◌, over}
use Rattle.rules.specs.Plan.{Plan, Memory}
use Rattle.state.specs.Memory.{memory_in, numbers_end, doubles_end}
use Rattle.whole_round.specs.Whole.{amount_of, is_whole, number_of}
use Rattle.state_maps.specs.Maps.{maps_fine}
use Rattle.whole_multipliers.specs.Rows.{multiplier_at, first_multiplier, multipliers, rows_of}
use Rattle.whole_propose.specs.declared.Proposal.{Proposal}
use Rattle.whole_propose.specs.declared.Proposal.TheVariants.{Proposed, Nothing, Refused, AmountNotWhole}
use Rattle.whole_propose.specs.declared.Proposal.TheVariants.{MultiplierNotWhole}

-- what is lent: of a plan its sizes, row starts and comparisons; the memory of a run; and two arrays to be written
pub record Lent : Type 0 where
  pub plan : Plan
  pub values : List Float
  pub numbers : List ℕ
  pub doubles : List Float
  pub amounts : List ℤ
  pub mults : List ℤ

abbrev pub lent_of : ℕ → ℕ → List ℕ → List ℕ → List Float → List ℕ → List Float → List ℤ → List ℤ → Lent
lent_of n m starts ops v N D x y =
    record { plan = rows_of n m starts ops; values = v; numbers = N; doubles = D; amounts = x; mults = y }

-- the factor's arrays aren't lent, and nothing reads them: they may be any
abbrev pub memory_with : List ℕ → List Float → Lent → Memory
memory_with F G l = memory_in l.values l.numbers l.doubles F G

abbrev pub memory : Lent → Memory
memory l = memory_with [] [] l

-- ---- 1: a size over its limit, or a lent array too short
unfoldable pub lent_fine : Lent → Bool
lent_fine l =
    let n = l.plan.columns in
    let m = l.plan.rows in
    leb n max_columns && leb m max_rows
    && ltb m (length l.plan.starts) && leb m (length l.plan.ops)
    && leb n (length l.values) && leb numbers_end (length l.numbers) && leb doubles_end (length l.doubles)
    && leb n (length l.amounts) && leb m (length l.mults)

-- ---- the amounts, which are the values' first
unfoldable pub first_amount : ℕ → List Float → ℕ
first_amount n v = first n (λ j. not (is_whole (amount_of (v ! j))))

unfoldable pub amounts_of : ℕ → List Float → List ℤ
amounts_of n v = table n (λ j. number_of (amount_of (v ! j)))

-- the first number that isn't whole: the amounts come first, then the rows' multipliers
unfoldable pub first_not_whole : Plan → Memory → Proposal
first_not_whole p m =
    let j = first_amount p.columns m.values in
    let i = first_multiplier p m in
    elim (ltb j p.columns) [
      | true ↦ AmountNotWhole j (amount_of (m.values ! j))
      | false ↦ elim (ltb i p.rows) [ true ↦ MultiplierNotWhole i (multiplier_at p m i) | false ↦ Proposed ]
    ]

-- ---- the answer: 1, then Nothing where the run's status isn't 0, then 41, then the first number that isn't whole
abbrev pub status_of : Memory → ℕ
status_of m = m.counts # 4

unfoldable pub proposal : Lent → Proposal
proposal l =
    let m = memory l in
    elim (lent_fine l) [
      | true ↦
          elim (eqb (status_of m) 0) [
            | true ↦ elim (maps_fine l.plan m) [ true ↦ first_not_whole l.plan m | false ↦ Refused 41 ]
            | false ↦ Nothing
          ]
      | false ↦ Refused 1
    ]

-- ---- with what is lent afterwards: nothing is written unless every number is whole
pub record Handed : Type 0 where
  pub answer : Proposal
  pub amounts_left : List ℤ
  pub mults_left : List ℤ

abbrev pub handed : Proposal → List ℤ → List ℤ → Handed
handed a x y = record { answer = a; amounts_left = x; mults_left = y }

unfoldable pub is_proposed : Proposal → Bool
is_proposed Proposed = true
is_proposed Nothing = false
is_proposed (Refused n) = false
is_proposed (AmountNotWhole j r) = false
is_proposed (MultiplierNotWhole i r) = false

abbrev pub leaves : Bool → Lent → Proposal → Handed
leaves true l a =
    handed a (over (amounts_of l.plan.columns l.values) l.amounts)
    (over (multipliers l.plan (memory l)) l.mults)
leaves false l a = handed a l.amounts l.mults

unfoldable pub proposed : Lent → Handed
proposed l = leaves (is_proposed (proposal l)) l (proposal l)
