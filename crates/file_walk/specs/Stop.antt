-- Reading as a loop over the slots: where it stands. A refusal stays. Assumes nothing.
use Rattle.std.specs.Prelude.{Bool, true, false, List, [], ◌∷◌, ℕ, zero, suc, ◌*◌, take, drop}
use Rattle.file_rules.specs.Block.{size_of_block, Slot, block_refusal, stray_refusal, Walked, refused, stream}
use Rattle.file_rules.specs.PlanFile.{plan_kind}
use Rattle.file_walk.specs.declared.Stop.{Stop}

abbrev pub stop_at : ℕ → ℕ → Stop
stop_at n k = record { number = n; place = k }

-- the bytes at a place
abbrev pub cut : List ℕ → ℕ → List ℕ
cut f place = drop (size_of_block * place) f

unfoldable pub onward : (number place : ℕ) → Stop
onward zero place = stop_at 0 (suc place)
onward (suc n) place = stop_at (suc n) place

unfoldable pub turn_by : (number place : ℕ) → List ℕ → Slot → Stop
turn_by zero place f s = onward (block_refusal plan_kind s place (take size_of_block (cut f place))) place
turn_by (suc n) place f s = stop_at (suc n) place

abbrev pub turn : List ℕ → Slot → Stop → Stop
turn f s t = turn_by t.number t.place f s

-- behind the last slot
unfoldable pub behind_by : (number place : ℕ) → List ℕ → Stop
behind_by zero place [] = stop_at 0 place
behind_by zero place (b ∷ r) = stop_at (stray_refusal plan_kind (take size_of_block (b ∷ r))) place
behind_by (suc n) place r = stop_at (suc n) place

abbrev pub behind : List ℕ → Stop → Stop
behind f t = behind_by t.number t.place (cut f t.place)

-- where a walk stood: at its refusal, or at the end
unfoldable pub stood_at : ℕ → Walked → Stop
stood_at end (refused n k) = stop_at n k
stood_at end (stream bs) = stop_at 0 end
