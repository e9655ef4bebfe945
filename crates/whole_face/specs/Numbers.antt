-- The numbers that the face hands out for a double's answer and for a proposal. Assumes nothing.
use Rattle.std.specs.Prelude.{◌≡◌, List, ℕ, ℤ, pos, Float}
use Rattle.doubles.specs.Num.{f0}
use Rattle.whole_round.specs.declared.Rounded.{Rounded}
use Rattle.whole_round.specs.declared.Rounded.TheVariants.{Whole, Beyond, NotANumber}
use Rattle.whole_propose.specs.declared.Proposal.{Proposal}
use Rattle.whole_propose.specs.declared.Proposal.TheVariants.{Proposed, Nothing, Refused, AmountNotWhole, MultiplierNotWhole}
use Rattle.whole_propose.specs.Propose.{Lent, proposed}
use Rattle.whole_face.specs.declared.TevalumiWhole.{TevalumiWhole}
use Rattle.whole_face.specs.declared.TevalumiProposal.{TevalumiProposal}

abbrev pub whole_face : ℕ → ℤ → Float → TevalumiWhole
whole_face k w x = record { kind = k; number = w; beyond = x }

-- kind 0 whole, 1 beyond, 2 not a number
unfoldable pub whole_numbers : Rounded → TevalumiWhole
whole_numbers (Whole w) = whole_face 0 w f0
whole_numbers (Beyond x) = whole_face 1 (pos 0) x
whole_numbers NotANumber = whole_face 2 (pos 0) f0

abbrev pub proposal_face : ℕ → ℕ → ℕ → TevalumiWhole → TevalumiProposal
proposal_face s k i a = record { status = s; kind = k; place = i; answer = a }

abbrev pub no_case : TevalumiWhole
no_case = whole_face 0 (pos 0) f0

-- status 0, 1 or 41; kind 0 proposed, 1 nothing, 2 an amount isn't whole, 3 a multiplier isn't; its column or row, and
-- its case
unfoldable pub proposal_numbers : Proposal → TevalumiProposal
proposal_numbers Proposed = proposal_face 0 0 0 no_case
proposal_numbers Nothing = proposal_face 0 1 0 no_case
proposal_numbers (Refused n) = proposal_face n 0 0 no_case
proposal_numbers (AmountNotWhole j r) = proposal_face 0 2 j (whole_numbers r)
proposal_numbers (MultiplierNotWhole i r) = proposal_face 0 3 i (whole_numbers r)

-- what the exported call promises: those numbers, and every lent cell afterwards
pub record ProposesNumbers (l : Lent) (answer : TevalumiProposal) (x y : List ℤ) : Type 0 where
  pub answers : answer ≡ proposal_numbers (proposed l).answer
  pub amounts_left : x ≡ (proposed l).amounts_left
  pub mults_left : y ≡ (proposed l).mults_left
