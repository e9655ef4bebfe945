-- Worked examples, by computing. Assumes nothing.
use Rattle.std.proofs.Common.{◌≡◌, ℕ, List, [], ◌∷◌, map, pos, negsuc, refl}
use lib.Ieee.{binary64, of_bits, mul}
use Rattle.whole_round.specs.declared.Rounded.{Rounded}
use Rattle.whole_round.specs.declared.Rounded.TheVariants.{Whole, Beyond, NotANumber}
use Rattle.sheet_rules.specs.Sheet.{wrong}
use Rattle.whole_round.specs.Whole.{whole_of, held, round_even, amount_of, scaled_of, right_sign, multiplier_of}

abbrev amounts : List ℕ → List Rounded
amounts l = map (λ b. amount_of (of_bits binary64 b)) l

abbrev multipliers : ℕ → List ℕ → List Rounded
multipliers op l = map (λ b. multiplier_of op (of_bits binary64 b)) l

-- 0.5, 1.5, 2.5, -0.5, -2.5, just under and just over 0.5, the least double, -0.0
ties : amounts (0x3fe0_0000_0000_0000 ∷ 0x3ff8_0000_0000_0000 ∷ 0x4004_0000_0000_0000 ∷ 0xbfe0_0000_0000_0000
    ∷ 0xc004_0000_0000_0000 ∷ 0x3fdf_ffff_ffff_ffff ∷ 0x3fe0_0000_0000_0001 ∷ 1 ∷ 0x8000_0000_0000_0000 ∷ [])
    ≡ Whole (pos 0) ∷ Whole (pos 2) ∷ Whole (pos 2) ∷ Whole (pos 0) ∷ Whole (negsuc 1) ∷ Whole (pos 0)
    ∷ Whole (pos 1) ∷ Whole (pos 0) ∷ Whole (pos 0) ∷ []
unfolding of_bits whole_of held round_even amount_of
ties = refl

-- 65536.5 is a tie and goes down to the limit; the next double goes past it
at_limit : amounts (0x40f0_0008_0000_0000 ∷ 0x40f0_0008_0000_0001 ∷ 0xc0f0_0008_0000_0000 ∷ 0x7ff0_0000_0000_0000
    ∷ 0x7ff8_0000_0000_0000 ∷ [])
    ≡ Whole (pos 65536) ∷ Beyond (of_bits binary64 0x40f0_0008_0000_0001) ∷ Whole (negsuc 65535)
    ∷ Beyond (of_bits binary64 0x7ff0_0000_0000_0000) ∷ NotANumber ∷ []
unfolding of_bits whole_of held round_even amount_of
at_limit = refl

-- with Eq: 1 / 2048, 3 / 2048 and -3 / 2048 are ties; 2.5; 1024, at the limit; 1e308, whose product overflows
prices : multipliers 1 (0x3f40_0000_0000_0000 ∷ 0x3f58_0000_0000_0000 ∷ 0xbf58_0000_0000_0000
    ∷ 0x4004_0000_0000_0000 ∷ 0x4090_0000_0000_0000 ∷ 0x7fe1_ccf3_85eb_c8a0 ∷ [])
    ≡ Whole (pos 0) ∷ Whole (negsuc 1) ∷ Whole (pos 2) ∷ Whole (negsuc 2559) ∷ Whole (negsuc 1048575)
    ∷ Beyond (of_bits binary64 0xfff0_0000_0000_0000) ∷ []
unfolding of_bits mul whole_of held scaled_of right_sign multiplier_of wrong
prices = refl

-- with Le and with Ge: -1.5 and 1.5, of which one sign is wrong; -1e6, which is Beyond whatever its sign is
signs_le : multipliers 0 (0xbff8_0000_0000_0000 ∷ 0x3ff8_0000_0000_0000 ∷ 0xc12e_8480_0000_0000 ∷ [])
    ≡ Whole (pos 0) ∷ Whole (negsuc 1535) ∷ Beyond (of_bits binary64 0x41ce_8480_0000_0000) ∷ []
unfolding of_bits mul whole_of held scaled_of right_sign multiplier_of wrong
signs_le = refl

signs_ge : multipliers 2 (0xbff8_0000_0000_0000 ∷ 0x3ff8_0000_0000_0000 ∷ 0xc12e_8480_0000_0000 ∷ [])
    ≡ Whole (pos 1536) ∷ Whole (pos 0) ∷ Beyond (of_bits binary64 0x41ce_8480_0000_0000) ∷ []
unfolding of_bits mul whole_of held scaled_of right_sign multiplier_of wrong
signs_ge = refl
