-- Positions computed from the definitions.
use mathlib.Core.Path.{◌≡◌, refl}
use mathlib.Core.List.{[], ◌∷◌, map}
use mathlib.Core.Option.{none, some}
use Prim.Native.Nat.{ℕ}
use lib.IntN.{pos, negsuc}
use lib.Ieee.{Float, binary64, of_bits, of_int, mul, div, sub}
use Rattle.cross_positions.specs.Positions.{nearest_whole, in_range, position}

-- 0.5, 1.5, 2.5, 0.49999999999999994, -0.5, -1.5, -2.5, the least subnormal, -0
halves : map (λ (b : ℕ). in_range (nearest_whole (of_bits binary64 b)))
    (0x3fe0_0000_0000_0000 ∷ 0x3ff8_0000_0000_0000 ∷ 0x4004_0000_0000_0000 ∷ 0x3fdf_ffff_ffff_ffff
    ∷ 0xbfe0_0000_0000_0000 ∷ 0xbff8_0000_0000_0000 ∷ 0xc004_0000_0000_0000 ∷ 1 ∷ 0x8000_0000_0000_0000 ∷ [])
    ≡ some (pos 0) ∷ some (pos 2) ∷ some (pos 2) ∷ some (pos 0) ∷ some (pos 0) ∷ some (negsuc 1) ∷ some (negsuc 1) ∷ some (pos 0) ∷ some (pos 0) ∷ []
unfolding nearest_whole of_bits
halves = refl

-- 2147483646.5, 2147483646.5000002, 2147483647, -2147483647.5, -2147483647.4999998, the largest, an infinity, a NaN
edges : map (λ (b : ℕ). in_range (nearest_whole (of_bits binary64 b)))
    (0x41df_ffff_ffa0_0000 ∷ 0x41df_ffff_ffa0_0001 ∷ 0x41df_ffff_ffc0_0000 ∷ 0xc1df_ffff_ffe0_0000 ∷ 0xc1df_ffff_ffdf_ffff
    ∷ 0x7fef_ffff_ffff_ffff ∷ 0x7ff0_0000_0000_0000 ∷ 0x7ff8_0000_0000_0000 ∷ [])
    ≡ some (pos 2147483646) ∷ none ∷ none ∷ none ∷ some (negsuc 2147483646) ∷ none ∷ none ∷ none ∷ []
unfolding nearest_whole of_bits
edges = refl

-- a face at 1, an origin at 0, a component of 3, -3 and 0
thirds : map (λ (d : Float). position (of_int binary64 (pos 1)) (of_int binary64 (pos 0)) d) (of_int binary64 (pos 3) ∷ of_int binary64 (negsuc 2) ∷ of_int binary64 (pos 0) ∷ [])
    ≡ some (pos 333) ∷ some (negsuc 332) ∷ none ∷ []
unfolding nearest_whole of_int sub div mul
thirds = refl

-- 80.5 and 161.5 less 0, divided by 40: the quotients 2.0125 and 4.0375 are rounded before they are taken times 1000
rounded_once : map (λ (b : ℕ). position (of_bits binary64 b) (of_int binary64 (pos 0)) (of_int binary64 (pos 40))) (0x4054_2000_0000_0000 ∷ 0x4064_3000_0000_0000 ∷ [])
    ≡ some (pos 2013) ∷ some (pos 4037) ∷ []
unfolding nearest_whole of_bits of_int sub div mul
rounded_once = refl
