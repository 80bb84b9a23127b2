-- Document 01's cases of samples ("Bench cases", and the first of "Errors that look right"), proved of the definitions by computing.
--     samples-there, samples-back      factor 7: -256, 255; factor 0: -1, each to its code and back; and code -1 at factor 7
--     factors                          the factor of 64 samples, all 0 but one
-- Assumes nothing.
use mathlib.Core.Path.{◌≡◌, refl}
use mathlib.Core.List.{List, [], ◌∷◌, map}
use lib.ListN.{replicate}
use lib.IntN.{ℤ, pos, negsuc}
use Rattle.bits.specs.Table.{every}
use Rattle.sample.specs.Sample.{fits, code_of, sample_of}
use Rattle.sample.specs.Factor.{largest, factor_of}

pub samples-there : code_of (negsuc 255) 7 ∷ code_of (pos 255) 7 ∷ code_of (negsuc 0) 0 ∷ [] ≡ negsuc 8191 ∷ pos 8160 ∷ negsuc 0 ∷ []
unfolding code_of
samples-there = refl

pub samples-back : sample_of (negsuc 8191) 7 ∷ sample_of (pos 8160) 7 ∷ sample_of (negsuc 0) 0 ∷ sample_of (negsuc 0) 7 ∷ [] ≡ negsuc 255 ∷ pos 255 ∷ negsuc 3 ∷ negsuc 0 ∷ []
unfolding sample_of
samples-back = refl

abbrev with_one : ℤ → List ℤ
with_one x = x ∷ replicate 63 (pos 0)

pub factors : map (λ x. factor_of (with_one x)) (pos 256 ∷ negsuc 255 ∷ negsuc 256 ∷ pos 16383 ∷ pos 16384 ∷ []) ≡ 6 ∷ 7 ∷ 6 ∷ 1 ∷ 0 ∷ []
unfolding factor_of largest every fits
factors = refl
