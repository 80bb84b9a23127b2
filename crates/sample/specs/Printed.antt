-- The numbers that document 01 prints for samples and codes ("Samples", "Scale words", "Numbers given").
--     coding x s, sounding c s     the number that the code of sample x, and the sample of code c, at factor s give
--     choosing n                   the number that the factor of n samples gives
--     printed_rows                  THE TABLE: the ends of each range, and what lies next to them
use Rattle.std.specs.Prelude.{List, [], ◌∷◌, ℕ, ℤ, pos, neg_ℤ, replicate}
use Rattle.bits.specs.Printed.{Row, ◌prints◌}
use Rattle.sample.specs.Sample.{code_answer, sample_answer}
use Rattle.sample.specs.Factor.{factor_answer}

abbrev pub coding : ℤ → ℕ → List ℕ
coding x s = (code_answer x s).number ∷ []

abbrev pub sounding : ℤ → ℕ → List ℕ
sounding c s = (sample_answer c s).number ∷ []

abbrev pub choosing : ℕ → List ℕ
choosing n = (factor_answer (replicate n (pos 0))).number ∷ []

unfoldable pub printed_rows : List Row
printed_rows =
    (coding (pos 255) 7 prints 0 ∷ [])
    ∷ (coding (pos 256) 7 prints 2 ∷ [])
    ∷ (coding (neg_ℤ (pos 256)) 7 prints 0 ∷ [])
    ∷ (coding (neg_ℤ (pos 257)) 7 prints 2 ∷ [])
    ∷ (coding (pos 32_767) 0 prints 0 ∷ [])
    ∷ (coding (neg_ℤ (pos 32_768)) 0 prints 0 ∷ [])
    ∷ (coding (pos 0) 8 prints 2 ∷ [])
    ∷ (sounding (pos 8_191) 0 prints 0 ∷ [])
    ∷ (sounding (pos 8_192) 0 prints 2 ∷ [])
    ∷ (sounding (neg_ℤ (pos 8_192)) 0 prints 0 ∷ [])
    ∷ (sounding (neg_ℤ (pos 8_193)) 0 prints 2 ∷ [])
    ∷ (sounding (pos 0) 8 prints 2 ∷ [])
    ∷ (choosing 63 prints 1 ∷ [])
    ∷ (choosing 64 prints 0 ∷ [])
    ∷ (choosing 65 prints 1 ∷ [])
    ∷ []
