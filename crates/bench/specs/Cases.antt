-- The bench cases of document 01 that it marks with a star, in one table.
--     ones-at n ks      n bits, with ones in the places ks, counted from 1 as the document does
--     is_in k ks         1 where k is one of ks, else 0
--     without_ones n w   the word w with its first n ones cleared
--     Case              what a case says, with what is given and what comes out
--     Holds c           that it is so, of the definitions that the promises cite
--     word_of44, cleared the word of sound bit 44, and the same with the first two of its eight ones cleared
--     bench             THE TABLE
use Rattle.std.specs.Prelude.{ℕ, zero, suc, ◌+◌, ◌≡◌, cond, List, [], ◌∷◌, eqb, ℤ, pos, neg_ℤ, replicate}
use Rattle.bits.specs.Digits.{value}
use Rattle.bits.specs.Answer.{accepted}
use Rattle.bits.specs.Table.{tabulate}
use Rattle.bits.specs.Printed.{row}
use Rattle.remainder.specs.Remainder.{check_bits}
use Rattle.code.specs.Generators.{block_generator}
use Rattle.reading.specs.Reading.{Reading, mended, bad}
use Rattle.reading.specs.Search.{reading}
use Rattle.reading.specs.Demand.{sent}
use Rattle.sample.specs.Sample.{code_answer, sample_answer}
use Rattle.scale.specs.Word.{scale_word}
use Rattle.programme.specs.Byte.{write_byte}

unfoldable pub is_in : ℕ → List ℕ → ℕ
is_in k [] = 0
is_in k (x ∷ xs) = cond (eqb k x) 1 (is_in k xs)

unfoldable pub ones-at : ℕ → List ℕ → List ℕ
ones-at n ks = tabulate n (λ k. is_in (k + 1) ks)

unfoldable pub without_ones : ℕ → List ℕ → List ℕ
without_ones zero w = w
without_ones (suc n) [] = []
without_ones (suc n) (zero ∷ w) = 0 ∷ without_ones (suc n) w
without_ones (suc n) (suc x ∷ w) = 0 ∷ without_ones n w

pub data Case : Type 0 where
  -- the check bits of 44 sound bits
  checks : List ℕ → List ℕ → Case
  -- the reading of 63 bits
  reads : List ℕ → Reading → Case
  -- the scale word of a left and a right factor
  scales : ℕ → ℕ → List ℕ → Case
  -- the code of a sample at a factor, and the sample of a code
  codes : ℤ → ℕ → ℤ → Case
  sounds : ℤ → ℕ → ℤ → Case
  -- the byte of a type, music or speech, and a mode
  writes : ℕ → ℕ → ℕ → List ℕ → Case

unfoldable pub Holds : Case → Type 0
Holds (checks message check) = check_bits block_generator message ≡ check
Holds (reads word r) = reading 2 word ≡ r
Holds (scales l r word) = scale_word l r ≡ word
Holds (codes x s c) = code_answer x s ≡ accepted (c ∷ [])
Holds (sounds c s x) = sample_answer c s ≡ accepted (x ∷ [])
Holds (writes t m o byte) = write_byte t m o ≡ accepted (value 2 byte ∷ [])

abbrev pub word_of44 : List ℕ
word_of44 = sent (ones-at 44 (44 ∷ []))

abbrev pub cleared : List ℕ
cleared = without_ones 2 word_of44

unfoldable pub bench : List Case
bench =
    checks (ones-at 44 []) (row "0000000000000000000")
    ∷ checks (ones-at 44 (44 ∷ [])) (row "0001000011101010001")
    ∷ checks (ones-at 44 (43 ∷ [])) (row "0010000111010100010")
    ∷ reads (replicate 63 1) bad
    ∷ reads (ones-at 63 (1 ∷ 2 ∷ 3 ∷ [])) bad
    ∷ reads cleared (mended 2 word_of44)
    ∷ scales 0 1 (row "00000111010001")
    ∷ scales 0 2 (row "00001001110011")
    ∷ codes (neg_ℤ (pos 256)) 7 (neg_ℤ (pos 8192))
    ∷ sounds (neg_ℤ (pos 8192)) 7 (neg_ℤ (pos 256))
    ∷ codes (pos 255) 7 (pos 8160)
    ∷ codes (neg_ℤ (pos 1)) 0 (neg_ℤ (pos 1))
    ∷ sounds (neg_ℤ (pos 1)) 0 (neg_ℤ (pos 4))
    ∷ writes 10 1 1 (row "10101010")
    ∷ writes 0 0 1 (row "00000011")
    ∷ []
