-- All of the bench cases hold: one statement over the table. The readings and check bits are computed where their definitions stand.
--     cleared-is        the cleared word, bit by bit
--     bench-holds       THE STATEMENT
-- Assumes nothing.
use mathlib.Core.Path.{◌≡◌, refl, ap, ◌∙◌}
use mathlib.Core.List.{[], ◌∷◌, ◌++◌}
use Rattle.bits.specs.Digits.{value, digits}
use Rattle.bits.specs.Bits.{ones}
use Rattle.bits.specs.Table.{tabulate, All}
use Rattle.bits.specs.Printed.{row}
use Rattle.remainder.specs.Polynomial.{zeros}
use Rattle.code.specs.Words.{encode}
use Rattle.code.proofs.Vectors.{none, bit-44, bit-43}
use Rattle.reading.specs.Search.{reading}
use Rattle.reading.proofs.Vectors.{all_ones, three, two-cleared}
use Rattle.sample.specs.Sample.{fits, is_code, code_of, sample_of, code_answer, sample_answer}
use Rattle.scale.proofs.Bench.{factors-01, factors-02}
use Rattle.programme.specs.Byte.{made, write_byte}
use Rattle.bench.specs.Cases.{is_in, ones-at, without_ones, cleared, Holds, bench}

-- the word of sound bit 44 with its first two ones cleared, one of them a sound bit and one a check bit
cleared-is : cleared ≡ zeros 44 ++ (0 ∷ 0 ∷ 0 ∷ 0 ∷ 0 ∷ 0 ∷ 0 ∷ 0 ∷ 1 ∷ 1 ∷ 1 ∷ 0 ∷ 1 ∷ 0 ∷ 1 ∷ 0 ∷ 0 ∷ 0 ∷ 1 ∷ [])
unfolding without_ones encode ones-at is_in tabulate
cleared-is = rw bit-44

pub bench-holds : All Holds bench
unfolding bench All Holds row is_in ones-at tabulate value digits ones fits is_code code_of sample_of code_answer sample_answer made write_byte
bench-holds = (
  none,
  (
    bit-44,
    (
      bit-43,
      (
        all_ones,
        (
          three,
          (
            ap (reading 2) cleared-is ∙ two-cleared,
            (
              factors-01,
              (
                factors-02,
                (refl, (refl, (refl, (refl, (refl, (refl, (refl, tt))))))),
              ),
            ),
          ),
        ),
      ),
    ),
  ),
)
