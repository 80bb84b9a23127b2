-- The mission's third demand, of a way to read 63 bits, over the code words of the second demand.
--     sent sound            the code word of 44 sound bits
--     caught radius         the largest number of changed places that are marked bad: 5 at the ordinary radius 2, and 4 at 3
--     Demand radius read    for every 44 bits and every set of changed places among the 63: up to the radius, the bits come back
--                           with the number of changes; above it and up to `caught`, the word is marked bad
use Rattle.std.specs.Prelude.{◌≡◌, List, ℕ, ◌-◌, ◌≤◌, ◌<◌, length, take}
use Rattle.bits.specs.Bits.{ones}
use Rattle.bits.specs.Digits.{Below}
use Rattle.remainder.specs.Polynomial.{◌⊕◌}
use Rattle.code.specs.Generators.{block_generator}
use Rattle.code.specs.Words.{encode}
use Rattle.reading.specs.Reading.{Reading, bad, turned, handed}

abbrev pub sent : List ℕ → List ℕ
sent sound = encode block_generator sound

abbrev pub caught : ℕ → ℕ
caught radius = 7 - radius

pub record Demand (radius : ℕ) (read : List ℕ → Reading) : Type 0 where
  pub number : (sound mask : List ℕ) → Below 2 sound → length sound ≡ 44 → length mask ≡ 63 → ones mask ≤ radius
      → read (sent sound ⊕ mask) ≡ turned (ones mask) (sent sound)
  pub back : (sound mask : List ℕ) → Below 2 sound → length sound ≡ 44 → length mask ≡ 63 → ones mask ≤ radius
      → take 44 (handed (sent sound ⊕ mask) (read (sent sound ⊕ mask))) ≡ sound
  pub seen : (sound mask : List ℕ) → Below 2 sound → length sound ≡ 44 → length mask ≡ 63 → radius < ones mask → ones mask ≤ caught radius
      → read (sent sound ⊕ mask) ≡ bad
