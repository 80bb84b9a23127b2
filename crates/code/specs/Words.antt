-- The words of both codes, and how far apart they stand.
--     Word k g w        w is a word of the code with k message bits and the generator g: k bits and their check bits
--     encode g m        the message bits m and their check bits
--     CodeWord w        a word of 63 bits: 44 sound bits and 19 check bits ("The block")
--     ScaleWord w       a word of 14 bits: the factors' six bits and eight check bits ("Scale words")
--     distance v w      the number of places in which two words of one length differ: their sum has its ones there
--     differing v w     the same, counted place by place
--     Smallest W d      d is the smallest number of places in which two different words that W holds of differ
--     code_distance, scale_distance
--                       that number for code words (document 01 gives it) and for scale words
use Rattle.std.specs.Prelude.{◌≡◌, ◌≢◌, cond, List, [], ◌∷◌, ◌++◌, ℕ, ◌+◌, ◌≤◌, eqb, length, take, drop}
use Rattle.bits.specs.Bits.{ones}
use Rattle.bits.specs.Digits.{Below}
use Rattle.remainder.specs.Polynomial.{◌⊕◌}
use Rattle.remainder.specs.Remainder.{check_bits}
use Rattle.code.specs.Generators.{block_generator, scale_generator}

pub record Word (k : ℕ) (g w : List ℕ) : Type 0 where
  pub sized : length w ≡ k + length g
  pub bits : Below 2 w
  pub checked : drop k w ≡ check_bits g (take k w)

unfoldable pub encode : List ℕ → List ℕ → List ℕ
encode g m = m ++ check_bits g m

abbrev pub CodeWord : List ℕ → Type 0
CodeWord w = Word 44 block_generator w

abbrev pub ScaleWord : List ℕ → Type 0
ScaleWord w = Word 6 scale_generator w

unfoldable pub distance : List ℕ → List ℕ → ℕ
distance v w = ones (v ⊕ w)

unfoldable pub differing : List ℕ → List ℕ → ℕ
differing [] w = 0
differing (x ∷ v) [] = 0
differing (x ∷ v) (y ∷ w) = cond (eqb x y) 0 1 + differing v w

pub record Smallest (W : List ℕ → Type 0) (d : ℕ) : Type 0 where
  pub apart : (v w : List ℕ) → W v → W w → v ≢ w → d ≤ distance v w
  -- and two words are exactly so far apart
  pub one : List ℕ
  pub other : List ℕ
  pub one_word : W one
  pub other_word : W other
  pub differ : distance one other ≡ d

abbrev pub code_distance : ℕ
code_distance = 8

abbrev pub scale_distance : ℕ
scale_distance = 5
