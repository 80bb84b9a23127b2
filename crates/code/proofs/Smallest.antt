-- How far apart the words stand.
--     near, far             words of a code that are nearer than every multiple's weight are one; different ones are so far apart
--     block_size, scale-size    the degrees of the two generators
--     code-length, scale-length    a code word has 63 bits, a scale word 14
--     code-near             two code words that differ in fewer than 8 places are one
--     scale-near            two scale words that differ in fewer than 5 places are one
--     code-smallest, scale-smallest    THE THEOREMS: 8 and 5 are the smallest distances
-- Assumes nothing.
use mathlib.Core.Path.{◌≡◌, refl, sym, ap, ◌∙◌}
use mathlib.Core.Logic.{◌≢◌}
use mathlib.Core.List.{List, [], ◌∷◌, ◌++◌}
use Prim.Native.Nat.{ℕ, suc, ◌+◌, ◌%◌, ◌≤◌, ◌<◌}
use native.Mathlib.Decide.{dec_le}
use native.Mathlib.Omega.{arith}
use lib.ListN.{length}
use Rattle.bits.specs.Bits.{ones}
use Rattle.bits.specs.Digits.{Below}
use Rattle.bits.proofs.Digits.{below-append}
use Rattle.remainder.specs.Polynomial.{◌⊕◌, zeros, times}
use Rattle.remainder.specs.Remainder.{take_off, step, divide, remainder, check_bits}
use Rattle.remainder.proofs.Sum.{length-⊕, below-⊕, ⊕-cancel, below-zeros, length-zeros}
use Rattle.bits.proofs.Table.{length-snoc}
use Rattle.remainder.proofs.Ones.{ones-zeros}
use Rattle.remainder.proofs.Parity.{even-remainder}
use Rattle.code.specs.Generators.{power, powers, block_generator, scale_generator}
use Rattle.code.specs.Words.{Word, CodeWord, ScaleWord, encode, distance, Smallest, code_distance, scale_distance}
use Rattle.code.proofs.Table.{block-passed, scale-passed}
use Rattle.code.proofs.Light.{light}
use Rattle.code.proofs.Words.{encode-word, word-⊕}

module _ (k : ℕ) (g : List ℕ) (d : ℕ) (heavy : (e : List ℕ) → length e ≡ k + length g → Below 2 e → ones e < d → remainder g e ≡ zeros (length g) → e ≡ zeros (length e)) where
  near : (v w : List ℕ) → Word k g v → Word k g w → distance v w < d → v ≡ w
  unfolding distance
  near v w cv cw h =
      ⊕-cancel v w (length v) cv.bits cw.bits refl (cw.sized ∙ sym cv.sized)
      (heavy (v ⊕ w) (sum ∙ cv.sized) (below-⊕ v w) h (word-⊕ k g v w cv cw) ∙ ap zeros sum)
    where
      sum : length (v ⊕ w) ≡ length v
      sum = length-⊕ v w (cv.sized ∙ sym cw.sized)

  far : (v w : List ℕ) → Word k g v → Word k g w → v ≢ w → d ≤ distance v w
  far v w cv cw ne = go (dec_le d (distance v w))
    where
      go : Dec (d ≤ distance v w) → d ≤ distance v w
      go (yes h) = h
      go (no h) = absurd (ne (near v w cv cw (omega arith)))

-- the pair is that of the messages 0..00 and 0..01
smallest : (n : ℕ) (g : List ℕ) (d : ℕ)
    → ((e : List ℕ) → length e ≡ suc n + length g → Below 2 e → ones e < d → remainder g e ≡ zeros (length g) → e ≡ zeros (length e))
    → distance (encode g (zeros (suc n))) (encode g (zeros n ++ (1 ∷ []))) ≡ d → Smallest (Word (suc n) g) d
unfolding Below
smallest n g d heavy differ =
    record {
      apart = far (suc n) g d heavy;
      one = encode g (zeros (suc n));
      other = encode g (zeros n ++ (1 ∷ []));
      one_word = encode-word (suc n) g (zeros (suc n)) (below-zeros (suc n)) (length-zeros (suc n));
      other_word = encode-word (suc n) g (zeros n ++ (1 ∷ [])) (below-append 2 (zeros n) (1 ∷ []) (below-zeros n) (omega arith, tt)) (length-snoc (zeros n) 1 ∙ ap suc (length-zeros n));
      differ = differ;
    }

-- ---- code words
pub block_size : length block_generator ≡ 19
unfolding block_generator powers power ◌⊕◌
block_size = refl

pub code-length : (w : List ℕ) → CodeWord w → length w ≡ 63
code-length w c = c.sized ∙ ap (λ (n : ℕ). 44 + n) block_size

-- x + 1 divides the generator
block_odd : ones block_generator % 2 ≡ 1
unfolding block_generator powers power ◌⊕◌ ones
block_odd = refl

block-heavy : (e : List ℕ) → length e ≡ 44 + length block_generator → Below 2 e → ones e < code_distance → remainder block_generator e ≡ zeros (length block_generator) → e ≡ zeros (length e)
block-heavy e l b w z =
    light block_generator 62 2 3 block-passed e 0 (omega (arith, block_size)) b (omega (arith, even)) z
  where
    even : ones e % 2 ≡ 0
    even =
        sym (even-remainder block_generator block_odd e) ∙ ap (λ (r : List ℕ). ones r % 2) z
        ∙ ap (λ (n : ℕ). n % 2) (ones-zeros (length block_generator))

pub code-near : (v w : List ℕ) → CodeWord v → CodeWord w → distance v w < code_distance → v ≡ w
code-near = near 44 block_generator code_distance block-heavy

-- the word of sound bit 44 has eight ones
eight : distance (encode block_generator (zeros 44)) (encode block_generator (zeros 43 ++ (1 ∷ []))) ≡ code_distance
unfolding distance encode check_bits remainder divide step take_off times ◌⊕◌ ones power powers block_generator
eight = refl

pub code-smallest : Smallest CodeWord code_distance
code-smallest = smallest 43 block_generator code_distance block-heavy eight

-- ---- scale words
pub scale-size : length scale_generator ≡ 8
unfolding scale_generator powers power ◌⊕◌
scale-size = refl

pub scale-length : (w : List ℕ) → ScaleWord w → length w ≡ 14
scale-length w c = c.sized ∙ ap (λ (n : ℕ). 6 + n) scale-size

scale-heavy : (e : List ℕ) → length e ≡ 6 + length scale_generator → Below 2 e → ones e < scale_distance → remainder scale_generator e ≡ zeros (length scale_generator) → e ≡ zeros (length e)
scale-heavy e l b w z = light scale_generator 13 1 2 scale-passed e 0 (omega (arith, scale-size)) b (omega arith) z

pub scale-near : (v w : List ℕ) → ScaleWord v → ScaleWord w → distance v w < scale_distance → v ≡ w
scale-near = near 6 scale_generator scale_distance scale-heavy

-- the word of the factors 0 and 1 has five ones
five : distance (encode scale_generator (zeros 6)) (encode scale_generator (zeros 5 ++ (1 ∷ []))) ≡ scale_distance
unfolding distance encode check_bits remainder divide step take_off times ◌⊕◌ ones power powers scale_generator
five = refl

pub scale-smallest : Smallest ScaleWord scale_distance
scale-smallest = smallest 5 scale_generator scale_distance scale-heavy five
