-- Laws of the words of a code, for any number of message bits and any generator.
--     encode-word           a message and its check bits are a word
--     take-encode           and begin with the message
--     word-remainder        a word leaves remainder zero
--     remainder-word        bits that leave remainder zero are a word: the test that a receiver makes
--     word-⊕                so does the sum of two words
-- Assumes nothing.
use mathlib.Core.Path.{◌≡◌, sym, ap, ap₂, ◌∙◌}
use mathlib.Core.List.{List, ◌++◌}
use Prim.Native.Nat.{ℕ, ◌+◌}
use native.Mathlib.Omega.{arith}
use lib.ListN.{length, take, drop, length-append, take-append-drop, length-drop}
use lib.Seq.{take_at, drop_at}
use Rattle.bits.specs.Digits.{Below}
use Rattle.bits.proofs.Digits.{below-append, below-take, below-drop}
use Rattle.remainder.specs.Polynomial.{◌⊕◌, zeros}
use Rattle.remainder.specs.Remainder.{remainder, check_bits}
use Rattle.remainder.proofs.Sum.{⊕-zeros, length-zeros, below-zeros}
use Rattle.remainder.proofs.Division.{length-check, below-check, remainder-check, check-only, remainder-⊕}
use Rattle.code.specs.Words.{Word, encode}

module _ (k : ℕ) (g : List ℕ) where
  pub encode-word : (m : List ℕ) → Below 2 m → length m ≡ k → Word k g (encode g m)
  unfolding encode
  encode-word m b h =
      record {
        sized = length-append m (check_bits g m) ∙ ap₂ ◌+◌ h (length-check g m);
        bits = below-append 2 m (check_bits g m) b (below-check g m);
        checked = drop_at m (check_bits g m) k h ∙ ap (check_bits g) (sym (take_at m (check_bits g m) k h));
      }

  pub take-encode : (m : List ℕ) → length m ≡ k → take k (encode g m) ≡ m
  unfolding encode
  take-encode m h = take_at m (check_bits g m) k h

  pub word-remainder : (w : List ℕ) → Word k g w → remainder g w ≡ zeros (length g)
  word-remainder w c =
      ap (remainder g) (sym (take-append-drop k w) ∙ ap (λ (l : List ℕ). take k w ++ l) c.checked)
      ∙ remainder-check g (take k w) (below-take 2 k w c.bits)

  pub remainder-word : (w : List ℕ) → length w ≡ k + length g → Below 2 w → remainder g w ≡ zeros (length g) → Word k g w
  remainder-word w h b z =
      record {
        sized = h;
        bits = b;
        checked =
            check-only g (take k w) (drop k w) (below-take 2 k w b) (below-drop 2 k w b) (length-drop k w ∙ omega arith)
            (ap (remainder g) (take-append-drop k w) ∙ z);
      }

  pub word-⊕ : (v w : List ℕ) → Word k g v → Word k g w → remainder g (v ⊕ w) ≡ zeros (length g)
  word-⊕ v w cv cw =
      remainder-⊕ g v w (cv.sized ∙ sym cw.sized) ∙ ap₂ ◌⊕◌ (word-remainder v cv) (word-remainder w cw)
      ∙ ⊕-zeros (zeros (length g)) (length g) (below-zeros (length g)) (length-zeros (length g))
