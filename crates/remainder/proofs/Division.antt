-- Laws of the remainder, for every generator and so for every degree.
--     length-step, length-divide, length-remainder, below_step, below-divide, below-remainder
--                               as many coefficients as the degree, each 0 or 1
--     divide-append             two parts of a word one after the other
--     remainder-⊕               THE LAW: the remainder of a sum is the sum of the remainders
--     remainder-zero, remainder-zeros
--                               zeros in front change nothing
--     remainder-more            zeros behind a multiple of the generator leave a multiple of it
--     remainder-short           as many bits as the degree are their own remainder
--     remainder-behind          what the last bits add
--     remainder-on              a division that goes on behind a word
--     divide-many               THE LAW OF MANY STEPS: as many bits as the upper part of a register has come behind its lower part, and the check bits of the
--                               upper part are added
--     remainder-check           a word followed by its check bits leaves remainder zero
--     check-only                and no other bits behind the word do
--     length-check, below-check as many check bits as the degree, each 0 or 1
-- Assumes nothing.
use mathlib.Core.Path.{◌≡◌, refl, sym, ap, ap₂, ◌∙◌}
use mathlib.Core.List.{List, [], ◌∷◌, ◌++◌, append_assoc, append-nil}
use Prim.Native.Nat.{ℕ, zero, suc, ◌+◌, ◌%◌}
use native.Mathlib.Nat.{suc_inj, suc-ne-zero}
use native.Mathlib.Omega.{arith}
use lib.ListN.{length, length-append}
use Rattle.bits.specs.Digits.{Below}
use Rattle.bits.proofs.Digits.{below-append}
use Rattle.remainder.specs.Polynomial.{◌⊕◌, zeros, times}
use Rattle.remainder.specs.Remainder.{take_off, step, divide, remainder, check_bits}
use Rattle.bits.proofs.Table.{length-snoc}
use Rattle.remainder.proofs.Sum.{length-⊕, below-⊕, ⊕-append, ⊕-zeros, zeros-⊕, ⊕-self, ⊕-cancel, length-zeros, below-zeros, zeros-snoc, length-times, times_zero, ⊕-times}

module _ (g : List ℕ) where
  -- ---- one step
  pub length-step : (r : List ℕ) (b : ℕ) → length r ≡ length g → length (step g r b) ≡ length g
  unfolding step take_off ◌⊕◌
  length-step [] b h = h
  length-step (x ∷ r) b h =
      length-⊕ (r ++ (b ∷ [])) (times x g) (length-snoc r b ∙ h ∙ sym (length-times x g)) ∙ length-snoc r b ∙ h

  pub below_step : (r : List ℕ) (b : ℕ) → Below 2 (step g r b)
  unfolding step take_off
  below_step [] b = below-⊕ [] (times b g)
  below_step (x ∷ r) b = below-⊕ (r ++ (b ∷ [])) (times x g)

  step-⊕ : (r s : List ℕ) (a b : ℕ) → length r ≡ length s → step g (r ⊕ s) ((a + b) % 2) ≡ step g r a ⊕ step g s b
  unfolding step take_off ◌⊕◌
  step-⊕ [] [] a b h = refl
  step-⊕ [] (y ∷ s) a b h = absurd (suc-ne-zero _ (sym h))
  step-⊕ (x ∷ r) [] a b h = absurd (suc-ne-zero _ h)
  step-⊕ (x ∷ r) (y ∷ s) a b h =
      ap (λ (l : List ℕ). l ⊕ times ((x + y) % 2) g) (sym (⊕-append r s (a ∷ []) (b ∷ []) (suc_inj h)))
      ∙ ⊕-times x y (r ++ (a ∷ [])) (s ++ (b ∷ [])) g

  step-zeros : (n : ℕ) → n ≡ length g → step g (zeros n) 0 ≡ zeros n
  unfolding step take_off ◌⊕◌
  step-zeros zero h = refl
  step-zeros (suc n) h =
      ap₂ ◌⊕◌ (zeros-snoc n) (times_zero g ∙ ap zeros (sym h)) ∙ ⊕-zeros (zeros (suc n)) (suc n) (below-zeros (suc n)) (length-zeros (suc n))

  -- ---- all the steps
  pub length-divide : (r w : List ℕ) → length r ≡ length g → length (divide g r w) ≡ length g
  unfolding divide
  length-divide r [] h = h
  length-divide r (b ∷ w) h = length-divide (step g r b) w (length-step r b h)

  pub below-divide : (r w : List ℕ) → Below 2 r → Below 2 (divide g r w)
  unfolding divide
  below-divide r [] h = h
  below-divide r (b ∷ w) h = below-divide (step g r b) w (below_step r b)

  divide-⊕ : (r s v w : List ℕ) → length r ≡ length g → length s ≡ length g → length v ≡ length w
      → divide g (r ⊕ s) (v ⊕ w) ≡ divide g r v ⊕ divide g s w
  unfolding divide ◌⊕◌
  divide-⊕ r s [] [] hr hs h = refl
  divide-⊕ r s [] (y ∷ w) hr hs h = absurd (suc-ne-zero _ (sym h))
  divide-⊕ r s (x ∷ v) [] hr hs h = absurd (suc-ne-zero _ h)
  divide-⊕ r s (x ∷ v) (y ∷ w) hr hs h =
      ap (λ (l : List ℕ). divide g l (v ⊕ w)) (step-⊕ r s x y (hr ∙ sym hs))
      ∙ divide-⊕ (step g r x) (step g s y) v w (length-step r x hr) (length-step s y hs) (suc_inj h)

  pub divide-append : (r v w : List ℕ) → divide g r (v ++ w) ≡ divide g (divide g r v) w
  unfolding divide
  divide-append r [] w = refl
  divide-append r (x ∷ v) w = divide-append (step g r x) v w

  -- ---- the remainder
  pub length-remainder : (w : List ℕ) → length (remainder g w) ≡ length g
  unfolding remainder
  length-remainder w = length-divide (zeros (length g)) w (length-zeros (length g))

  pub below-remainder : (w : List ℕ) → Below 2 (remainder g w)
  unfolding remainder
  below-remainder w = below-divide (zeros (length g)) w (below-zeros (length g))

  pub remainder-⊕ : (v w : List ℕ) → length v ≡ length w → remainder g (v ⊕ w) ≡ remainder g v ⊕ remainder g w
  unfolding remainder
  remainder-⊕ v w h =
      let n : ℕ = length g in
      let z : length (zeros n) ≡ n = length-zeros n in
      ap (λ (l : List ℕ). divide g l (v ⊕ w)) (sym (⊕-zeros (zeros n) n (below-zeros n) z)) ∙ divide-⊕ (zeros n) (zeros n) v w z z h

  pub remainder-zero : (w : List ℕ) → remainder g (0 ∷ w) ≡ remainder g w
  unfolding remainder divide
  remainder-zero w = ap (λ (l : List ℕ). divide g l w) (step-zeros (length g) refl)

  pub remainder-zeros : (n : ℕ) (w : List ℕ) → remainder g (zeros n ++ w) ≡ remainder g w
  remainder-zeros zero w = refl
  remainder-zeros (suc n) w = remainder-zero (zeros n ++ w) ∙ remainder-zeros n w

  still : (n : ℕ) → remainder g (zeros n) ≡ zeros (length g)
  unfolding remainder divide
  still n = ap (remainder g) (sym (append-nil (zeros n))) ∙ remainder-zeros n []

  pub remainder-more : (n : ℕ) (w : List ℕ) → remainder g w ≡ zeros (length g) → remainder g (w ++ zeros n) ≡ zeros (length g)
  unfolding remainder
  remainder-more n w h =
      divide-append (zeros (length g)) w (zeros n) ∙ ap (λ (l : List ℕ). divide g l (zeros n)) h ∙ still n

  -- the register fills up before anything is taken off
  fill : (a b : List ℕ) → Below 2 a → Below 2 b → length b + length a ≡ length g → divide g (zeros (length b) ++ a) b ≡ a ++ b
  unfolding divide step take_off Below
  fill a [] ba bb h = sym (append-nil a)
  fill a (x ∷ b) ba bb h =
      ap (λ (l : List ℕ). divide g l b)
      (ap₂ ◌⊕◌ (append_assoc (zeros (length b)) a (x ∷ [])) (times_zero g)
      ∙ ⊕-zeros (zeros (length b) ++ (a ++ (x ∷ []))) (length g) (below-append 2 (zeros (length b)) (a ++ (x ∷ [])) (below-zeros (length b)) more) (size ∙ h))
      ∙ fill (a ++ (x ∷ [])) b more bb.1 (ap (λ (k : ℕ). length b + k) (length-snoc a x) ∙ omega arith ∙ h)
      ∙ append_assoc a (x ∷ []) b
    where
      more : Below 2 (a ++ (x ∷ []))
      more = below-append 2 a (x ∷ []) ba (bb.0, tt)

      size : length (zeros (length b) ++ (a ++ (x ∷ []))) ≡ suc (length b) + length a
      size = length-append (zeros (length b)) (a ++ (x ∷ [])) ∙ ap₂ ◌+◌ (length-zeros (length b)) (length-snoc a x) ∙ omega arith

  pub remainder-short : (w : List ℕ) → Below 2 w → length w ≡ length g → remainder g w ≡ w
  unfolding remainder Below
  remainder-short w b h =
      ap (λ (l : List ℕ). divide g l w) (ap zeros (sym h) ∙ sym (append-nil (zeros (length w)))) ∙ fill [] w tt b (omega arith)

  -- ---- check bits
  pub length-check : (w : List ℕ) → length (check_bits g w) ≡ length g
  unfolding check_bits
  length-check w = length-remainder (w ++ zeros (length g))

  pub below-check : (w : List ℕ) → Below 2 (check_bits g w)
  unfolding check_bits
  below-check w = below-remainder (w ++ zeros (length g))

  pub remainder-behind : (w c : List ℕ) → Below 2 w → Below 2 c → length c ≡ length g → remainder g (w ++ c) ≡ check_bits g w ⊕ c
  unfolding check_bits
  remainder-behind w c bw bc h =
      ap (remainder g) (sym whole)
      ∙ remainder-⊕ (w ++ zeros (length g)) (zeros (length w) ++ c) sizes
      ∙ ap (λ (l : List ℕ). check_bits g w ⊕ l) (remainder-zeros (length w) c ∙ remainder-short c bc h)
    where
      whole : (w ++ zeros (length g)) ⊕ (zeros (length w) ++ c) ≡ w ++ c
      whole =
          ⊕-append w (zeros (length w)) (zeros (length g)) c (sym (length-zeros (length w)))
          ∙ ap₂ ◌++◌ (⊕-zeros w (length w) bw refl) (zeros-⊕ c (length g) bc h)

      sizes : length (w ++ zeros (length g)) ≡ length (zeros (length w) ++ c)
      sizes =
          length-append w (zeros (length g)) ∙ ap₂ ◌+◌ (sym (length-zeros (length w))) (length-zeros (length g) ∙ sym h)
          ∙ sym (length-append (zeros (length w)) c)

  pub remainder-check : (w : List ℕ) → Below 2 w → remainder g (w ++ check_bits g w) ≡ zeros (length g)
  remainder-check w b =
      remainder-behind w (check_bits g w) b (below-check w) (length-check w) ∙ ⊕-self (check_bits g w) ∙ ap zeros (length-check w)

  pub check-only : (w c : List ℕ) → Below 2 w → Below 2 c → length c ≡ length g → remainder g (w ++ c) ≡ zeros (length g) → c ≡ check_bits g w
  check-only w c bw bc h e =
      sym (⊕-cancel (check_bits g w) c (length g) (below-check w) bc (length-check w) h (sym (remainder-behind w c bw bc h) ∙ e))

  -- ---- many steps at once
  pub remainder-on : (v w : List ℕ) → remainder g (v ++ w) ≡ divide g (remainder g v) w
  unfolding remainder
  remainder-on v w = divide-append (zeros (length g)) v w

  pub divide-many : (top low w : List ℕ) → Below 2 top → Below 2 low → Below 2 w → length top + length low ≡ length g → length w ≡ length top
      → divide g (top ++ low) w ≡ check_bits g top ⊕ (low ++ w)
  divide-many top low w bt bl bw h k =
      ap (λ (r : List ℕ). divide g r w) (sym (remainder-short (top ++ low) (below-append 2 top low bt bl) (length-append top low ∙ h)))
      ∙ sym (remainder-on (top ++ low) w)
      ∙ ap (remainder g) (append_assoc top low w)
      ∙ remainder-behind top (low ++ w) bt (below-append 2 low w bl bw) (length-append low w ∙ omega arith)
