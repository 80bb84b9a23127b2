-- Laws of the sync words.
--     length-sync, below-sync    eleven bits
--     wrong-counted              wrong sync bits, counted one by one
--     sync-matches, sync-right   none are wrong exactly when the first eleven bits are the sync word
--     eleven-apart               the two words differ in all eleven bits
--     wrong-both, never_both     so the wrong bits by one letter and by the other are eleven together, and no frame passes for both
-- Assumes nothing.
use mathlib.Core.Path.{◌≡◌, refl, sym, ap, ap₂, ◌∙◌}
use mathlib.Core.List.{List}
use Prim.Native.Nat.{ℕ, zero, suc, ◌+◌, ◌%◌, ◌<◌, ◌≤◌}
use native.Mathlib.Numerals.{add-one}
use native.Mathlib.Omega.{arith}
use lib.ListN.{length, get_or}
use Rattle.bits.specs.Table.{tabulate}
use Rattle.bits.specs.Digits.{Below}
use Rattle.bits.specs.Bits.{bit_at, ones}
use Rattle.bits.proofs.Table.{length-tab, get_or-tab, tab-get_or}
use Rattle.bits.proofs.Ones.{ones-more}
use Rattle.bits.proofs.Digits.{below-tab}
use Rattle.bits.proofs.Bits.{bit_at-below}
use Rattle.remainder.specs.Polynomial.{◌⊕◌, zeros}
use Rattle.remainder.proofs.Sum.{length-⊕, below-⊕, ⊕-cancel, ⊕-tab}
use Rattle.remainder.proofs.Ones.{none-zeros}
use Rattle.code.specs.Words.{distance}
use Rattle.code.proofs.Distance.{distance_self}
use Rattle.frame.specs.Frame.{sync_word}
use Rattle.frame.specs.Read.{wrong_sync}
use Rattle.frame.specs.declared.Letter.{Letter}
use Rattle.frame.specs.declared.Letter.TheVariants.{A, B}

pub length-sync : (letter : Letter) → length (sync_word letter) ≡ 11
unfolding sync_word
length-sync A = refl
length-sync B = refl

pub below-sync : (letter : Letter) → Below 2 (sync_word letter)
unfolding sync_word Below
below-sync A = omega arith
below-sync B = omega arith

pub wrong-counted : (letter : Letter) (bytes : List ℕ) → wrong_sync letter bytes ≡ ones (tabulate 11 (λ k. (get_or (sync_word letter) k 0 + bit_at bytes k) % 2))
unfolding wrong_sync distance
wrong-counted letter bytes =
    ap (λ (l : List ℕ). ones (l ⊕ tabulate 11 (bit_at bytes))) (tab-get_or 11 (sync_word letter) 0 (length-sync letter))
    ∙ ap ones (⊕-tab 11 (λ k. get_or (sync_word letter) k 0) (bit_at bytes))

module _ (letter : Letter) (bytes : List ℕ) where
  same_length : length (sync_word letter) ≡ length (tabulate 11 (bit_at bytes))
  same_length = length-sync letter ∙ sym (length-tab 11 (bit_at bytes))

  pub sync-matches : wrong_sync letter bytes ≡ 0 → tabulate 11 (bit_at bytes) ≡ sync_word letter
  unfolding wrong_sync distance
  sync-matches none =
      sym
      (⊕-cancel (sync_word letter) (tabulate 11 (bit_at bytes)) 11 (below-sync letter) (below-tab 2 11 (bit_at bytes) (λ k h. bit_at-below bytes k))
      (length-sync letter) (length-tab 11 (bit_at bytes))
      (none-zeros (sync_word letter ⊕ tabulate 11 (bit_at bytes)) (below-⊕ (sync_word letter) (tabulate 11 (bit_at bytes))) none
      ∙ ap zeros (length-⊕ (sync_word letter) (tabulate 11 (bit_at bytes)) same_length ∙ length-sync letter)))

  pub sync-right : tabulate 11 (bit_at bytes) ≡ sync_word letter → wrong_sync letter bytes ≡ 0
  unfolding wrong_sync
  sync-right e = ap (distance (sync_word letter)) e ∙ distance_self (sync_word letter)

pub eleven-apart : distance (sync_word A) (sync_word B) ≡ 11
unfolding distance sync_word ◌⊕◌ ones
eleven-apart = refl

-- place by place
inverse-all : tabulate 11 (λ k. get_or (sync_word A) k 0 + get_or (sync_word B) k 0) ≡ tabulate 11 (λ k. 1)
unfolding sync_word tabulate
inverse-all = refl

inverse : (k : ℕ) → k < 11 → get_or (sync_word A) k 0 + get_or (sync_word B) k 0 ≡ 1
inverse k h =
    sym (get_or-tab 11 (λ k. get_or (sync_word A) k 0 + get_or (sync_word B) k 0) k 0 h)
    ∙ ap (λ (l : List ℕ). get_or l k 0) inverse-all
    ∙ get_or-tab 11 (λ k. 1) k 0 h

-- rows of which one has a one just where the other has none
either-one : (n : ℕ) (f g : ℕ → ℕ) → ((k : ℕ) → k < n → f k % 2 + g k % 2 ≡ 1) → ones (tabulate n f) + ones (tabulate n g) ≡ n
unfolding tabulate ones
either-one zero f g h = refl
either-one (suc n) f g h =
    let before = either-one n f g (λ k l. h k (omega arith)) in
    let last = h n (omega arith) in
    ap₂ (λ (a b : ℕ). a + b)
    (ap (λ (k : ℕ). ones (tabulate k f)) (sym (add-one n)) ∙ ones-more n f)
    (ap (λ (k : ℕ). ones (tabulate k g)) (sym (add-one n)) ∙ ones-more n g)
    ∙ omega (arith, before, last)

module _ (bytes : List ℕ) where
  pub wrong-both : wrong_sync A bytes + wrong_sync B bytes ≡ 11
  wrong-both =
      ap₂ (λ (a b : ℕ). a + b) (wrong-counted A bytes) (wrong-counted B bytes)
      ∙ either-one 11 (λ k. (get_or (sync_word A) k 0 + bit_at bytes k) % 2) (λ k. (get_or (sync_word B) k 0 + bit_at bytes k) % 2)
      (λ k h. let one = inverse k h in omega (arith, one))

  pub never_both : wrong_sync A bytes ≤ 2 → 9 ≤ wrong_sync B bytes
  never_both few = omega (arith, wrong-both, few)
