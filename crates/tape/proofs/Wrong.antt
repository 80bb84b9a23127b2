-- The wrong bits of a superframe's syncs, one by one (document 02, P1).
--     sum-ext, sum-add      sums of the same numbers, and of two parts
--     ones-sum, many-sum    ones counted, and places that pass a test, as sums
--     rows                  a sum over rows of eleven, row by row
--     wrong-most            in a superframe that is not lost they are at most 256, two in each sync
--     wrong-each            the sum over the 128 syncs is the number of wrong bits among all 1,408
-- Assumes nothing.
use mathlib.Core.Path.{◌≡◌, refl, sym, ap, ap₂, ◌∙◌}
use mathlib.Core.Bool.{Bool, true, false, cond}
use mathlib.Core.List.{List}
use Prim.Native.Nat.{ℕ, zero, suc, ◌+◌, ◌*◌, ◌/◌, ◌%◌, ◌<◌, ◌≤◌}
use native.Mathlib.Nat.{add-zero, add-suc, suc-mul}
use native.Mathlib.Decide.{dec_le}
use native.Mathlib.Numerals.{add-one}
use native.Mathlib.Omega.{arith}
use borrow.Author.Tests.{eqb-true, eqb-false}
use lib.Dec.{eqb}
use lib.ListN.{get_or}
use Rattle.bits.specs.Table.{tabulate}
use Rattle.bits.specs.Bits.{bit_at, ones}
use Rattle.bits.proofs.Tests.{either_way}
use Rattle.bits.proofs.Bits.{bit_at-below, bit_below}
use Rattle.bits.proofs.Ones.{ones-more}
use Rattle.frame.specs.Frame.{sync_word}
use Rattle.frame.proofs.Sync.{below-sync, wrong-counted}
use Rattle.tape.specs.Tape.{frame_at, letter_of, wrong_at, synced, sum_to, wrong_bits, how_many}
use Rattle.tape.specs.Faults.{frame}
use Rattle.tape.proofs.Faults.{tells-sync}
use Rattle.tape.specs.Document.{wrong_bit}

pub sum-ext : (n : ℕ) (g h : ℕ → ℕ) → ((k : ℕ) → k < n → g k ≡ h k) → sum_to n g ≡ sum_to n h
unfolding sum_to
sum-ext zero g h e = refl
sum-ext (suc n) g h e = ap₂ (λ (a b : ℕ). a + b) (sum-ext n g h (λ k l. e k (omega arith))) (e n (omega arith))

pub sum-add : (m n : ℕ) (g : ℕ → ℕ) → sum_to (m + n) g ≡ sum_to m g + sum_to n (λ k. g (m + k))
unfolding sum_to
sum-add m zero g = rw add-zero (omega arith)
sum-add m (suc n) g = let before = sum-add m n g in rw add-suc (omega (arith, before))

pub ones-sum : (n : ℕ) (g : ℕ → ℕ) → ones (tabulate n g) ≡ sum_to n (λ k. g k % 2)
unfolding tabulate ones sum_to
ones-sum zero g = refl
ones-sum (suc n) g =
    let before = ones-sum n g in
    ap (λ (k : ℕ). ones (tabulate k g)) (sym (add-one n)) ∙ ones-more n g ∙ ap (λ (a : ℕ). a + g n % 2) before

pub many-sum : (n : ℕ) (P : ℕ → Bool) → how_many n P ≡ sum_to n (λ k. cond (P k) 1 0)
unfolding how_many sum_to
many-sum zero P = refl
many-sum (suc n) P = ap (λ (a : ℕ). a + cond (P n) 1 0) (many-sum n P)

pub rows : (m : ℕ) (g : ℕ → ℕ → ℕ) → sum_to (m * 11) (λ n. g (n / 11) (n % 11)) ≡ sum_to m (λ f. sum_to 11 (g f))
unfolding sum_to
rows zero g = refl
rows (suc m) g =
    let size : suc m * 11 ≡ m * 11 + 11 = omega arith in
    ap (λ (n : ℕ). sum_to n (λ n. g (n / 11) (n % 11))) size
    ∙ sum-add (m * 11) 11 (λ n. g (n / 11) (n % 11))
    ∙ ap₂ (λ (a b : ℕ). a + b) (rows m g)
    (sum-ext 11 (λ k. g ((m * 11 + k) / 11) ((m * 11 + k) % 11)) (g m)
    (λ k l.
    let row : (m * 11 + k) / 11 ≡ m = omega arith in
    let place : (m * 11 + k) % 11 ≡ k = omega arith in
    rw (row, place)))

sum-most : (n b : ℕ) (g : ℕ → ℕ) → ((k : ℕ) → k < n → g k ≤ b) → sum_to n g ≤ n * b
unfolding sum_to
sum-most zero b g h = omega arith
sum-most (suc n) b g h =
    let before = sum-most n b g (λ k l. h k (omega arith)) in
    let last = h n (omega arith) in
    let size = suc-mul n b in
    omega (arith, before, last, size)

-- two bits differ where their sum is odd
differs : (x y : ℕ) → x < 2 → y < 2 → (x + y) % 2 ≡ cond (cond (eqb y x) false true) 1 0
differs x y h l =
    either_way (eqb y x)
    (λ e. let same = eqb-true y x e in rw e (omega (arith, same)))
    (λ e. let other = eqb-false y x e in rw e (omega (arith, h, l, other)))

module _ (sf : List ℕ) where
  two-at-most : synced sf ≡ true → (f : ℕ) → f < 128 → wrong_at sf f ≤ 2
  two-at-most e f l = go (dec_le 3 (wrong_at sf f))
    where
      go : Dec (3 ≤ wrong_at sf f) → wrong_at sf f ≤ 2
      go (yes many) = absurd ((tells-sync sf).away e (frame f l many))
      go (no few) = omega (arith, few)

  pub wrong-most : synced sf ≡ true → wrong_bits sf ≤ 256
  unfolding wrong_bits
  wrong-most e = sum-most 128 2 (wrong_at sf) (two-at-most e)

  -- of one sync
  wrong-frame : (f : ℕ) → wrong_at sf f ≡ sum_to 11 (λ k. cond (wrong_bit sf f k) 1 0)
  unfolding wrong_at wrong_bit
  wrong-frame f =
      let word = sync_word (letter_of f) in
      wrong-counted (letter_of f) (frame_at sf f)
      ∙ ones-sum 11 (λ k. (get_or word k 0 + bit_at (frame_at sf f) k) % 2)
      ∙ sum-ext 11 (λ k. (get_or word k 0 + bit_at (frame_at sf f) k) % 2 % 2) (λ k. cond (cond (eqb (bit_at (frame_at sf f) k) (get_or word k 0)) false true) 1 0)
      (λ k l.
      let bit = bit_below word k (below-sync (letter_of f)) in
      let twice : (get_or word k 0 + bit_at (frame_at sf f) k) % 2 % 2 ≡ (get_or word k 0 + bit_at (frame_at sf f) k) % 2 = omega arith in
      twice ∙ differs (get_or word k 0) (bit_at (frame_at sf f) k) bit (bit_at-below (frame_at sf f) k))

  pub wrong-each : wrong_bits sf ≡ how_many 1408 (λ n. wrong_bit sf (n / 11) (n % 11))
  unfolding wrong_bits
  wrong-each =
      sum-ext 128 (wrong_at sf) (λ f. sum_to 11 (λ k. cond (wrong_bit sf f k) 1 0)) (λ f l. wrong-frame f)
      ∙ sym (rows 128 (λ f k. cond (wrong_bit sf f k) 1 0))
      ∙ sym (many-sum 1408 (λ n. wrong_bit sf (n / 11) (n % 11)))
