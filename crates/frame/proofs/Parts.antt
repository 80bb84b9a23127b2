-- The four parts of a frame's 320 bits, one behind the other.
--     parts sync s front back                    the sync word, the service bit, and two interleaved pairs of blocks
--     length-parts, below_parts                  how long they are together; bits stay bits
--     at-sync, at-service, at_front, at_back     what stands where
-- Assumes nothing.
use mathlib.Core.Path.{◌≡◌, refl, ap, ◌∙◌}
use mathlib.Core.List.{List, [], ◌∷◌, ◌++◌}
use Prim.Native.Nat.{ℕ, ◌+◌, ◌-◌, ◌<◌, ◌≤◌}
use native.Mathlib.Omega.{arith}
use lib.ListN.{length, get_or, length-append}
use Rattle.bits.specs.Digits.{Below}
use Rattle.bits.proofs.Digits.{below-append}
use Rattle.bits.proofs.Table.{get_d_front, get_or-back}

abbrev pub parts : List ℕ → ℕ → List ℕ → List ℕ → List ℕ
parts sync s front back = sync ++ (s ∷ (front ++ back))

pub below_parts : (sync : List ℕ) (s : ℕ) (front back : List ℕ) → Below 2 sync → s < 2 → Below 2 front → Below 2 back → Below 2 (parts sync s front back)
unfolding Below
below_parts sync s front back y l p q = below-append 2 sync (s ∷ (front ++ back)) y (l, below-append 2 front back p q)

module _ (sync : List ℕ) (s : ℕ) (front back : List ℕ) (head : length sync ≡ 11) (pair : length front ≡ 154) where
  pub length-parts : length (parts sync s front back) ≡ 166 + length back
  length-parts = rw (length-append sync (s ∷ (front ++ back)), length-append front back) (omega arith)

  -- past the sync word, k counts from 1 at the first pair
  past-sync : (k : ℕ) → 11 ≤ k → get_or (parts sync s front back) k 0 ≡ get_or (s ∷ (front ++ back)) (k - 11) 0
  past-sync k h = get_or-back sync (s ∷ (front ++ back)) 11 k 0 head h

  past-service : (k : ℕ) → 12 ≤ k → get_or (parts sync s front back) k 0 ≡ get_or (front ++ back) (k - 12) 0
  past-service k h =
      let less : k - 11 - 1 ≡ k - 12 = omega arith in
      past-sync k (omega arith) ∙ get_or-back (s ∷ []) (front ++ back) 1 (k - 11) 0 refl (omega arith) ∙ ap (λ (i : ℕ). get_or (front ++ back) i 0) less

  pub at-sync : (k : ℕ) → k < 11 → get_or (parts sync s front back) k 0 ≡ get_or sync k 0
  at-sync k h = get_d_front sync (s ∷ (front ++ back)) 11 k 0 head h

  pub at-service : (k : ℕ) → k ≡ 11 → get_or (parts sync s front back) k 0 ≡ s
  at-service k e = let none : k - 11 ≡ 0 = omega arith in past-sync k (omega arith) ∙ ap (λ (i : ℕ). get_or (s ∷ (front ++ back)) i 0) none

  pub at_front : (k : ℕ) → 12 ≤ k → k < 166 → get_or (parts sync s front back) k 0 ≡ get_or front (k - 12) 0
  at_front k h l = past-service k h ∙ get_d_front front back 154 (k - 12) 0 pair (omega arith)

  pub at_back : (k : ℕ) → 166 ≤ k → get_or (parts sync s front back) k 0 ≡ get_or back (k - 166) 0
  at_back k h =
      let less : k - 12 - 154 ≡ k - 166 = omega arith in
      past-service k (omega arith) ∙ get_or-back front back 154 (k - 12) 0 pair (omega arith) ∙ ap (λ (i : ℕ). get_or back i 0) less
