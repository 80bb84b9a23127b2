-- Laws of the search for the first place of a number, for two places and for three.
--     here, on, over    at the place reached; from the next one on; at the end
--     hit, miss, pair-hit    what is found is there; what is there is found
--     last-here, last_on, last-hit, last-miss
--                       the same of the search for the last place
--     pair-there, pair-away, two-away, two-there
--                       what stands beside a pair, and the two places, by what the search found
--     three-here, three-on, three-over
--                       three places: at the first place reached; from the next one on; at the end
--     placed, unplaced, found_is, missed_is
--                       a place that is found, as the code answers it, and one that is not
--     apart-none, apart-some, two-none, two-some, three-some, three-none
--                       the two places of a pair, and what comes of them, by what the code's search for a pair answers
--     by-none, by_two, by_one, by-nowhere, by_three
--                       the answers, by the remainder's ones, by what was found and by the radius
--     even-low, odd_low     whether the remainder's ones are even in number, as the code counts them
-- Assumes nothing.
use mathlib.Core.Path.{◌≡◌, refl, sym, ap, ap₂, ◌∙◌, subst}
use mathlib.Core.Logic.{⊎_elim}
use mathlib.Core.Bool.{Bool, true, false, cond}
use mathlib.Core.List.{List, [], ◌∷◌}
use mathlib.Core.Option.{Option, none, some}
use Prim.Native.Nat.{ℕ, zero, suc, ◌+◌, ◌-◌, ◌/◌, ◌%◌, ◌^◌, ◌≤◌, ◌<◌}
use native.Mathlib.Nat.{eq-or-lt_of_le, le_of_suc-le-suc, mod-lt}
use native.Mathlib.Numerals.{add-one}
use native.Mathlib.Omega.{arith}
use borrow.Author.Tests.{eqb-true, eqb-false, ltb-true, ltb-false, eq-eqb, ne_eqb, lt-ltb, le-ltb}
use lib.Bits.{bit_xor}
use lib.Count as Count
use lib.Dec.{eqb, ltb}
use lib.ListN.{length, get_or}
use lib.Pow.{pow_pos}
use Rattle.std.specs.declared.option.Option.TheVariants.{Some, None}
use Rattle.std.proofs.lemmas.Option.{cond_some}
use Rattle.bits.specs.Bits.{ones}
use Rattle.bits.specs.Digits.{digits}
use Rattle.bits.proofs.Digits.{digits_low}
use Rattle.bits.proofs.Ones.{count-digits}
use Rattle.bits.proofs.Tests.{either_way}
use Rattle.lookup.specs.Search.{first_from, first_in, last_of, pair_of, pair_by, two_by, first_at, three_from, three_by, places_by, place_in, apart}

module _ (ts : List ℕ) (s : ℕ) where
  pub here : (k end : ℕ) → k < end → get_or ts k 0 ≡ s → first_from ts s k (end - k) ≡ k
  unfolding first_from
  here k end h e =
      let more : end - k ≡ suc (end - suc k) = omega arith in
      ap (first_from ts s k) more ∙ ap (λ (b : Bool). cond b k (first_from ts s (suc k) (end - suc k))) (eq-eqb (get_or ts k 0) s e)

  pub on : (k end : ℕ) → k < end → (get_or ts k 0 ≡ s → ⊥) → first_from ts s k (end - k) ≡ first_from ts s (k + 1) (end - (k + 1))
  unfolding first_from
  on k end h e =
      let more : end - k ≡ suc (end - suc k) = omega arith in
      ap (first_from ts s k) more ∙ ap (λ (b : Bool). cond b k (first_from ts s (suc k) (end - suc k))) (ne_eqb (get_or ts k 0) s e)
      ∙ ap (λ (j : ℕ). first_from ts s j (end - j)) (sym (add-one k))

  pub over : (k end : ℕ) → end ≤ k → first_from ts s k (end - k) ≡ length ts
  unfolding first_from
  over k end h = let none : end - k ≡ 0 = omega arith in ap (first_from ts s k) none

  hit-from : (k n : ℕ) → first_from ts s k n < length ts → get_or ts (first_from ts s k n) 0 ≡ s
  unfolding first_from
  hit-from k zero h = absurd (omega arith)
  hit-from k (suc n) h =
      either_way (eqb (get_or ts k 0) s)
      (λ t. subst (λ (b : Bool). cond b k (first_from ts s (suc k) n) < length ts → get_or ts (cond b k (first_from ts s (suc k) n)) 0 ≡ s) (sym t) (λ l. eqb-true (get_or ts k 0) s t) h)
      (λ t. subst (λ (b : Bool). cond b k (first_from ts s (suc k) n) < length ts → get_or ts (cond b k (first_from ts s (suc k) n)) 0 ≡ s) (sym t) (λ l. hit-from (suc k) n l) h)

  miss-from : (k n j : ℕ) → k ≤ j → j < k + n → j < length ts → get_or ts j 0 ≡ s → first_from ts s k n < length ts
  unfolding first_from
  miss-from k zero j h l w e = absurd (omega arith)
  miss-from k (suc n) j h l w e =
      either_way (eqb (get_or ts k 0) s)
      (λ t. subst (λ (b : Bool). cond b k (first_from ts s (suc k) n) < length ts) (sym t) (omega arith))
      (λ t.
      subst (λ (b : Bool). cond b k (first_from ts s (suc k) n) < length ts) (sym t)
      (⊎_elim
      (λ same. absurd (eqb-false (get_or ts k 0) s t (ap (λ (i : ℕ). get_or ts i 0) same ∙ e)))
      (λ less. miss-from (suc k) n j less (omega arith) w e)
      (eq-or-lt_of_le h)))

  pub hit : (from to : ℕ) → first_in ts s from to < length ts → get_or ts (first_in ts s from to) 0 ≡ s
  unfolding first_in
  hit from to h = hit-from from _ h

  pub miss : (from to j : ℕ) → from ≤ j → j < to → j < length ts → get_or ts j 0 ≡ s → first_in ts s from to < length ts
  unfolding first_in
  miss from to j h l w e =
      either_way (ltb to (length ts))
      (λ t. subst (λ (b : Bool). first_from ts s from (cond b to (length ts) - from) < length ts) (sym t) (miss-from from (to - from) j h (omega arith) w e))
      (λ t. subst (λ (b : Bool). first_from ts s from (cond b to (length ts) - from) < length ts) (sym t) (miss-from from (length ts - from) j h (omega arith) w e))

module _ (ts : List ℕ) (s : ℕ) where
  pub last-here : (k : ℕ) → get_or ts k 0 ≡ s → k ≡ last_of ts s (k + 1)
  unfolding last_of
  last-here k e = sym (ap (last_of ts s) (add-one k) ∙ ap (λ (b : Bool). cond b k (last_of ts s k)) (eq-eqb (get_or ts k 0) s e))

  pub last_on : (k : ℕ) → (get_or ts k 0 ≡ s → ⊥) → last_of ts s k ≡ last_of ts s (k + 1)
  unfolding last_of
  last_on k e = sym (ap (last_of ts s) (add-one k) ∙ ap (λ (b : Bool). cond b k (last_of ts s k)) (ne_eqb (get_or ts k 0) s e))

  pub last-hit : (n : ℕ) → last_of ts s n < 63 → get_or ts (last_of ts s n) 0 ≡ s
  unfolding last_of
  last-hit zero h = absurd (omega arith)
  last-hit (suc n) h =
      either_way (eqb (get_or ts n 0) s)
      (λ t. subst (λ (b : Bool). cond b n (last_of ts s n) < 63 → get_or ts (cond b n (last_of ts s n)) 0 ≡ s) (sym t) (λ l. eqb-true (get_or ts n 0) s t) h)
      (λ t. subst (λ (b : Bool). cond b n (last_of ts s n) < 63 → get_or ts (cond b n (last_of ts s n)) 0 ≡ s) (sym t) (λ l. last-hit n l) h)

  pub last-miss : (n j : ℕ) → n ≤ 63 → j < n → get_or ts j 0 ≡ s → last_of ts s n < 63
  unfolding last_of
  last-miss zero j h l e = absurd (omega arith)
  last-miss (suc n) j h l e =
      either_way (eqb (get_or ts n 0) s)
      (λ t. subst (λ (b : Bool). cond b n (last_of ts s n) < 63) (sym t) h)
      (λ t.
      subst (λ (b : Bool). cond b n (last_of ts s n) < 63) (sym t)
      (⊎_elim
      (λ same. absurd (eqb-false (get_or ts n 0) s t (ap (λ (i : ℕ). get_or ts i 0) (sym same) ∙ e)))
      (λ less. last-miss n j (omega arith) less e)
      (eq-or-lt_of_le (le_of_suc-le-suc l))))

pub pair-hit : (pairs starts : List ℕ) (s : ℕ) → pair_of pairs starts s < length pairs → get_or pairs (pair_of pairs starts s) 0 ≡ s
unfolding pair_of
pair-hit pairs starts s h = hit pairs s _ _ h

module _ (pairs places starts : List ℕ) (s : ℕ) where
  pub pair-there : pair_of pairs starts s < 1953 → pair_by pairs places starts s ≡ get_or places (pair_of pairs starts s) 0
  unfolding pair_by
  pair-there h = rw (lt-ltb (pair_of pairs starts s) 1953 h)

  pub pair-away : 1953 ≤ pair_of pairs starts s → pair_by pairs places starts s ≡ 0
  unfolding pair_by
  pair-away h = rw (le-ltb (pair_of pairs starts s) 1953 h)

  pub two-away : pair_by pairs places starts s ≡ 0 → two_by pairs places starts s ≡ none
  unfolding two_by
  two-away e = rw (eq-eqb (pair_by pairs places starts s) 0 e)

  pub two-there : (pair_by pairs places starts s ≡ 0 → ⊥)
      → two_by pairs places starts s ≡ some (pair_by pairs places starts s / 64 ∷ pair_by pairs places starts s % 64 ∷ [])
  unfolding two_by
  two-there e = rw (ne_eqb (pair_by pairs places starts s) 0 e)

-- ---- three places
module _ (singles pairs places starts : List ℕ) (s : ℕ) where
  -- the pair that leaves the rest
  abbrev pub both_at : ℕ → ℕ
  both_at i = pair_by pairs places starts (bit_xor s (get_or singles i 0) % 2 ^ 19)

  abbrev from : ℕ → ℕ → Option (List ℕ)
  from = three_from singles pairs places starts s

  step : (i : ℕ) (b : Bool) → ltb i (both_at i / 64) ≡ b → i < 63
      → from i (63 - i) ≡ cond b (some (i ∷ both_at i / 64 ∷ both_at i % 64 ∷ [])) (from (suc i) (63 - suc i))
  unfolding three_from first_at
  step i b e l =
      let more : 63 - i ≡ suc (63 - suc i) = omega arith in
      ap (from i) more ∙ ap (λ (t : Bool). cond t (some (i ∷ both_at i / 64 ∷ both_at i % 64 ∷ [])) (from (suc i) (63 - suc i))) e

  pub three-here : (i : ℕ) → i < 63 → i < both_at i / 64 → from i (63 - i) ≡ some (i ∷ both_at i / 64 ∷ both_at i % 64 ∷ [])
  three-here i l h = step i true (lt-ltb i (both_at i / 64) h) l

  pub three-on : (i : ℕ) → i < 63 → both_at i / 64 ≤ i → from i (63 - i) ≡ from (i + 1) (63 - (i + 1))
  three-on i l h = step i false (le-ltb i (both_at i / 64) h) l ∙ ap (λ (j : ℕ). from j (63 - j)) (sym (add-one i))

  pub three-over : (i : ℕ) → 63 ≤ i → from i (63 - i) ≡ none
  unfolding three_from
  three-over i h = let end : 63 - i ≡ 0 = omega arith in ap (from i) end

-- ---- what the code answers
unsome : {A : Type 0} (b : Bool) (x : A) → cond b (Some x) None ≡ None → b ≡ false
unsome true x e = cc
unsome false x e = refl

module _ (n k : ℕ) where
  pub placed : k < n → place_in n k ≡ Some k
  placed h = rw (lt-ltb k n h)

  pub unplaced : n ≤ k → place_in n k ≡ None
  unplaced h = rw (le-ltb k n h)

  pub found_is : (i : ℕ) → place_in n k ≡ Some i → (k < n) × (k ≡ i)
  found_is i e = let h = cond_some (ltb k n) k i e in (ltb-true k n h.0, h.1)

  pub missed_is : place_in n k ≡ None → n ≤ k
  missed_is e = ltb-false k n (unsome (ltb k n) k e)

module _ (x : ℕ) where
  pub apart-none : x ≡ 0 → apart x ≡ None
  apart-none e = ap apart e

  pub apart-some : (x ≡ 0 → ⊥) → apart x ≡ Some (x / 64, x % 64)
  apart-some e = rw (lt-ltb 0 x (omega (arith, e)))

  none-zero : apart x ≡ None → x ≡ 0
  none-zero e = let h = ltb-false 0 x (unsome (ltb 0 x) (x / 64, x % 64) e) in omega arith

  some-apart : (i j : ℕ) → apart x ≡ Some (i, j) → (0 < x) × (x / 64 ≡ i) × (x % 64 ≡ j)
  some-apart i j e =
      let h = cond_some (ltb 0 x) (x / 64, x % 64) (i, j) e in
      (ltb-true 0 x h.0, ap (λ (p : ℕ × ℕ). p.0) h.1, ap (λ (p : ℕ × ℕ). p.1) h.1)

module _ (pairs places starts : List ℕ) (s : ℕ) where
  pub two-none : apart (pair_by pairs places starts s) ≡ None → two_by pairs places starts s ≡ none
  two-none e = two-away pairs places starts s (none-zero _ e)

  pub two-some : (i j : ℕ) → apart (pair_by pairs places starts s) ≡ Some (i, j) → two_by pairs places starts s ≡ some (i ∷ j ∷ [])
  two-some i j e =
      let h = some-apart _ i j e in
      two-there pairs places starts s (λ z. omega (arith, h.0)) ∙ ap₂ (λ (a b : ℕ). some (a ∷ b ∷ [])) h.1 h.2

module _ (singles pairs places starts : List ℕ) (s i : ℕ) (l : i < 63) where
  abbrev at : ℕ → Option (List ℕ)
  at k = three_from singles pairs places starts s k (63 - k)

  pub three-some : (j k : ℕ) → apart (both_at singles pairs places starts s i) ≡ Some (j, k) → i < j → at i ≡ some (i ∷ j ∷ k ∷ [])
  three-some j k e m =
      let h = some-apart _ j k e in
      three-here singles pairs places starts s i l (omega (arith, h.1)) ∙ ap₂ (λ (a b : ℕ). some (i ∷ a ∷ b ∷ [])) h.1 h.2

  pub three-other : (j k : ℕ) → apart (both_at singles pairs places starts s i) ≡ Some (j, k) → j ≤ i → at i ≡ at (i + 1)
  three-other j k e m = let h = some-apart _ j k e in three-on singles pairs places starts s i l (omega (arith, h.1))

  pub three-none : apart (both_at singles pairs places starts s i) ≡ None → at i ≡ at (i + 1)
  three-none e = let z = none-zero _ e in three-on singles pairs places starts s i l (omega (arith, z))

-- ---- the answers
module _ (singles pairs places starts : List ℕ) (radius r : ℕ) where
  abbrev answered : Option (List ℕ)
  answered = places_by singles pairs places starts radius r

  abbrev s : ℕ
  s = r % 2 ^ 19

  abbrev one : ℕ
  one = last_of singles s 63

  pub by-none : s ≡ 0 → answered ≡ some []
  unfolding places_by
  by-none z = rw (eq-eqb s 0 z)

  module _ (left : s ≡ 0 → ⊥) where
    pub by_two : ones (digits 2 19 r) % 2 ≡ 0 → answered ≡ two_by pairs places starts s
    unfolding places_by
    by_two e = rw (ne_eqb s 0 left, eq-eqb (ones (digits 2 19 r) % 2) 0 e)

    module _ (odd : ones (digits 2 19 r) % 2 ≡ 0 → ⊥) where
      pub by_one : one < 63 → answered ≡ some (one ∷ [])
      unfolding places_by
      by_one l = rw (ne_eqb s 0 left, ne_eqb (ones (digits 2 19 r) % 2) 0 odd, lt-ltb one 63 l)

      module _ (none-alone : 63 ≤ one) where
        pub by-nowhere : radius < 3 → answered ≡ none
        unfolding places_by
        by-nowhere h = rw (ne_eqb s 0 left, ne_eqb (ones (digits 2 19 r) % 2) 0 odd, le-ltb one 63 none-alone, lt-ltb radius 3 h)

        pub by_three : 3 ≤ radius → answered ≡ three_by singles pairs places starts s
        unfolding places_by
        by_three h = rw (ne_eqb s 0 left, ne_eqb (ones (digits 2 19 r) % 2) 0 odd, le-ltb one 63 none-alone, le-ltb radius 3 h)

-- ---- the ones of the 19 low digits, as the code counts them
count_low : (r : ℕ) → Count.ones (r % 2 ^ 19) ≡ ones (digits 2 19 r)
count_low r = count-digits 19 (r % 2 ^ 19) (mod-lt r (pow_pos 19)) ∙ ap ones (digits_low 19 r)

pub even-low : (r : ℕ) → Count.ones (r % 2 ^ 19) % 2 ≡ 0 → ones (digits 2 19 r) % 2 ≡ 0
even-low r e = ap (λ (n : ℕ). n % 2) (sym (count_low r)) ∙ e

pub odd_low : (r : ℕ) → (Count.ones (r % 2 ^ 19) % 2 ≡ 0 → ⊥) → ones (digits 2 19 r) % 2 ≡ 0 → ⊥
odd_low r e z = e (ap (λ (n : ℕ). n % 2) (count_low r) ∙ z)
