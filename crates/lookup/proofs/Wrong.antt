-- By the true tables, what is looked up are the wrong places.
--     back                  a number added twice
--     places-wrong          THE THEOREM: what `places_by` promises of any tables is, with the true ones, `wrong_places`, at radius 2 and at 3
-- Assumes nothing.
use mathlib.Core.Path.{◌≡◌, refl, sym, ap, ap₂, ◌∙◌, subst}
use mathlib.Core.Logic.{⊎_elim}
use mathlib.Core.Bool.{cond}
use mathlib.Core.List.{List, [], ◌∷◌}
use mathlib.Core.Option.{Option, none, some}
use Prim.Native.Nat.{ℕ, zero, suc, ◌+◌, ◌*◌, ◌/◌, ◌%◌, ◌^◌, ◌≤◌, ◌<◌}
use native.Mathlib.Nat.{mod-lt, mod-eq_of_lt, not-suc-le-zero, le_of_suc-le-suc, eq-or-lt_of_le}
use native.Mathlib.Omega.{arith}
use borrow.Author.Tests.{eqb-true, eqb-false, ltb-true, ltb-false}
use lib.Bits.{bit_xor, xor_comm, xor_lt}
use lib.Dec.{eqb, ltb}
use lib.ListN.{get_or}
use lib.Pow.{pow_pos}
use Rattle.bits.specs.Bits.{ones}
use Rattle.bits.specs.Digits.{value, digits}
use Rattle.bits.proofs.Digits.{length_digits, below-digits, value-digits}
use Rattle.bits.proofs.Tests.{either_way}
use Rattle.remainder.specs.Polynomial.{◌⊕◌, zeros}
use Rattle.remainder.proofs.Sum.{⊕-assoc, ⊕-comm, ⊕-self, ⊕-zeros}
use Rattle.remainder.proofs.Register.{digits-xor}
use Rattle.remainder.proofs.Ones.{ones-zeros}
use Rattle.reading.specs.Reading.{largest_radius}
use Rattle.reading.specs.Wrong.{column_numbers, wrong_places}
use Rattle.reading.proofs.Few.{at, pair, triple, ones-at, ones-pair, Few, zero-ones, one-one, two-ones, three-ones}
use Rattle.reading.proofs.Wrong.{Fitting, t, low, t-small, as-few, as_many, fits-at, fits-pair, pair_fits, none-fits, rest, rest-small, with_first, without-first, wrong-none, wrong-zero, wrong-one, wrong-two, wrong-three}
use Rattle.pairs.specs.Pairs.{pair_table, place_table, start_table}
use Rattle.pairs.proofs.Tables.{pair-count, pair-at, pair-stands}
use Rattle.lookup.specs.Search.{last_of, pair_of, pair_by, two_by, first_at, three_from, three_by, places_by}
use Rattle.lookup.proofs.Search.{miss, pair-hit, last-hit, last-miss, pair-there, pair-away, two-away, two-there}

-- ---- exclusive or
pub back : (a b : ℕ) → a < 2 ^ 19 → b < 2 ^ 19 → bit_xor (bit_xor a b) a ≡ b
back a b ha hb =
    number (bit_xor (bit_xor a b) a) (xor_lt 19 (bit_xor a b) a (xor_lt 19 a b ha hb) ha)
    ∙ ap (value 2)
    (digits-xor 19 (bit_xor a b) a ∙ ap (λ (l : List ℕ). l ⊕ A) (digits-xor 19 a b ∙ ⊕-comm A B) ∙ ⊕-assoc B A A
    ∙ ap (λ (l : List ℕ). B ⊕ l) (⊕-self A ∙ ap zeros (length_digits 2 19 a))
    ∙ ⊕-zeros B 19 (below-digits 2 19 b (omega arith)) (length_digits 2 19 b))
    ∙ sym (number b hb)
  where
    A : List ℕ
    A = digits 2 19 a

    B : List ℕ
    B = digits 2 19 b

    number : (x : ℕ) → x < 2 ^ 19 → x ≡ value 2 (digits 2 19 x)
    number x h = sym (mod-eq_of_lt h) ∙ sym (value-digits 2 19 x (omega arith))

-- ---- the pairs of the true tables
pair-in : (i j s : ℕ) → i < j → j < 63 → s ≡ bit_xor (t i) (t j) → pair_of pair_table start_table s < 1953
unfolding pair_of
pair-in i j s h l e =
    let there = pair-stands i j s h l e in
    omega (arith, pair-count, miss pair_table s _ _ there.at there.from there.to there.within there.leaves)

abbrev pair_at : ℕ → ℕ
pair_at s = pair_of pair_table start_table s

abbrev both : ℕ → ℕ
both s = pair_by pair_table place_table start_table s

-- the pair of the tables that leaves a number
record Hit (s : ℕ) : Type 0 where
  one : ℕ
  other : ℕ
  apart : one < other
  within : other < 63
  leaves : t other ≡ bit_xor s (t one)
  first : both s / 64 ≡ one
  second : both s % 64 ≡ other

hit : (s : ℕ) → pair_at s < 1953 → Hit s
hit s l =
    let a = pair-at (pair_at s) l in
    let left : get_or pair_table (pair_at s) 0 ≡ s = pair-hit pair_table start_table s (omega (arith, pair-count)) in
    let beside : both s ≡ a.one * 2 ^ 6 + a.other = pair-there pair_table place_table start_table s l ∙ a.places in
    record {
      one = a.one;
      other = a.other;
      apart = a.apart;
      within = a.within;
      leaves =
          sym
          (ap (λ (x : ℕ). bit_xor x (t a.one)) (sym left ∙ a.leaves)
          ∙ back (t a.one) (t a.other) (t-small _ (omega (arith, a.apart, a.within))) (t-small _ a.within));
      first = omega (arith, beside, a.within);
      second = omega (arith, beside, a.within);
    }

joins : (s i j : ℕ) → s < 2 ^ 19 → i < j → j < 63 → t j ≡ bit_xor s (t i) → s ≡ bit_xor (t i) (t j)
joins s i j small h l e =
    sym (ap (bit_xor (t i)) (e ∙ xor_comm s (t i)) ∙ xor_comm (t i) (bit_xor (t i) s) ∙ back (t i) s (t-small i (omega arith)) small)

-- ---- three places
first_of : Option (List ℕ) → ℕ
first_of none = 0
first_of (some l) = get_or l 0 0

-- a pair that fits is the one in the tables
fits-hit : (s j k : ℕ) → s < 2 ^ 19 → j < k → k < 63 → Fitting 2 s (pair 63 j k) → both s / 64 ≡ j
unfolding first_of
fits-hit s j k small h l f =
    let low-is : s % 2 ^ 19 ≡ s = mod-eq_of_lt small in
    let equation : t k ≡ bit_xor (s % 2 ^ 19) (t j) = pair_fits 2 (omega arith) s j k h l f in
    let found = hit s (pair-in j k s h l (joins s j k small h l (rw low-is at equation))) in
    found.first
    ∙ ap first_of
    (wrong-two 2 (omega arith) (omega arith) s found.one found.other found.apart found.within (found.leaves ∙ ap (λ (x : ℕ). bit_xor x (t found.one)) (sym low-is))
    ∙ sym (wrong-two 2 (omega arith) (omega arith) s j k h l equation))

module _ (r : ℕ) (no-few : (m : List ℕ) → Fitting 3 r m → ones m ≤ 2 → ⊥) where
  -- no three places with such a first one fit
  NoneBefore : ℕ → Type 0
  NoneBefore n = (i j k : ℕ) → i < n → i < j → j < k → k < 63 → Fitting 3 r (triple 63 i j k) → ⊥

  all_none : NoneBefore 63 → wrong_places 3 r ≡ none
  unfolding NoneBefore
  all_none empty = wrong-none 3 (omega arith) r (λ m f. go m f (as-few 3 (omega arith) r m f))
    where
      many : (m : List ℕ) (n : ℕ) → Fitting 3 r m → ones m ≡ n → n ≤ 2 → ⊥
      many m n f e h = no-few m f (omega arith)

      go : (m : List ℕ) → Fitting 3 r m → Few 63 m → ⊥
      go m f (zero-ones e) = many m 0 f (ap ones e ∙ ones-zeros 63) (omega arith)
      go m f (one-one i l e) = many m 1 f (ap ones e ∙ ones-at 63 i l) (omega arith)
      go m f (two-ones i j h l e) = many m 2 f (ap ones e ∙ ones-pair 63 i j h l) (omega arith)
      go m f (three-ones i j k h b l e) = empty i j k (omega arith) h b l (subst (Fitting 3 r) e f)

  three-from : (n i : ℕ) → i + n ≡ 63 → NoneBefore i → three_from column_numbers pair_table place_table start_table (low r) i n ≡ wrong_places 3 r
  unfolding three_from first_at NoneBefore
  three-from zero i e empty = let end : i ≡ 63 = omega arith in sym (all_none (subst NoneBefore end empty))
  three-from (suc n) i e empty =
      let l : i < 63 = omega arith in
      rw (mod-eq_of_lt (rest-small r i l))
      (either_way (ltb i (both (rest r i) / 64))
      (λ q. rw q (taken l (ltb-true i (both (rest r i) / 64) q)))
      (λ q. rw q (three-from n (suc i) (omega arith) (passed l (ltb-false i (both (rest r i) / 64) q)))))
    where
      passed : (l : i < 63) → both (rest r i) / 64 ≤ i → NoneBefore (suc i)
      passed l more a j k b h d w f =
          ⊎_elim
          (λ same.
          let at : i < j = omega arith in
          let fits : Fitting 3 r (triple 63 i j k) = subst (λ (c : ℕ). Fitting 3 r (triple 63 c j k)) same f in
          omega (arith, more, at, fits-hit (rest r i) j k (rest-small r i l) d w (without-first r i l j k at d w fits)))
          (λ less. empty a j k less h d w f)
          (eq-or-lt_of_le (le_of_suc-le-suc b))

      taken : (l : i < 63) → i < both (rest r i) / 64
          → some (i ∷ both (rest r i) / 64 ∷ both (rest r i) % 64 ∷ []) ≡ wrong_places 3 r
      taken l less =
          let s : ℕ = rest r i in
          let p : pair_at s < 1953 =
          either_way (ltb (pair_at s) 1953)
          (λ q. ltb-true (pair_at s) 1953 q)
          (λ q. let no : both s ≡ 0 = pair-away pair_table place_table start_table s (ltb-false (pair_at s) 1953 q) in absurd (omega arith)) in
          let h = hit s p in
          let at : i < h.one = omega (arith, h.first) in
          ap₂ (λ (j k : ℕ). some (i ∷ j ∷ k ∷ [])) h.first h.second
          ∙ wrong-three r i h.one h.other at h.apart h.within
          (with_first r i l h.one h.other at h.apart h.within
          (fits-pair 2 (omega arith) s h.one h.other h.apart h.within (h.leaves ∙ ap (λ (x : ℕ). bit_xor x (t h.one)) (sym (mod-eq_of_lt (rest-small r i l))))))

  three-wrong : three_by column_numbers pair_table place_table start_table (low r) ≡ wrong_places 3 r
  unfolding three_by NoneBefore
  three-wrong = three-from 63 0 refl (λ i j k b. absurd (not-suc-le-zero b))

-- ---- the theorem
module _ (radius : ℕ) (wide : 2 ≤ radius) (small : radius ≤ largest_radius) (r : ℕ) where
  abbrev s : ℕ
  s = low r

  abbrev one : ℕ
  one = last_of column_numbers s 63

  s-small : s < 2 ^ 19
  s-small = mod-lt r (pow_pos 19)

  module _ (left : s ≡ 0 → ⊥) where
    two-wrong : ones (digits 2 19 r) % 2 ≡ 0 → two_by pair_table place_table start_table s ≡ wrong_places radius r
    two-wrong even =
        either_way (ltb (pair_at s) 1953)
        (λ q.
        let h = hit s (ltb-true (pair_at s) 1953 q) in
        two-there pair_table place_table start_table s (λ z. omega (arith, h.second, h.apart))
        ∙ ap₂ (λ (i j : ℕ). some (i ∷ j ∷ [])) h.first h.second
        ∙ wrong-two radius wide small r h.one h.other h.apart h.within h.leaves)
        (λ q.
        let no-pair : 1953 ≤ pair_at s = ltb-false (pair_at s) 1953 q in
        two-away pair_table place_table start_table s (pair-away pair_table place_table start_table s no-pair)
        ∙ sym
        (wrong-none radius small r
        (λ m f.
        none-fits radius wide r left
        (λ i l e. omega (arith, even, as_many radius small r (at 63 i) (fits-at radius wide r i l e), ones-at 63 i l))
        (λ i j h l e. omega (arith, no-pair, pair-in i j s h l (joins s i j s-small h l e)))
        m f (omega (arith, even, as_many radius small r m f, f.few)))))

    module _ (odd : ones (digits 2 19 r) % 2 ≡ 0 → ⊥) (none-alone : 63 ≤ one) where
      no-few : (m : List ℕ) → Fitting radius r m → ones m ≤ 2 → ⊥
      no-few =
          none-fits radius wide r left
          (λ i l e. omega (arith, last-miss column_numbers s 63 i (omega arith) l e))
          (λ i j h l e. odd (as_many radius small r (pair 63 i j) (fits-pair radius wide r i j h l e) ∙ ap (λ (n : ℕ). n % 2) (ones-pair 63 i j h l)))

      rest-wrong : cond (ltb radius 3) none (three_by column_numbers pair_table place_table start_table s) ≡ wrong_places radius r
      rest-wrong =
          either_way (ltb radius 3)
          (λ q. let h : radius < 3 = ltb-true radius 3 q in rw q (sym (wrong-none radius small r (λ m f. no-few m f (omega (arith, f.few))))))
          (λ q.
          let h : 3 ≤ radius = ltb-false radius 3 q in
          let e : 3 ≡ radius = omega arith in
          rw q
          (three-wrong r (λ m f. no-few m (subst (λ (n : ℕ). Fitting n r m) e f)) ∙ ap (λ (n : ℕ). wrong_places n r) e))

  pub places-wrong : places_by column_numbers pair_table place_table start_table radius r ≡ wrong_places radius r
  unfolding places_by
  places-wrong =
      either_way (eqb s 0)
      (λ z. rw z (wrong-zero radius wide small r (eqb-true s 0 z)))
      (λ z.
      let left : s ≡ 0 → ⊥ = eqb-false s 0 z in
      either_way (eqb (ones (digits 2 19 r) % 2) 0)
      (λ p. rw (z, p) (two-wrong left (eqb-true (ones (digits 2 19 r) % 2) 0 p)))
      (λ p.
      let odd : ones (digits 2 19 r) % 2 ≡ 0 → ⊥ = eqb-false (ones (digits 2 19 r) % 2) 0 p in
      either_way (ltb one 63)
      (λ o. let l : one < 63 = ltb-true one 63 o in rw (z, p, o) (wrong-one radius wide small r one l (last-hit column_numbers s 63 l)))
      (λ o. rw (z, p, o) (rest-wrong left odd (ltb-false one 63 o)))))
