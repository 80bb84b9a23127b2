-- What an answer of the code makes of a word: its reading, at every radius up to the largest.
--     turn_each w l              the word with the bit at each place of a list turned
--     turn-places, turn_at      turning the places of a mask is adding it; and of a single place
--     Rising k n l, rising      the places of a mask are in order, from k on and below n
--     answer-inj                an answer is told by its list of places
--     Masked m, masked          the answer for a mask with at most three ones
--     answer-there              there is an answer with the wrong places
--     answered-within           the places of an answer are among the 63, and in order
--     answered-reading          THE READING that it makes
-- Assumes nothing.
use mathlib.Core.Path.{◌≡◌, refl, sym, ap, ◌∙◌, subst}
use mathlib.Core.List.{List, [], ◌∷◌}
use mathlib.Core.Option.{Option, none, some}
use Prim.Native.Nat.{ℕ, zero, suc, ◌+◌, ◌%◌, ◌≤◌, ◌<◌}
use native.Mathlib.Nat.{zero-add, suc_inj, suc-ne-zero}
use native.Mathlib.Omega.{arith}
use lib.ListN.{length}
use Rattle.bits.specs.Bits.{ones}
use Rattle.bits.specs.Digits.{value, digits, Below}
use Rattle.bits.proofs.Digits.{digits_value}
use Rattle.remainder.specs.Polynomial.{◌⊕◌}
use Rattle.remainder.specs.Remainder.{remainder}
use Rattle.remainder.specs.Columns.{columns}
use Rattle.remainder.proofs.Sum.{cons}
use Rattle.remainder.proofs.Division.{length-remainder, below-remainder}
use Rattle.remainder.proofs.Columns.{length-columns}
use Rattle.code.specs.Generators.{block_generator}
use Rattle.code.proofs.Smallest.{block_size}
use Rattle.reading.specs.Reading.{turned, largest_radius}
use Rattle.reading.specs.Search.{seek, reading}
use Rattle.reading.specs.Wrong.{places_from, places_in, wrong_places, answer, turn, read_as, Within}
use Rattle.reading.specs.declared.Places.{Places}
use Rattle.reading.specs.declared.Places.TheVariants.{Zero, One, Two, Three, Nowhere}
use Rattle.reading.proofs.Seek.{Fits, Good, seek-good}
use Rattle.reading.proofs.Fixed.{sought-fits, fits-sought, reading-turned, reading-bad}
use Rattle.reading.proofs.Few.{at, length_at, below_at, places-at}

-- ---- turning places
unfoldable pub turn_each : List ℕ → List ℕ → List ℕ
turn_each w [] = w
turn_each w (i ∷ l) = turn_each (turn w i) l

-- places one further on, in a word with one bit more in front
turn-behind : (x : ℕ) (w m : List ℕ) (k : ℕ) → turn_each (x ∷ w) (places_from (suc k) m) ≡ x ∷ turn_each w (places_from k m)
unfolding turn_each places_from turn
turn-behind x w [] k = refl
turn-behind x w (zero ∷ m) k = turn-behind x w m (suc k)
turn-behind x w (suc y ∷ m) k = turn-behind x (turn w k) m (suc k)

pub turn-places : (w m : List ℕ) → Below 2 w → Below 2 m → length m ≡ length w → w ⊕ m ≡ turn_each w (places_from 0 m)
unfolding turn_each places_from turn ◌⊕◌ Below
turn-places [] [] b c h = refl
turn-places [] (y ∷ m) b c h = absurd (suc-ne-zero _ h)
turn-places (x ∷ w) [] b c h = absurd (suc-ne-zero _ (sym h))
turn-places (x ∷ w) (zero ∷ m) b c h =
    let s : x < 2 = b.0 in
    cons (omega arith) (turn-places w m b.1 c.1 (suc_inj h)) ∙ sym (turn-behind x w m 0)
turn-places (x ∷ w) (suc zero ∷ m) b c h = cons refl (turn-places w m b.1 c.1 (suc_inj h)) ∙ sym (turn-behind ((x + 1) % 2) w m 0)
turn-places (x ∷ w) (suc (suc y) ∷ m) b c h = absurd (omega (arith, c.0))

pub turn_at : (w : List ℕ) (n i : ℕ) → Below 2 w → length w ≡ n → i < n → w ⊕ at n i ≡ turn w i
unfolding turn_each
turn_at w n i b h l =
    turn-places w (at n i) b (below_at n i) (length_at n i ∙ sym h) ∙ ap (turn_each w) (places-at 0 n i l ∙ cons (zero-add i) refl)

-- ---- the places of a mask
length-places : (k : ℕ) (m : List ℕ) → Below 2 m → length (places_from k m) ≡ ones m
unfolding places_from ones Below
length-places k [] b = refl
length-places k (zero ∷ m) b = length-places (suc k) m b.1 ∙ omega arith
length-places k (suc zero ∷ m) b = ap suc (length-places (suc k) m b.1) ∙ omega arith
length-places k (suc (suc y) ∷ m) b = absurd (omega (arith, b.0))

pub Rising : ℕ → ℕ → List ℕ → Type 0
Rising k n [] = Unit {0}
Rising k n (i ∷ l) = (k ≤ i) × ((i < n) × Rising (suc i) n l)

earlier : (k n : ℕ) (l : List ℕ) → Rising (suc k) n l → Rising k n l
unfolding Rising
earlier k n [] h = tt
earlier k n (i ∷ l) h = (omega (arith, h.0), h.1)

rising : (k n : ℕ) (m : List ℕ) → k + length m ≡ n → Rising k n (places_from k m)
unfolding Rising places_from
rising k n [] h = tt
rising k n (zero ∷ m) h = earlier k n (places_from (suc k) m) (rising (suc k) n m (omega (arith, h)))
rising k n (suc y ∷ m) h = (omega arith, (omega (arith, h), rising (suc k) n m (omega (arith, h))))

-- ---- an answer is told by its list of places
back : Option (List ℕ) → Places
back none = Nowhere
back (some []) = Zero
back (some (i ∷ [])) = One i
back (some (i ∷ j ∷ [])) = Two i j
back (some (i ∷ j ∷ k ∷ l)) = Three i j k

back-answer : (p : Places) → back (answer p) ≡ p
unfolding back answer
back-answer Zero = refl
back-answer (One i) = refl
back-answer (Two i j) = refl
back-answer (Three i j k) = refl
back-answer Nowhere = refl

pub answer-inj : (p q : Places) → answer p ≡ answer q → p ≡ q
answer-inj p q e = sym (back-answer p) ∙ ap back e ∙ back-answer q

nowhere : (p : Places) → answer p ≡ none → p ≡ Nowhere
unfolding answer
nowhere p e = answer-inj p Nowhere e

-- ---- the answer for what the search finds
pub record Masked (m : List ℕ) : Type 0 where
  pub places : Places
  pub are : answer places ≡ some (places_from 0 m)
  pub within : Within places
  pub reads : (w : List ℕ) → length w ≡ 63 → Below 2 w → turned (ones m) (w ⊕ m) ≡ read_as w places

-- the answer for a list of at most three places
record Listed (l : List ℕ) : Type 0 where
  places : Places
  are : answer places ≡ some l
  within : Rising 0 63 l → Within places
  reads : (w : List ℕ) → turned (length l) (turn_each w l) ≡ read_as w places

listed : (l : List ℕ) → length l ≤ 3 → Listed l
unfolding answer Within read_as turned turn_each Rising
listed [] h = record { places = Zero; are = refl; within = λ r. tt; reads = λ w. refl }
listed (i ∷ []) h = record { places = One i; are = refl; within = λ r. r.1.0; reads = λ w. refl }
listed (i ∷ j ∷ []) h = record { places = Two i j; are = refl; within = λ r. (r.1.1.0, r.1.1.1.0); reads = λ w. refl }
listed (i ∷ j ∷ k ∷ []) h =
    record {
      places = Three i j k;
      are = refl;
      within = λ r. (r.1.1.0, r.1.1.1.1.0, r.1.1.1.1.1.0);
      reads = λ w. refl;
    }
listed (i ∷ j ∷ k ∷ x ∷ l) h = absurd (omega (arith, h))

masked : (m : List ℕ) → length m ≡ 63 → Below 2 m → ones m ≤ 3 → Masked m
masked m size bits few =
    let many : length (places_from 0 m) ≡ ones m = length-places 0 m bits in
    let found : Listed (places_from 0 m) = listed (places_from 0 m) (omega arith) in
    record {
      places = found.places;
      are = found.are;
      within = found.within (rising 0 63 m (zero-add (length m) ∙ size));
      reads = λ w h b.
          ap (λ (n : ℕ). turned n (w ⊕ m)) (sym many) ∙ ap (turned (length (places_from 0 m))) (turn-places w m b bits (size ∙ sym h)) ∙ found.reads w;
    }

module _ (radius : ℕ) (small : radius ≤ largest_radius) where
  module _ (s : List ℕ) where
    found : (m : List ℕ) → Fits radius (columns block_generator 63) s m → Masked m
    found m f = masked m (f.sized ∙ length-columns block_generator 63) f.bits (omega (arith, f.few))

    told : (p : Places) (m : List ℕ) (h : Fits radius (columns block_generator 63) s m) → answer p ≡ some (places_from 0 m) → p ≡ (found m h).places
    told p m h e = answer-inj p (found m h).places (e ∙ sym (found m h).are)

    within : (p : Places) (o : Option (List ℕ)) → Good radius (columns block_generator 63) s o → answer p ≡ places_in o → Within p
    unfolding Good places_in Within
    within p none h e = subst Within (sym (nowhere p e)) tt
    within p (some m) h e = subst Within (sym (told p m h e)) (found m h).within

    there : (o : Option (List ℕ)) → Good radius (columns block_generator 63) s o → (p : Places) × (answer p ≡ places_in o)
    unfolding Good places_in answer
    there none h = (Nowhere, refl)
    there (some m) h = ((found m h).places, (found m h).are)

  read : (w : List ℕ) → length w ≡ 63 → Below 2 w → (p : Places) (o : Option (List ℕ)) → Good radius (columns block_generator 63) (remainder block_generator w) o
      → answer p ≡ places_in o → reading radius w ≡ read_as w p
  unfolding Good places_in read_as
  read w l b p none h e = reading-bad radius w small l b (λ m q. h m (sought-fits radius w m q)) ∙ ap (read_as w) (sym (nowhere p e))
  read w l b p (some m) h e =
      reading-turned radius w small l b m (fits-sought radius w m h) ∙ (found (remainder block_generator w) m h).reads w l b
      ∙ ap (read_as w) (sym (told (remainder block_generator w) p m h e))

  pub answer-there : (r : ℕ) → (p : Places) × (answer p ≡ wrong_places radius r)
  unfolding wrong_places
  answer-there r = there (digits 2 19 r) (seek radius (columns block_generator 63) (digits 2 19 r)) (seek-good radius (columns block_generator 63) (digits 2 19 r))

  pub answered-within : (r : ℕ) (p : Places) → answer p ≡ wrong_places radius r → Within p
  unfolding wrong_places
  answered-within r p e =
      within (digits 2 19 r) p (seek radius (columns block_generator 63) (digits 2 19 r)) (seek-good radius (columns block_generator 63) (digits 2 19 r)) e

  pub answered-reading : (w : List ℕ) (r : ℕ) (p : Places) → length w ≡ 63 → Below 2 w → r ≡ value 2 (remainder block_generator w) → answer p ≡ wrong_places radius r
      → reading radius w ≡ read_as w p
  unfolding wrong_places
  answered-reading w r p h b e a =
      read w h b p (seek radius (columns block_generator 63) (remainder block_generator w))
      (seek-good radius (columns block_generator 63) (remainder block_generator w))
      (a ∙ ap (λ (s : List ℕ). places_in (seek radius (columns block_generator 63) s)) same)
    where
      same : digits 2 19 r ≡ remainder block_generator w
      same =
          ap (digits 2 19) e
          ∙ digits_value 2 19 (remainder block_generator w) (below-remainder block_generator w) (length-remainder block_generator w ∙ block_size)
