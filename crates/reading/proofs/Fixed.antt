-- The reading meets the second demand, and nothing else does.
--     Sought radius w m     m is a set of at most `radius` places, with the remainder of w
--     sought-fits, fits-sought  what the search looks for are such sets
--     reading-reads         the reading that is computed meets the demand, at every radius
--     reads-unique          no two readings meet it at one word, up to the largest radius
--     sought-unique         two such sets are never of one word
--     reading-turned        a set of places, however it was found, fixes the reading
--     reading-bad           and so does that there is none
-- Assumes nothing.
use mathlib.Core.Path.{◌≡◌, refl, sym, ap, ap₂, ◌∙◌, subst}
use mathlib.Core.List.{List}
use mathlib.Core.Option.{Option, none, some}
use Prim.Native.Nat.{ℕ, zero, suc, ◌+◌, ◌≤◌, ◌<◌}
use native.Mathlib.Decide.{dec_le}
use native.Mathlib.Omega.{arith}
use lib.ListN.{length}
use Rattle.bits.specs.Bits.{ones}
use Rattle.bits.specs.Digits.{Below}
use Rattle.remainder.specs.Polynomial.{◌⊕◌, zeros}
use Rattle.remainder.specs.Remainder.{remainder}
use Rattle.remainder.specs.Columns.{columns}
use Rattle.remainder.proofs.Sum.{length-⊕, below-⊕, ⊕-swap, ⊕-self, ⊕-zeros, zeros-⊕, ⊕-cancel}
use Rattle.remainder.proofs.Division.{length-remainder, below-remainder, remainder-⊕}
use Rattle.remainder.proofs.Ones.{ones-zeros, none-zeros}
use Rattle.remainder.proofs.Columns.{sum_at, sum_at-remainder, length-columns}
use Rattle.code.specs.Generators.{block_generator}
use Rattle.code.specs.Words.{CodeWord, distance}
use Rattle.code.proofs.Words.{word-remainder, remainder-word}
use Rattle.code.proofs.Distance.{distance-comm, distance_self, distance-changed, distance-triangle}
use Rattle.code.proofs.Smallest.{block_size, code-length, code-near}
use Rattle.reading.specs.Reading.{Reading, clean, mended, bad, Reads, turned, largest_radius}
use Rattle.reading.specs.Search.{seek, found, reading}
use Rattle.reading.proofs.Seek.{Fits, Good, seek-good}

abbrev g : List ℕ
g = block_generator

pub record Sought (radius : ℕ) (w m : List ℕ) : Type 0 where
  pub sized : length m ≡ 63
  pub bits : Below 2 m
  pub few : ones m ≤ radius
  pub same : remainder block_generator m ≡ remainder block_generator w

module _ (radius : ℕ) (w : List ℕ) where
  abbrev s : List ℕ
  s = remainder g w

  total : (m : List ℕ) → length m ≡ 63 → Below 2 m → sum_at (columns g 63) m s ≡ s ⊕ remainder g m
  total m h b = ap (λ (n : ℕ). sum_at (columns g n) m s) (sym h) ∙ sum_at-remainder g m s b (below-remainder g w) (length-remainder g w)

  pub fits-sought : (m : List ℕ) → Fits radius (columns g 63) s m → Sought radius w m
  fits-sought m f =
      record {
        sized = size;
        bits = f.bits;
        few = f.few;
        same =
            sym
            (⊕-cancel s (remainder g m) (length g) (below-remainder g w) (below-remainder g m) (length-remainder g w) (length-remainder g m)
            (none-zeros (s ⊕ remainder g m) (below-⊕ s (remainder g m)) (ap ones (sym (total m size f.bits)) ∙ f.none_left)
            ∙ ap zeros (length-⊕ s (remainder g m) (length-remainder g w ∙ sym (length-remainder g m)) ∙ length-remainder g w)));
      }
    where
      size : length m ≡ 63
      size = f.sized ∙ length-columns g 63

  pub sought-fits : (m : List ℕ) → Sought radius w m → Fits radius (columns g 63) s m
  sought-fits m p =
      record {
        sized = p.sized ∙ sym (length-columns g 63);
        bits = p.bits;
        few = p.few;
        none_left =
            ap ones (total m p.sized p.bits ∙ ap (λ (r : List ℕ). s ⊕ r) p.same ∙ ⊕-self s) ∙ ones-zeros (length s);
      }

-- ---- the demand
code-word : (w : List ℕ) → length w ≡ 63 → Below 2 w → remainder g w ≡ zeros (length g) → CodeWord w
code-word w h b z = remainder-word 44 g w (h ∙ ap (λ (n : ℕ). 44 + n) (sym block_size)) b z

-- the word with the places of a set turned is a code word
sought-word : (radius : ℕ) (w m : List ℕ) → length w ≡ 63 → Sought radius w m → CodeWord (w ⊕ m)
sought-word radius w m h p =
    code-word (w ⊕ m) (length-⊕ w m (h ∙ sym p.sized) ∙ h) (below-⊕ w m)
    (remainder-⊕ g w m (h ∙ sym p.sized) ∙ ap (λ (r : List ℕ). remainder g w ⊕ r) p.same ∙ ⊕-self (remainder g w) ∙ ap zeros (length-remainder g w))

-- and the places in which a code word differs are a set
word-sought : (radius : ℕ) (w c : List ℕ) → length w ≡ 63 → CodeWord c → distance c w ≤ radius → Sought radius w (c ⊕ w)
unfolding distance
word-sought radius w c h cc d =
    record {
      sized = length-⊕ c w (code-length c cc ∙ sym h) ∙ code-length c cc;
      bits = below-⊕ c w;
      few = d;
      same =
          remainder-⊕ g c w (code-length c cc ∙ sym h) ∙ ap (λ (r : List ℕ). r ⊕ remainder g w) (word-remainder 44 g c cc)
          ∙ zeros-⊕ (remainder g w) (length g) (below-remainder g w) (length-remainder g w);
    }

module _ (radius : ℕ) (w : List ℕ) (sized : length w ≡ 63) (bits : Below 2 w) where
  turned-reads : (m : List ℕ) → Sought radius w m → (n : ℕ) → ones m ≡ n → Reads radius w (turned n (w ⊕ m))
  unfolding Reads turned
  turned-reads m p zero e =
      subst CodeWord
      (ap (λ (l : List ℕ). w ⊕ l) (none-zeros m p.bits e ∙ ap zeros p.sized) ∙ ⊕-zeros w 63 bits sized)
      (sought-word radius w m sized p)
  turned-reads m p (suc n) e = (
    sought-word radius w m sized p,
    distance-comm (w ⊕ m) w ∙ distance-changed w m (sized ∙ sym p.sized) ∙ e,
    omega arith,
    omega (arith, p.few),
  )

  bad-reads : ((m : List ℕ) → Sought radius w m → ⊥) → Reads radius w bad
  unfolding Reads
  bad-reads empty c cc = go (dec_le (suc radius) (distance c w))
    where
      go : Dec (radius < distance c w) → radius < distance c w
      go (yes h) = h
      go (no h) = absurd (empty (c ⊕ w) (word-sought radius w c sized cc (omega arith)))

  found-reads : (r : Option (List ℕ)) → Good radius (columns g 63) (remainder g w) r → Reads radius w (found w r)
  unfolding Good found
  found-reads none none-fits = bad-reads (λ m p. none-fits m (sought-fits radius w m p))
  found-reads (some m) fits = turned-reads m (fits-sought radius w m fits) (ones m) refl

  pub reading-reads : Reads radius w (reading radius w)
  unfolding reading
  reading-reads = found-reads (seek radius (columns g 63) (remainder g w)) (seek-good radius (columns g 63) (remainder g w))

-- ---- the demand fixes the reading
one-near : (radius : ℕ) (w a b : List ℕ) → radius ≤ largest_radius → length w ≡ 63 → CodeWord a → CodeWord b → distance a w ≤ radius → distance b w ≤ radius → a ≡ b
one-near radius w a b h l ca cb da db =
    code-near a b ca cb (omega (arith, distance-triangle a w b (l ∙ sym (code-length b cb)), distance-comm w b))

-- two sets of few places never have one remainder
pub sought-unique : (radius : ℕ) (w m n : List ℕ) → radius ≤ largest_radius → length w ≡ 63 → Sought radius w m → Sought radius w n → m ≡ n
sought-unique radius w m n small sized p q =
    ⊕-cancel m n 63 p.bits q.bits p.sized q.sized
    (sym (zeros-⊕ (m ⊕ n) 63 (below-⊕ m n) both) ∙ ap (λ (l : List ℕ). l ⊕ (m ⊕ n)) (ap zeros (sym sized) ∙ sym (⊕-self w))
    ∙ ⊕-swap w w m n ∙ ap (λ (l : List ℕ). (w ⊕ m) ⊕ l) (sym same) ∙ ⊕-self (w ⊕ m)
    ∙ ap zeros (length-⊕ w m (sized ∙ sym p.sized) ∙ sized))
  where
    both : length (m ⊕ n) ≡ 63
    both = length-⊕ m n (p.sized ∙ sym q.sized) ∙ p.sized

    near : (l : List ℕ) → Sought radius w l → distance (w ⊕ l) w ≤ radius
    near l h = omega (arith, distance-comm (w ⊕ l) w, distance-changed w l (sized ∙ sym h.sized), h.few)

    same : w ⊕ m ≡ w ⊕ n
    same = one-near radius w (w ⊕ m) (w ⊕ n) small sized (sought-word radius w m sized p) (sought-word radius w n sized q) (near m p) (near n q)

module _ (radius : ℕ) (w : List ℕ) (small : radius ≤ largest_radius) (sized : length w ≡ 63) where
  clean-mended : (n : ℕ) (c : List ℕ) → Reads radius w clean → Reads radius w (mended n c) → ⊥
  unfolding Reads
  clean-mended n c a b =
      let same : c ≡ w = one-near radius w c w small sized b.0 a (omega (arith, b.1, b.3)) (omega (arith, distance_self w)) in
      omega (arith, b.1, b.2, ap (λ (v : List ℕ). distance v w) same, distance_self w)

  clean-bad : Reads radius w clean → Reads radius w bad → ⊥
  unfolding Reads
  clean-bad a b = omega (arith, b w a, distance_self w)

  mended-bad : (n : ℕ) (c : List ℕ) → Reads radius w (mended n c) → Reads radius w bad → ⊥
  unfolding Reads
  mended-bad n c a b = omega (arith, b c a.0, a.1, a.3)

  mended-mended : (n k : ℕ) (c d : List ℕ) → Reads radius w (mended n c) → Reads radius w (mended k d) → mended n c ≡ mended k d
  unfolding Reads
  mended-mended n k c d a b =
      let same : c ≡ d = one-near radius w c d small sized a.0 b.0 (omega (arith, a.1, a.3)) (omega (arith, b.1, b.3)) in
      ap₂ mended (sym a.1 ∙ ap (λ (v : List ℕ). distance v w) same ∙ b.1) same

  pub reads-unique : (r t : Reading) → Reads radius w r → Reads radius w t → r ≡ t
  reads-unique clean clean a b = refl
  reads-unique clean (mended n c) a b = absurd (clean-mended n c a b)
  reads-unique clean bad a b = absurd (clean-bad a b)
  reads-unique (mended n c) clean a b = absurd (clean-mended n c b a)
  reads-unique (mended n c) (mended k d) a b = mended-mended n k c d a b
  reads-unique (mended n c) bad a b = absurd (mended-bad n c a b)
  reads-unique bad clean a b = absurd (clean-bad b a)
  reads-unique bad (mended n c) a b = absurd (mended-bad n c b a)
  reads-unique bad bad a b = refl

  -- what a reader has to find: a set of places with the word's remainder, or that there is none
  module _ (bits : Below 2 w) where
    pub reading-is : (r : Reading) → Reads radius w r → reading radius w ≡ r
    reading-is r h = reads-unique (reading radius w) r (reading-reads radius w sized bits) h

    pub reading-turned : (m : List ℕ) → Sought radius w m → reading radius w ≡ turned (ones m) (w ⊕ m)
    reading-turned m p = reading-is (turned (ones m) (w ⊕ m)) (turned-reads radius w sized bits m p (ones m) refl)

    pub reading-bad : ((m : List ℕ) → Sought radius w m → ⊥) → reading radius w ≡ bad
    reading-bad empty = reading-is bad (bad-reads radius w sized bits empty)
