-- The third demand, for every radius up to the largest.
--     demand            THE DEMAND of the reading, over the radius
--     ordinary          at radius 2: none, one or two changed come back; three, four or five are marked bad
--     wide              at radius 3: up to three come back, and four are marked bad
-- Assumes nothing.
use mathlib.Core.Path.{◌≡◌, refl, sym, ap, ◌∙◌, subst}
use mathlib.Core.List.{List}
use Prim.Native.Nat.{ℕ, zero, suc, ◌≤◌, ◌<◌}
use native.Mathlib.Decide.{dec_le}
use native.Mathlib.Omega.{arith}
use lib.ListN.{length, take}
use Rattle.bits.specs.Bits.{ones}
use Rattle.bits.specs.Digits.{Below}
use Rattle.remainder.specs.Polynomial.{◌⊕◌, zeros}
use Rattle.remainder.proofs.Sum.{length-⊕, below-⊕, ⊕-cancel}
use Rattle.remainder.proofs.Ones.{none-zeros}
use Rattle.code.specs.Generators.{block_generator}
use Rattle.code.specs.Words.{CodeWord, distance}
use Rattle.code.proofs.Words.{encode-word, take-encode}
use Rattle.code.proofs.Distance.{distance-comm, distance-changed, distance-triangle}
use Rattle.code.proofs.Smallest.{code-length, code-near}
use Rattle.reading.specs.Reading.{Reading, bad, Reads, turned, handed, largest_radius}
use Rattle.reading.specs.Search.{reading}
use Rattle.reading.specs.Demand.{sent, caught, Demand}
use Rattle.reading.proofs.Fixed.{reading-is}

module _ (radius : ℕ) (small : radius ≤ largest_radius) (sound mask : List ℕ) (bits : Below 2 sound) (size : length sound ≡ 44) (places : length mask ≡ 63) where
  received : List ℕ
  received = sent sound ⊕ mask

  word : CodeWord (sent sound)
  word = encode-word 44 block_generator sound bits size

  same_size : length (sent sound) ≡ length mask
  same_size = code-length (sent sound) word ∙ sym places

  received-size : length received ≡ 63
  unfolding received
  received-size = length-⊕ (sent sound) mask same_size ∙ code-length (sent sound) word

  -- the word sent lies as far off as places were changed
  changed : distance (sent sound) received ≡ ones mask
  unfolding received
  changed = distance-changed (sent sound) mask same_size

  read : (r : Reading) → Reads radius received r → reading radius received ≡ r
  unfolding received
  read r h = reading-is radius received small received-size (below-⊕ (sent sound) mask) r h

  unchanged : ones mask ≡ 0 → received ≡ sent sound
  unfolding received distance
  unchanged e =
      sym
      (⊕-cancel (sent sound) received 63 word.bits (below-⊕ (sent sound) mask) (code-length (sent sound) word) received-size
      (none-zeros (sent sound ⊕ received) (below-⊕ (sent sound) received) (changed ∙ e)
      ∙ ap zeros (length-⊕ (sent sound) received (code-length (sent sound) word ∙ sym received-size) ∙ code-length (sent sound) word)))

  sent-reads : (n : ℕ) → ones mask ≡ n → n ≤ radius → Reads radius received (turned n (sent sound))
  unfolding Reads turned
  sent-reads zero e h = subst CodeWord (sym (unchanged e)) word
  sent-reads (suc n) e h = (word, changed ∙ e, omega arith, h)

  back_read : ones mask ≤ radius → reading radius received ≡ turned (ones mask) (sent sound)
  back_read h = read (turned (ones mask) (sent sound)) (sent-reads (ones mask) refl h)

  handed-sent : (n : ℕ) → ones mask ≡ n → handed received (turned n (sent sound)) ≡ sent sound
  unfolding handed turned
  handed-sent zero e = unchanged e
  handed-sent (suc n) e = refl

  seen-reads : radius < ones mask → ones mask ≤ caught radius → Reads radius received bad
  unfolding Reads
  seen-reads low high c cc = go (dec_le (suc radius) (distance c received))
    where
      nearer : distance c received ≤ radius → distance (sent sound) c < 8
      nearer h =
          omega (arith, changed, distance-comm c received, distance-triangle (sent sound) received c (received-size ∙ sym (code-length c cc)))

      go : Dec (radius < distance c received) → radius < distance c received
      go (yes h) = h
      go (no h) =
          let near : distance c received ≤ radius = omega arith in
          absurd (omega (arith, changed, near, ap (λ (v : List ℕ). distance v received) (code-near (sent sound) c word cc (nearer near))))

pub demand : (radius : ℕ) → radius ≤ largest_radius → Demand radius (reading radius)
unfolding received
demand radius small =
    record {
      number = λ sound mask b s p h. back_read radius small sound mask b s p h;
      back = λ sound mask b s p h.
          ap (λ (r : Reading). take 44 (handed (sent sound ⊕ mask) r)) (back_read radius small sound mask b s p h)
          ∙ ap (take 44) (handed-sent radius small sound mask b s p (ones mask) refl) ∙ take-encode 44 block_generator sound s;
      seen = λ sound mask b s p low high. read radius small sound mask b s p bad (seen-reads radius small sound mask b s p low high);
    }

pub ordinary : Demand 2 (reading 2)
ordinary = demand 2 (omega arith)

pub wide : Demand 3 (reading 3)
wide = demand 3 (omega arith)
