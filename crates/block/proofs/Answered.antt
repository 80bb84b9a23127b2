-- The reader's answer from the places found.
--     length-turn, turn-front      a bit turned: how long the row is; among the first ones of a row
--     found-read                   what the code answers where p are the wrong places is the reading
--     out_of_range                 and so is the refusal
-- Assumes nothing.
use mathlib.Core.Path.{◌≡◌, refl, sym, ap, ◌∙◌}
use mathlib.Core.Bool.{true, false}
use mathlib.Core.List.{List, [], ◌∷◌, ◌++◌}
use Prim.Native.Nat.{ℕ, ◌+◌, ◌%◌, ◌≤◌, ◌<◌}
use native.Mathlib.Omega.{arith}
use lib.ListN.{length, get_or, drop, set, length-set, take-append-drop}
use lib.Seq.{length-take-le, set-append_left}
use Rattle.bits.specs.Bits.{are_bits}
use Rattle.bits.specs.Digits.{value}
use Rattle.bits.specs.Answer.{accepted}
use Rattle.bits.proofs.Digits.{below-take}
use Rattle.bits.proofs.Bits.{bits_below}
use Rattle.bits.proofs.Tests.{either_way}
use Rattle.remainder.specs.Remainder.{remainder}
use Rattle.code.specs.Generators.{block_generator}
use Rattle.reading.specs.Reading.{handed, is_radius, largest_radius}
use Rattle.reading.specs.Search.{reading}
use Rattle.reading.specs.Wrong.{turn, read_as, answer, wrong_places, Within}
use Rattle.reading.specs.declared.Places.{Places}
use Rattle.reading.specs.declared.Places.TheVariants.{Zero, One, Two, Three, Nowhere}
use Rattle.reading.proofs.Answered.{answered-reading, answered-within}
use Rattle.reading.proofs.Radius.{chosen-small}
use Rattle.block.specs.Read.{said, protected, said_of, handed_on, is_readable, spoken, outcome, IsRead}
use Rattle.std.specs.declared.result.Result.TheVariants.{Ok, Err}
use Rattle.bits.specs.declared.refusal.Refusal.TheVariants.{Range}

length-turn : (w : List ℕ) (i : ℕ) → length (turn w i) ≡ length w
unfolding turn
length-turn w i = length-set w i ((get_or w i 0 + 1) % 2)

-- a bit turned among the first ones of a row
turn-front : (w rest : List ℕ) (i : ℕ) → i < length w → turn w i ++ rest ≡ turn (w ++ rest) i
unfolding turn
turn-front w rest i h =
    sym
    (ap (λ (x : ℕ). set (w ++ rest) i ((x + 1) % 2)) (lib.ListN.get_or-append w rest 0 i h)
    ∙ set-append_left w rest i ((get_or w i 0 + 1) % 2) h)

module _ (block : List ℕ) (size : length block ≡ 77) (bits : are_bits block ≡ true) where
  whole : protected block ++ drop 63 block ≡ block
  whole = take-append-drop 63 block

  front : length (protected block) ≡ 63
  front = length-take-le 63 block (omega arith)

  one-turned : (i : ℕ) → i < 63 → turn (protected block) i ++ drop 63 block ≡ turn block i
  one-turned i h = turn-front (protected block) (drop 63 block) i (omega (arith, front)) ∙ ap (λ (l : List ℕ). turn l i) whole

  two-turned : (i j : ℕ) → i < 63 → j < 63 → turn (turn (protected block) i) j ++ drop 63 block ≡ turn (turn block i) j
  two-turned i j h k =
      turn-front (turn (protected block) i) (drop 63 block) j (omega (arith, front, length-turn (protected block) i))
      ∙ ap (λ (l : List ℕ). turn l j) (one-turned i h)

  three-turned : (i j k : ℕ) → i < 63 → j < 63 → k < 63 → turn (turn (turn (protected block) i) j) k ++ drop 63 block ≡ turn (turn (turn block i) j) k
  three-turned i j k a b c =
      turn-front (turn (turn (protected block) i) j) (drop 63 block) k
      (omega (arith, front, length-turn (protected block) i, length-turn (turn (protected block) i) j))
      ∙ ap (λ (l : List ℕ). turn l k) (two-turned i j a b)

  -- the answer and the bits that the places make
  says : (p : Places) → accepted (spoken (outcome block p).reading ∷ []) ≡ accepted (said (read_as (protected block) p) ∷ [])
  unfolding outcome spoken said read_as
  says Zero = refl
  says (One i) = refl
  says (Two i j) = refl
  says (Three i j k) = refl
  says Nowhere = refl

  hands : (p : Places) → Within p → (outcome block p).bits ≡ handed (protected block) (read_as (protected block) p) ++ drop 63 block
  unfolding outcome handed read_as Within
  hands Zero h = sym whole
  hands (One i) h = sym (one-turned i h)
  hands (Two i j) h = sym (two-turned i j (omega arith) (omega arith))
  hands (Three i j k) h = sym (three-turned i j k (omega (arith, h.0, h.1, h.2)) (omega (arith, h.1, h.2)) h.2)
  hands Nowhere h = sym whole

  pub found-read : (radius r : ℕ) (p : Places) → is_radius radius ≡ true → r ≡ value 2 (remainder block_generator (protected block)) → answer p ≡ wrong_places radius r
      → IsRead radius block (Ok (outcome block p))
  unfolding said_of handed_on
  found-read radius r p chosen e a =
      let small : radius ≤ largest_radius = chosen-small radius chosen in
      let read : reading radius (protected block) ≡ read_as (protected block) p =
      answered-reading radius small (protected block) r p front (below-take 2 63 block (bits_below block bits)) e a in
      record {
        answer = rw (chosen, bits, read) (says p);
        bits = rw (chosen, bits, read) (hands p (answered-within radius small r p a));
      }

pub out_of_range : (radius : ℕ) (block : List ℕ) → is_readable radius block ≡ false → IsRead radius block (Err Range)
unfolding said_of handed_on is_readable
out_of_range radius block e =
    either_way (is_radius radius)
    (λ t. let no : are_bits block ≡ false = sym (rw t) ∙ e in record { answer = rw (t, no); bits = rw (t, no) })
    (λ t. record { answer = rw t; bits = rw t })
