-- The mission's second and third demands, of a way to read blocks at a radius: what it says of 77 bits, and which 77 bits it hands on. And what a reading at
-- the radius 3 has in common with the ordinary one (document 02, P9).
--     IsBlock block         77 numbers that are 0 or 1
--     Near radius w n c     c is a code word n places from w, and n is at least 1 and at most the radius
--     SecondAt radius says hands    the second demand at a radius, over code words
--     Sent sound mask other     44 sound bits as sent, a set of changed places among the 63, and 14 other bits as they arrive
--     received sound mask other     the block that then arrives
--     ThirdAt radius caught says hands      the third demand at a radius, over the code words of the second: up to the radius, changed places come back with
--                           their number; above it and up to `caught`, the block is marked bad
--     Second, Third         THE DEMANDS of the mission: at the radius 2; none, one or two changed, and three, four or five
--     ThirdWide             document 02: "up to three changed places come back as sent and four are marked bad"
--     Shared says wide hands widely     where the ordinary reading is not bad, both say and hand on the same; mended with 3 exactly where the ordinary one is
--                           bad and a code word lies three away
use Rattle.std.specs.Prelude.{ℕ, ◌≤◌, ◌<◌, ◌≡◌, true, ◌↔◌, List, [], ◌∷◌, ◌++◌, length, take, drop}
use Rattle.bits.specs.Bits.{are_bits, ones}
use Rattle.bits.specs.Digits.{Below}
use Rattle.bits.specs.Answer.{Answer, accepted}
use Rattle.remainder.specs.Polynomial.{◌⊕◌}
use Rattle.code.specs.Words.{CodeWord, distance}
use Rattle.reading.specs.Demand.{sent}
use Rattle.block.specs.Read.{Said, clean, mended, bad, said_with, protected}

pub record IsBlock (block : List ℕ) : Type 0 where
  pub size : length block ≡ 77
  pub bits : are_bits block ≡ true

pub record Near (radius : ℕ) (w : List ℕ) (n : ℕ) (c : List ℕ) : Type 0 where
  pub word : CodeWord c
  pub away : distance c w ≡ n
  pub some : 0 < n
  pub few : n ≤ radius

pub record SecondAt (radius : ℕ) (says : List ℕ → Answer Said) (hands : List ℕ → List ℕ) : Type 0 where
  pub clean-when : (block : List ℕ) → IsBlock block → (says block ≡ accepted (clean ∷ [])) ↔ CodeWord (protected block)
  pub mended-when : (block : List ℕ) (n : ℕ) → IsBlock block → (says block ≡ accepted (mended n ∷ [])) ↔ ((c : List ℕ) × Near radius (protected block) n c)
  pub bad-when : (block : List ℕ) → IsBlock block → (says block ≡ accepted (bad ∷ [])) ↔ ((c : List ℕ) → CodeWord c → radius < distance c (protected block))
  -- clean and bad blocks come out as received, a mended one with the code word in place of its 63 bits
  pub clean-hands : (block : List ℕ) → says block ≡ accepted (clean ∷ []) → hands block ≡ block
  pub mended-hands : (block : List ℕ) (n : ℕ) (c : List ℕ) → IsBlock block → Near radius (protected block) n c → hands block ≡ c ++ drop 63 block
  pub bad-hands : (block : List ℕ) → says block ≡ accepted (bad ∷ []) → hands block ≡ block
  -- and the unprotected bits are never changed
  pub others : (block : List ℕ) → length block ≡ 77 → drop 63 (hands block) ≡ drop 63 block

pub record Sent (sound mask other : List ℕ) : Type 0 where
  pub sound-size : length sound ≡ 44
  pub sound-bits : Below 2 sound
  pub mask_size : length mask ≡ 63
  pub other-size : length other ≡ 14
  pub other-bits : Below 2 other

abbrev pub received : List ℕ → List ℕ → List ℕ → List ℕ
received sound mask other = (sent sound ⊕ mask) ++ other

pub record ThirdAt (radius caught : ℕ) (says : List ℕ → Answer Said) (hands : List ℕ → List ℕ) : Type 0 where
  pub number : (sound mask other : List ℕ) → Sent sound mask other → ones mask ≤ radius → says (received sound mask other) ≡ accepted (said_with (ones mask) ∷ [])
  pub back : (sound mask other : List ℕ) → Sent sound mask other → ones mask ≤ radius → take 44 (hands (received sound mask other)) ≡ sound
  pub seen : (sound mask other : List ℕ) → Sent sound mask other → radius < ones mask → ones mask ≤ caught → says (received sound mask other) ≡ accepted (bad ∷ [])
  pub kept : (sound mask other : List ℕ) → Sent sound mask other → radius < ones mask → ones mask ≤ caught → hands (received sound mask other) ≡ received sound mask other
  -- however many
  pub others : (sound mask other : List ℕ) → Sent sound mask other → drop 63 (hands (received sound mask other)) ≡ other

abbrev pub Second : (List ℕ → Answer Said) → (List ℕ → List ℕ) → Type 0
Second says hands = SecondAt 2 says hands

-- none, one or two places changed; three, four or five
abbrev pub Third : (List ℕ → Answer Said) → (List ℕ → List ℕ) → Type 0
Third says hands = ThirdAt 2 5 says hands

-- up to three places changed; four
abbrev pub ThirdWide : (List ℕ → Answer Said) → (List ℕ → List ℕ) → Type 0
ThirdWide says hands = ThirdAt 3 4 says hands

pub record Shared (says wide : List ℕ → Answer Said) (hands widely : List ℕ → List ℕ) : Type 0 where
  pub same : (block : List ℕ) → IsBlock block → (says block ≡ accepted (bad ∷ []) → ⊥) → wide block ≡ says block
  pub same-hands : (block : List ℕ) → IsBlock block → (says block ≡ accepted (bad ∷ []) → ⊥) → widely block ≡ hands block
  pub three-when : (block : List ℕ) → IsBlock block
      → (wide block ≡ accepted (mended 3 ∷ [])) ↔ ((says block ≡ accepted (bad ∷ [])) × ((c : List ℕ) × (CodeWord c × (distance c (protected block) ≡ 3))))
