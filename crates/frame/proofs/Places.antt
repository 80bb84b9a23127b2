-- The place of every bit of a block.
--     printed                               the places as the document prints them: of bit j, from 1 on, of blocks 1, 2, 3 and 4
--     place_inside                          a bit of a block stands in bits 13 to 320
--     place-belongs                         each of bits 13 to 320 belongs to a bit of a block,
--     place-once                            and to one only
--     length-gathered, gathered-at, below-gathered    a block gathered from its places: 77 bits, and which
--     Sized blocks                          four blocks of 77 bits
--     length-frame                          a frame has 320 bits
--     frame-sync, frame-service             what stands in bits 1 to 11, and in bit 12
--     placed                                THE LAW: bit j of block b of a frame stands at `place_of b j`
--     blocks-gathered                       so the blocks gathered from a frame's bits are its blocks
-- Assumes nothing.
use mathlib.Core.Path.{◌≡◌, refl, sym, ap, ◌∙◌}
use mathlib.Core.List.{List}
use Prim.Native.Nat.{ℕ, zero, suc, ◌+◌, ◌-◌, ◌*◌, ◌/◌, ◌%◌, ◌<◌, ◌≤◌}
use native.Mathlib.Omega.{arith}
use lib.ListN.{length, get_or}
use Rattle.bits.specs.Digits.{Below}
use Rattle.bits.proofs.Table.{length-tab, get_or-tab, tab-ext, tab-get_or}
use Rattle.bits.proofs.Digits.{below-tab}
use Rattle.bits.proofs.Bits.{bit_below}
use Rattle.frame.specs.Frame.{sync_word, service_in, interleave, block, frame_bits, place_of, deinterleave, Belongs, block_at, bit_at_place}
use Rattle.frame.specs.declared.Letter.{Letter}
use Rattle.frame.proofs.Interleave.{length-interleave, interleave-even, interleave-odd}
use Rattle.frame.proofs.Parts.{length-parts, at-sync, at-service, at_front, at_back}
use Rattle.frame.proofs.Sync.{length-sync}

-- ---- places
pub printed : (j : ℕ) → (place_of 0 j + 1 ≡ 11 + 2 * (j + 1)) × (place_of 1 j + 1 ≡ 12 + 2 * (j + 1)) × (place_of 2 j + 1 ≡ 165 + 2 * (j + 1)) × (place_of 3 j + 1 ≡ 166 + 2 * (j + 1))
printed j = (omega arith, omega arith, omega arith, omega arith)

pub place_inside : (k b j : ℕ) → Belongs k b j → (12 ≤ k) × (k < 320)
place_inside k b j h = (omega arith, omega arith)

pub place-belongs : (k : ℕ) → 12 ≤ k → k < 320 → Belongs k (block_at k) (bit_at_place k)
place-belongs k h l = record { block-there = omega arith; bit-there = omega arith; place = omega arith }

-- a place behind the service bit, by its pair of blocks and its place in it
in_pair : (p i k : ℕ) → i < 154 → k ≡ 154 * p + i → (k / 154 ≡ p) × (k % 154 ≡ i)
in_pair p i k h e = (omega arith, omega arith)

pub place-once : (k b j : ℕ) → Belongs k b j → (b ≡ block_at k) × (j ≡ bit_at_place k)
place-once k b j h =
    let of_pair : (k - 12) / 154 ≡ b / 2 = (in_pair (b / 2) (b % 2 + 2 * j) (k - 12) (omega arith) (omega arith)).0 in
    let in-it : (k - 12) % 154 ≡ b % 2 + 2 * j = (in_pair (b / 2) (b % 2 + 2 * j) (k - 12) (omega arith) (omega arith)).1 in
    let odd : k % 2 ≡ b % 2 = omega arith in
    (rw (of_pair, odd) (omega arith), rw in-it (omega arith))

-- ---- a block gathered from its places
module _ (bits : List ℕ) (b : ℕ) where
  pub length-gathered : length (deinterleave bits b) ≡ 77
  unfolding deinterleave
  length-gathered = length-tab 77 (λ j. get_or bits (place_of b j) 0)

  pub gathered-at : (j : ℕ) → j < 77 → get_or (deinterleave bits b) j 0 ≡ get_or bits (place_of b j) 0
  unfolding deinterleave
  gathered-at j h = get_or-tab 77 (λ j. get_or bits (place_of b j) 0) j 0 h

  pub below-gathered : Below 2 bits → Below 2 (deinterleave bits b)
  unfolding deinterleave
  below-gathered h = below-tab 2 77 (λ j. get_or bits (place_of b j) 0) (λ j l. bit_below bits (place_of b j) h)

-- ---- what stands there
abbrev pub Sized : List (List ℕ) → Type 0
Sized blocks = (b : ℕ) → b < 4 → length (block blocks b) ≡ 77

module _ (letter : Letter) (s : ℕ) (blocks : List (List ℕ)) (sized : Sized blocks) where
  same : (a b : ℕ) → a < 4 → b < 4 → length (block blocks a) ≡ length (block blocks b)
  same a b ha hb = sized a ha ∙ sym (sized b hb)

  pair : (a b : ℕ) → a < 4 → b < 4 → length (interleave (block blocks a) (block blocks b)) ≡ 154
  pair a b ha hb = length-interleave (block blocks a) (block blocks b) (same a b ha hb) ∙ ap (λ (n : ℕ). 2 * n) (sized a ha)

  front : List ℕ
  front = interleave (block blocks 0) (block blocks 1)

  back : List ℕ
  back = interleave (block blocks 2) (block blocks 3)

  front-size : length front ≡ 154
  unfolding front
  front-size = pair 0 1 (omega arith) (omega arith)

  pub length-frame : length (frame_bits letter s blocks) ≡ 320
  unfolding frame_bits front back
  length-frame =
      length-parts (sync_word letter) (service_in letter s) front back (length-sync letter) front-size
      ∙ ap (λ (n : ℕ). 166 + n) (pair 2 3 (omega arith) (omega arith))

  pub frame-sync : (k : ℕ) → k < 11 → get_or (frame_bits letter s blocks) k 0 ≡ get_or (sync_word letter) k 0
  unfolding frame_bits front back
  frame-sync k h = at-sync (sync_word letter) (service_in letter s) front back (length-sync letter) front-size k h

  pub frame-service : get_or (frame_bits letter s blocks) 11 0 ≡ service_in letter s
  unfolding frame_bits front back
  frame-service = at-service (sync_word letter) (service_in letter s) front back (length-sync letter) front-size 11 refl

  in-front : (k i : ℕ) → k ≡ 12 + i → i < 154 → get_or (frame_bits letter s blocks) k 0 ≡ get_or front i 0
  unfolding frame_bits front back
  in-front k i e h =
      let behind : k - 12 ≡ i = omega arith in
      at_front (sync_word letter) (service_in letter s) front back (length-sync letter) front-size k (omega arith) (omega arith)
      ∙ ap (λ (n : ℕ). get_or front n 0) behind

  in-back : (k i : ℕ) → k ≡ 166 + i → get_or (frame_bits letter s blocks) k 0 ≡ get_or back i 0
  unfolding frame_bits front back
  in-back k i e =
      let behind : k - 166 ≡ i = omega arith in
      at_back (sync_word letter) (service_in letter s) front back (length-sync letter) front-size k (omega arith)
      ∙ ap (λ (n : ℕ). get_or back n 0) behind

  pub placed : (b j : ℕ) → b < 4 → j < 77 → get_or (frame_bits letter s blocks) (place_of b j) 0 ≡ get_or (block blocks b) j 0
  unfolding front back
  placed zero j hb hj =
      in-front (place_of 0 j) (2 * j) (omega arith) (omega arith) ∙ interleave-even (block blocks 0) (block blocks 1) j (same 0 1 (omega arith) (omega arith))
  placed (suc zero) j hb hj =
      in-front (place_of 1 j) (2 * j + 1) (omega arith) (omega arith) ∙ interleave-odd (block blocks 0) (block blocks 1) j (same 0 1 (omega arith) (omega arith))
  placed (suc (suc zero)) j hb hj =
      in-back (place_of 2 j) (2 * j) (omega arith) ∙ interleave-even (block blocks 2) (block blocks 3) j (same 2 3 (omega arith) (omega arith))
  placed (suc (suc (suc zero))) j hb hj =
      in-back (place_of 3 j) (2 * j + 1) (omega arith) ∙ interleave-odd (block blocks 2) (block blocks 3) j (same 2 3 (omega arith) (omega arith))
  placed (suc (suc (suc (suc b)))) j hb hj = absurd (omega arith)

  pub blocks-gathered : (b : ℕ) → b < 4 → deinterleave (frame_bits letter s blocks) b ≡ block blocks b
  unfolding deinterleave
  blocks-gathered b hb =
      tab-ext 77 (λ j. get_or (frame_bits letter s blocks) (place_of b j) 0) (λ j. get_or (block blocks b) j 0) (λ j hj. placed b j hb hj)
      ∙ sym (tab-get_or 77 (block blocks b) 0 (sized b hb))
