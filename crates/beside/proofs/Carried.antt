-- Laws of what a superframe carries beside its sound.
--     frame-bit             a bit of a main frame, where it stands on tape
--     block-bit             a bit of the block in a position, where it stands in its main frame
--     extra-there           an extra bit of a programme, the same
--     service-there         a service bit, the same
--     left_there, right_there   the factors of a programme's two channels
--     byte-there, six-there     a byte of the first 48 service bits; all six
--     programmes-given, six-given     of a superframe's length nothing is refused
-- Assumes nothing.
use mathlib.Core.Path.{◌≡◌, sym, ap, ◌∙◌}
use mathlib.Core.List.{List}
use Prim.Native.Nat.{ℕ, ◌+◌, ◌*◌, ◌/◌, ◌%◌, ◌<◌}
use native.Mathlib.Omega.{arith}
use borrow.Author.Tests.{eq-eqb, lt-ltb}
use lib.ListN.{length, get_or, take, drop}
use lib.Seq.{get_or-take, get_or-drop, length-take-le}
use Rattle.std.specs.declared.result.Result.TheVariants.{Ok}
use Rattle.bits.specs.Table.{tabulate}
use Rattle.bits.specs.Digits.{value}
use Rattle.bits.specs.Bits.{bit_at, bits_of, eight_at, byte_at, bytes_of}
use Rattle.bits.proofs.Table.{get_or-tab, tab-ext}
use Rattle.frame.specs.Frame.{service_in, place_of, deinterleave}
use Rattle.frame.specs.Read.{service_read, block_of}
use Rattle.bits.proofs.Bits.{bits_of-at}
use Rattle.tape.specs.Tape.{frame_at, block_in}
use Rattle.beside.specs.Beside.{extra_bit, extra_of, factor_or, factor_read, programmes_of, programmes_answer, service_bit, six_of, six_and_sync, six_answer}
use Rattle.tape.proofs.Tape.{block-there}

pub frame-bit : (sf : List ℕ) (f k : ℕ) → k < 320 → bit_at sf (320 * f + k) ≡ bit_at (frame_at sf f) k
unfolding bit_at frame_at
frame-bit sf f k h =
    let byte : (320 * f + k) / 8 ≡ 40 * f + k / 8 = omega arith in
    let place : (320 * f + k) % 8 ≡ k % 8 = omega arith in
    rw (byte, place, get_or-take 40 (drop (40 * f) sf) (k / 8) 0 (omega arith), get_or-drop (40 * f) sf (k / 8) 0)

pub block-bit : (sf : List ℕ) (f p j : ℕ) → j < 77 → get_or (block_in sf f p) j 0 ≡ bit_at (frame_at sf (f + 64 * (p / 4))) (place_of (p % 4) j)
unfolding block_of deinterleave
block-bit sf f p j h =
    let bytes = frame_at sf (f + 64 * (p / 4)) in
    rw (block-there sf f p, lt-ltb (p % 4) 4 (omega arith))
    (get_or-tab 77 (λ j. get_or (bits_of bytes) (place_of (p % 4) j) 0) j 0 h ∙ bits_of-at bytes (place_of (p % 4) j))

pub extra-there : (sf : List ℕ) (q f : ℕ) → bit_at sf (320 * (f + 64 * (q / 2 / 4)) + place_of (q / 2 % 4) (75 + q % 2)) ≡ extra_bit sf q f
unfolding extra_bit
extra-there sf q f =
    frame-bit sf (f + 64 * (q / 2 / 4)) (place_of (q / 2 % 4) (75 + q % 2)) (omega arith)
    ∙ sym (block-bit sf f (q / 2) (75 + q % 2) (omega arith))

pub service-there : (sf : List ℕ) (f : ℕ) → bit_at sf (320 * f + 11) ≡ service_bit sf f
unfolding service_bit service_read service_in
service-there sf f = frame-bit sf f 11 (omega arith)

-- ---- factors
module _ (sf : List ℕ) (q : ℕ) where
  pub left_there : factor_or (extra_of sf q).factors 0 ≡ factor_read sf (2 * q)
  unfolding factor_read
  left_there =
      let programme : 2 * q / 2 ≡ q = omega arith in
      let side : 2 * q % 2 ≡ 0 = omega arith in
      rw (programme, side)

  pub right_there : factor_or (extra_of sf q).factors 1 ≡ factor_read sf (2 * q + 1)
  unfolding factor_read
  right_there =
      let programme : (2 * q + 1) / 2 ≡ q = omega arith in
      let side : (2 * q + 1) % 2 ≡ 1 = omega arith in
      rw (programme, side)

-- ---- service bytes
pub byte-there : (bits : List ℕ) (i : ℕ) → i < 6 → byte_at bits (8 * i) ≡ byte_at (take 48 bits) (8 * i)
unfolding byte_at eight_at
byte-there bits i h =
    ap (value 2)
    (tab-ext 8 (λ j. get_or bits (8 * i + j) 0 % 2) (λ j. get_or (take 48 bits) (8 * i + j) 0 % 2)
    (λ j l. let within : 8 * i + j < 48 = omega arith in rw (get_or-take 48 bits (8 * i + j) 0 within)))

pub six-there : (bits : List ℕ) → length bits ≡ 64 → tabulate 6 (λ i. byte_at (take 48 bits) (8 * i)) ≡ six_of bits
unfolding six_of bytes_of
six-there bits e =
    let size : length (take 48 bits) / 8 ≡ 6 = omega (arith, length-take-le 48 bits (omega arith)) in
    rw size

-- ---- a superframe by its length
module _ (sf : List ℕ) (e : length sf ≡ 5120) where
  pub programmes-given : programmes_answer sf ≡ Ok (programmes_of sf)
  unfolding programmes_answer
  programmes-given = rw (eq-eqb (length sf) 5120 e)

  pub six-given : six_answer sf ≡ Ok (six_and_sync sf)
  unfolding six_answer
  six-given = rw (eq-eqb (length sf) 5120 e)
