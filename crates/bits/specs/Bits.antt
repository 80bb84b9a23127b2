-- Bits of bytes and bytes of bits (document 01, "Path of a reel": in a byte the first bit sent is the most significant).
-- Bits are the numbers 0 and 1. Places count from 0 here, and from 1 in the document.
--     bit_at bytes k     bit k of the bytes, and 0 past their end
--     bits_of bytes      all their bits
--     eight_at bits at   the eight bits from a place on, 0 past the end; of another number than 0 and 1 its lowest binary digit
--     byte_at bits at    the byte that those eight bits make
--     bytes_of bits      the bytes that the bits make, eight bits each; what is left over at the end makes none
--     ones bits         how many of the bits are 1
--     all_below b l      whether each of some numbers is less than a bound
--     are_bits l         whether each is a bit: 0 or 1
use Rattle.std.specs.Prelude.{ℕ, ◌+◌, ◌*◌, ◌/◌, ◌%◌, Bool, List, [], ◌∷◌, ltb, length, get_or}
use Rattle.bits.specs.Table.{tabulate, every}
use Rattle.bits.specs.Digits.{value, digits}

unfoldable pub bit_at : List ℕ → ℕ → ℕ
bit_at bytes k = get_or (digits 2 8 (get_or bytes (k / 8) 0)) (k % 8) 0

unfoldable pub bits_of : List ℕ → List ℕ
bits_of bytes = tabulate (8 * length bytes) (bit_at bytes)

unfoldable pub eight_at : List ℕ → ℕ → List ℕ
eight_at bits at = tabulate 8 (λ j. get_or bits (at + j) 0 % 2)

unfoldable pub byte_at : List ℕ → ℕ → ℕ
byte_at bits at = value 2 (eight_at bits at)

unfoldable pub bytes_of : List ℕ → List ℕ
bytes_of bits = tabulate (length bits / 8) (λ i. byte_at bits (8 * i))

unfoldable pub ones : List ℕ → ℕ
ones [] = 0
ones (x ∷ bits) = x % 2 + ones bits

unfoldable pub all_below : ℕ → List ℕ → Bool
all_below b l = every (λ x. ltb x b) l

abbrev pub are_bits : List ℕ → Bool
are_bits l = all_below 2 l
