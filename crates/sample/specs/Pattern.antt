-- A signed number in a fixed number of bits, of which the first is the sign. A width is given by h, half of the numbers that it holds:
-- 8192 for the 14 bits of a code (document 01, "Samples").
--     signed_of h u      the number from -h to h - 1 that leaves over 2 h what u leaves
--     pattern_of h z     what z leaves over 2 h: the number that its bits make, the first counting most
--     code_bits c        the 14 bits of a code
--     bits_code bits     the code of 14 bits
use Rattle.std.specs.Prelude.{ℕ, ◌*◌, ◌%◌, cond, List, ltb, ℤ, pos, ◌-ℤ◌}
use Rattle.bits.specs.Digits.{value, digits}
use Rattle.sample.specs.Signed.{mod_z}

unfoldable pub signed_of : ℕ → ℕ → ℤ
signed_of h u = cond (ltb (u % (h * 2)) h) (pos (u % (h * 2))) (pos (u % (h * 2)) -ℤ pos (h * 2))

unfoldable pub pattern_of : ℕ → ℤ → ℕ
pattern_of h z = mod_z z (h * 2)

unfoldable pub code_bits : ℤ → List ℕ
code_bits c = digits 2 14 (pattern_of 8192 c)

unfoldable pub bits_code : List ℕ → ℤ
bits_code bits = signed_of 8192 (value 2 bits)
