-- A division eight bits at a time (document 02, P3), by any table of 256 numbers, of any degree from 8 on, which is given as 8 + m.
--     remainders_of g        the table of a generator: what each byte leaves with as many zeros behind it as the degree
--     step_by m t reg byte   eight digits come behind the register, and what the table has for its upper eight digits is added
--     eights m t k x        the k last bytes of x brought down so, one after the other, behind the digits above them
--     rows m t bits k       the same of a list of bits: behind the first ones, as many as are over, k times eight
--     word_by t x, row_by t bits
--                           all of it, at degree 19: of 64 digits, and of a whole list
--     check_by t bits        and of a whole list with 19 zeros behind it
use Rattle.std.specs.Prelude.{List, ℕ, zero, suc, ◌+◌, ◌-◌, ◌*◌, ◌/◌, ◌%◌, ◌^◌, length, get_or}
use Rattle.std.specs.Int.Bits.{bit_xor}
use Rattle.bits.specs.Table.{tabulate}
use Rattle.bits.specs.Bits.{byte_at}
use Rattle.bits.specs.Digits.{value, digits}
use Rattle.remainder.specs.Remainder.{check_bits}

unfoldable pub remainders_of : List ℕ → List ℕ
remainders_of g = tabulate 256 (λ k. value 2 (check_bits g (digits 2 8 k)))

unfoldable pub step_by : ℕ → List ℕ → ℕ → ℕ → ℕ
step_by m t reg byte = bit_xor (reg % 2 ^ m * 2 ^ 8 + byte) (get_or t (reg / 2 ^ m % 2 ^ 8) 0)

unfoldable pub eights : ℕ → List ℕ → ℕ → ℕ → ℕ
eights m t zero x = x
eights m t (suc k) x = step_by m t (eights m t k (x / 2 ^ 8)) (x % 2 ^ 8)

unfoldable pub rows : ℕ → List ℕ → List ℕ → ℕ → ℕ
rows m t bits zero = byte_at bits 0 / 2 ^ (8 - length bits % 8)
rows m t bits (suc k) = step_by m t (rows m t bits k) (byte_at bits (length bits % 8 + 8 * k))

unfoldable pub word_by : List ℕ → ℕ → ℕ
word_by t x = eights 11 t 6 x

unfoldable pub row_by : List ℕ → List ℕ → ℕ
row_by t bits = rows 11 t bits (length bits / 8)

unfoldable pub check_by : List ℕ → List ℕ → ℕ
check_by t bits = word_by t (row_by t bits * 2 ^ 19)
