-- The programme byte (document 01, "Service groups", last paragraph): type (4 bits), music (1 bit), mode (2 bits), parity.
-- Parity: the number of ones in the byte is even.
--     eight b                  the bits of a byte
--     kind, music, mode        the number in bits 1 to 4, in bit 5, in bits 6 and 7
--     even b                   whether the number of ones is even
--     seven t m o              the bits of a type, a music bit and a mode
--     made t m o               the byte that begins with them, its last bit such that the number of ones is even
--     read_byte, write_byte      what reading a byte answers, and writing one
--     read_answer, write_answer  the number and the values that the code's answer stands for
use Rattle.std.specs.Prelude.{ℕ, ◌%◌, Bool, cond, ◌&&◌, List, [], ◌∷◌, ◌++◌, eqb, leb, take, drop}
use Rattle.bits.specs.Digits.{value, digits}
use Rattle.bits.specs.Bits.{ones}
use Rattle.bits.specs.Answer.{Answer, accepted, refused}
use Rattle.bits.specs.Refused.{told}
use Rattle.bits.specs.declared.refusal.Refusal.{Refusal}
use Rattle.std.specs.declared.result.Result.{Result}
use Rattle.programme.specs.declared.Programme.{Programme}

abbrev pub eight : ℕ → List ℕ
eight b = digits 2 8 b

unfoldable pub kind : ℕ → ℕ
kind b = value 2 (take 4 (eight b))

unfoldable pub music : ℕ → ℕ
music b = value 2 (take 1 (drop 4 (eight b)))

unfoldable pub mode : ℕ → ℕ
mode b = value 2 (take 2 (drop 5 (eight b)))

unfoldable pub even : ℕ → Bool
even b = eqb (ones (eight b) % 2) 0

abbrev pub seven : ℕ → ℕ → ℕ → List ℕ
seven t m o = digits 2 4 t ++ (digits 2 1 m ++ digits 2 2 o)

unfoldable pub made : ℕ → ℕ → ℕ → ℕ
made t m o = value 2 (seven t m o ++ (ones (seven t m o) % 2 ∷ []))

-- number 6 where the parity is odd
unfoldable pub read_byte : ℕ → Answer ℕ
read_byte b = cond (even b) (accepted (kind b ∷ music b ∷ mode b ∷ [])) (refused 6)

-- number 2 for a type over 15, a music bit over 1 or a mode over 3
unfoldable pub write_byte : ℕ → ℕ → ℕ → Answer ℕ
write_byte t m o = cond (leb t 15 && (leb m 1 && leb o 3)) (accepted (made t m o ∷ [])) (refused 2)

abbrev pub read_answer : Result Programme Refusal → Answer ℕ
read_answer r = told (λ (p : Programme). p.kind ∷ p.music ∷ p.mode ∷ []) r

abbrev pub write_answer : Result ℕ Refusal → Answer ℕ
write_answer r = told (λ b. b ∷ []) r
