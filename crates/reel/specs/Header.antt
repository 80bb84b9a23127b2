-- The header of a reel file (document 01, "Reel file and listing"): 16 bytes, four big-endian 32-bit numbers.
--     number_at bytes at      the big-endian number in the four bytes from a place on
--     most_superframes        the largest count of superframes, in a reel and in a run
--     good_header             whether a count, an offset, a summary's offset and its count of entries are a header
--     header_of bytes         what reading a header answers: number 8 for another one, and for fewer than 16 bytes; bytes behind the 16 do not count
--     header_answer           the number and the values that the code's answer stands for
use Rattle.std.specs.Prelude.{ℕ, ◌+◌, Bool, cond, ◌&&◌, List, [], ◌∷◌, eqb, leb, length, get_or}
use Rattle.bits.specs.Table.{tabulate}
use Rattle.bits.specs.Digits.{value}
use Rattle.bits.specs.Answer.{Answer, accepted, refused}
use Rattle.bits.specs.Refused.{told}
use Rattle.bits.specs.declared.refusal.Refusal.{Refusal}
use Rattle.std.specs.declared.result.Result.{Result}
use Rattle.reel.specs.declared.Header.{Header}

unfoldable pub number_at : List ℕ → ℕ → ℕ
number_at bytes at = value 256 (tabulate 4 (λ j. get_or bytes (at + j) 0))

abbrev pub most_superframes : ℕ
most_superframes = 1_000_000

-- the count is at most 1,000,000, the offset of the first superframe lies behind the header, and there is no summary
unfoldable pub good_header : ℕ → ℕ → ℕ → ℕ → Bool
good_header count offset summary entries = (leb count most_superframes && leb 16 offset) && (eqb summary 0 && eqb entries 0)

unfoldable pub header_of : List ℕ → Answer ℕ
header_of bytes =
    cond (leb 16 (length bytes) && good_header (number_at bytes 0) (number_at bytes 4) (number_at bytes 8) (number_at bytes 12))
    (accepted (number_at bytes 0 ∷ number_at bytes 4 ∷ [])) (refused 8)

abbrev pub header_answer : Result Header Refusal → Answer ℕ
header_answer r = told (λ (h : Header). h.count ∷ h.offset ∷ []) r
