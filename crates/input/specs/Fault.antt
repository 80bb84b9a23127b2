-- Why a header is refused (document 01, "Reel file and listing").
--     is_refused a        whether an answer is a refusal
--     fault_of bytes      the first thing that is wrong with a header: fewer than 16 bytes, its count, its offset, its summary; else nothing is
--     fault_in r          what is wrong by the code's answer
--     header_told r       that answer in document 01's terms
-- Nothing is wrong exactly where reading the header gives no number (`fault-none`, proofs/Parts.antt).
use Rattle.std.specs.Prelude.{ℕ, Bool, cond, not, ◌&&◌, List, [], ◌∷◌, eqb, leb, length, Result, Ok, Err}
use Rattle.bits.specs.Answer.{Answer, accepted, refused}
use Rattle.reel.specs.Header.{number_at, most_superframes}
use Rattle.reel.specs.declared.Header.{Header}
use Rattle.ending.specs.declared.Fault.{Fault}
use Rattle.ending.specs.declared.Fault.TheVariants.{HeaderShort, CountTooLarge, OffsetTooSmall, HasSummary}

abbrev pub is_refused : Answer ℕ → Bool
is_refused a = not (eqb a.number 0)

unfoldable pub fault_of : List ℕ → Result Unit Fault
fault_of bytes =
    cond (leb 16 (length bytes))
    (cond (leb (number_at bytes 0) most_superframes)
    (cond (leb 16 (number_at bytes 4))
    (cond (eqb (number_at bytes 8) 0 && eqb (number_at bytes 12) 0) (Ok tt) (Err HasSummary)) (Err OffsetTooSmall)) (Err CountTooLarge)) (Err HeaderShort)

abbrev pub fault_in : Result Header Fault → Result Unit Fault
fault_in (Ok h) = Ok tt
fault_in (Err e) = Err e

abbrev pub header_told : Result Header Fault → Answer ℕ
header_told (Ok h) = accepted (h.count ∷ h.offset ∷ [])
header_told (Err e) = refused 8
