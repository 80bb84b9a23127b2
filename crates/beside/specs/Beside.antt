-- What a superframe carries beside its sound (document 01, "Scale words", "Superframe", "Service groups"). Places count from 0 here, and
-- from 1 in the document.
--     extra_bits sf q        the 64 extra bits of programme q of the 16, as received, whatever the readings of their blocks: the first extra bit of
--                           a block belongs to its first programme, the second to its second
--     extra_of sf q          what they read as: two factors and in how many places their word differs, or none, which is number 5; and the information word
--     number_of_factors o, places_of_factors o    the number of a programme whose factors read so, and in how many places their word differs
--     side_of f k            a side's factor, the left of side 0
--     factor_or o k          the same: missing, 8, where there are none
--     factor_read sf c       the factor of channel c that holds for the superframe after the next
--     programmes_of sf       the numbers, places and words of the 16 programmes and the factors of the 32 channels
--     programmes_answer sf   what asking for them answers: number 1 for another length than 5,120
--     service_bits sf        bit 12 of the 64 main frames of A
--     six_of bits, sync_of bits   of 64 service bits: 1 to 48 are six bytes, 49 to 64 the sync of the following six
--     six_and_sync sf         both, of a superframe's
--     six_answer sf          what asking for them answers: number 1 for another length than 5,120
use Rattle.std.specs.Prelude.{ℕ, ◌+◌, ◌/◌, ◌%◌, cond, List, eqb, length, get_or, take, drop}
use Rattle.std.specs.declared.option.Option.{Option}
use Rattle.std.specs.declared.option.Option.TheVariants.{Some, None}
use Rattle.std.specs.declared.result.Result.{Result}
use Rattle.std.specs.declared.result.Result.TheVariants.{Ok, Err}
use Rattle.bits.specs.Table.{tabulate}
use Rattle.bits.specs.Bits.{bytes_of}
use Rattle.bits.specs.declared.refusal.Refusal.{Refusal}
use Rattle.bits.specs.declared.refusal.Refusal.TheVariants.{Length}
use Rattle.nearest.specs.Reading.{read_scale}
use Rattle.nearest.specs.Extra.{information, beside}
pub use Rattle.nearest.specs.Extra.{number_of_factors}
use Rattle.nearest.specs.declared.Factors.{Factors}
use Rattle.nearest.specs.declared.Extra.{Extra}
use Rattle.frame.specs.Read.{service_read}
use Rattle.frame.specs.declared.Letter.TheVariants.{A}
use Rattle.tape.specs.Tape.{frame_at, block_in}
use Rattle.beside.specs.declared.Programmes.{Programmes}
use Rattle.beside.specs.declared.SixAndSync.{SixAndSync}

unfoldable pub extra_bit : List ℕ → ℕ → ℕ → ℕ
extra_bit sf q f = get_or (block_in sf f (q / 2)) (75 + q % 2) 0

unfoldable pub extra_bits : List ℕ → ℕ → List ℕ
extra_bits sf q = tabulate 64 (extra_bit sf q)

-- every extra bit is a bit, so that none is out of its range
unfoldable pub extra_of : List ℕ → ℕ → Extra
extra_of sf q = beside (information (extra_bits sf q)) (read_scale (take 42 (extra_bits sf q)))

abbrev pub places_of_factors : Option Factors → ℕ
places_of_factors None = 0
places_of_factors (Some f) = f.places

abbrev pub side_of : Factors → ℕ → ℕ
side_of f k = cond (eqb k 0) f.left f.right

unfoldable pub factor_or : Option Factors → ℕ → ℕ
factor_or None k = 8
factor_or (Some f) k = side_of f k

unfoldable pub factor_read : List ℕ → ℕ → ℕ
factor_read sf c = factor_or (extra_of sf (c / 2)).factors (c % 2)

abbrev pub number_at : List ℕ → ℕ → ℕ
number_at sf q = number_of_factors (extra_of sf q).factors

abbrev pub word_at : List ℕ → ℕ → ℕ
word_at sf q = (extra_of sf q).word

abbrev pub places_at : List ℕ → ℕ → ℕ
places_at sf q = places_of_factors (extra_of sf q).factors

unfoldable pub programmes_of : List ℕ → Programmes
programmes_of sf =
    record {
      numbers = tabulate 16 (number_at sf);
      factors = tabulate 32 (factor_read sf);
      places = tabulate 16 (places_at sf);
      words = tabulate 16 (word_at sf);
    }

unfoldable pub programmes_answer : List ℕ → Result Programmes Refusal
programmes_answer sf = cond (eqb (length sf) 5120) (Ok (programmes_of sf)) (Err Length)

unfoldable pub service_bit : List ℕ → ℕ → ℕ
service_bit sf f = service_read A (frame_at sf f)

unfoldable pub service_bits : List ℕ → List ℕ
service_bits sf = tabulate 64 (service_bit sf)

unfoldable pub six_of : List ℕ → List ℕ
six_of bits = bytes_of (take 48 bits)

unfoldable pub sync_of : List ℕ → List ℕ
sync_of bits = drop 48 bits

unfoldable pub six_and_sync : List ℕ → SixAndSync
six_and_sync sf = record { six = six_of (service_bits sf); sync = sync_of (service_bits sf) }

unfoldable pub six_answer : List ℕ → Result SixAndSync Refusal
six_answer sf = cond (eqb (length sf) 5120) (Ok (six_and_sync sf)) (Err Length)
