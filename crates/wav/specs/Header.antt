-- The header of a RIFF WAVE file with PCM, two channels and 32,000 pairs a second.
--     little n x            a number in n bytes, the lowest first
--     number bytes          the number that such bytes make
--     capped x              a size as the header's four bytes can say it: at most 4,294,967,295
--     format b              the 24 bytes that say what a sample of b bytes is
--     fields b riff size    the header, field by field, for samples of b bytes, with its two sizes
--     header b n            the header of a file of n pairs
--     refused_as k p         number k: the page is as it was given
--     entered_header p b n   what putting a header answers and leaves; number 2 for samples of no byte or of more than two
--     PutsAs old new r e     a call that had the pen as `old`, left it as `new` and answered r gave and left what e says: the pen is on the same buffer
use Rattle.std.specs.Prelude.{◌≡◌, ℕ, zero, suc, ◌+◌, ◌*◌, ◌/◌, ◌%◌, min, cond, ◌&&◌, List, [], ◌∷◌, ◌++◌, leb}
use Rattle.bits.specs.Letters.{letters}
use Rattle.std.specs.declared.result.Result.{Result}
use Rattle.bits.specs.declared.refusal.Refusal.{Refusal}
use Rattle.text.specs.Page.{Page}
use Rattle.text.specs.Pens.{on}
use Rattle.text.specs.declared.pen.Pen.{Pen}
use Rattle.text.specs.Entry.{Entered, entered, entered_text}

unfoldable pub little : ℕ → ℕ → List ℕ
little zero x = []
little (suc n) x = x % 256 ∷ little n (x / 256)

unfoldable pub number : List ℕ → ℕ
number [] = 0
number (b ∷ bytes) = b + 256 * number bytes

abbrev pub capped : ℕ → ℕ
capped x = min x 4294967295

unfoldable pub format : ℕ → List ℕ
format b =
    letters "fmt "
    ++ (little 4 16  -- the bytes behind this field
    ++ (little 2 1  -- PCM
    ++ (little 2 2  -- channels
    ++ (little 4 32000  -- pairs a second
    ++ (little 4 (32000 * (2 * b))  -- bytes a second
    ++ (little 2 (2 * b)  -- bytes a pair
    ++ little 2 (8 * b)))))))  -- bits a sample

unfoldable pub fields : ℕ → ℕ → ℕ → List ℕ
fields b riff size =
    letters "RIFF"
    ++ (little 4 riff  -- the bytes behind this field
    ++ (letters "WAVE"
    ++ (format b
    ++ (letters "data" ++ little 4 size))))  -- the bytes of the samples, behind the header

unfoldable pub header : ℕ → ℕ → List ℕ
header b n = fields b (capped (36 + n * (2 * b))) (capped (n * (2 * b)))

unfoldable pub refused_as : ℕ → Page → Entered
refused_as k p = record { number = k; page = p }

unfoldable pub entered_header : Page → ℕ → ℕ → Entered
entered_header p b n = cond (leb 1 b && leb b 2) (entered_text p (header b n)) (refused_as 2 p)

pub record PutsAs (old new : Pen) (r : Result (Unit {0}) Refusal) (e : Entered) : Type 0 where
  pub same_buffer : new.out.ghost_name ≡ old.out.ghost_name
  pub told : entered r (on new) ≡ e
