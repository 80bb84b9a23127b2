-- The text of running totals, printed. Assumes nothing.
--     example           running totals of 1,023 superframes given, 23 of them lost: no two of their numbers are the same, and the blocks of each programme are 64 for
--                       each of the 1,000 taken
--     totals-printed    their text for a reel that promises as many superframes, line by line
--     short-printed     the last line where it promises one more
--     refused-printed   the one line of a refused header
use mathlib.Core.Path.{◌≡◌, refl}
use mathlib.Core.List.{List, [], ◌∷◌, ◌++◌}
use Prim.Native.Nat.{ℕ}
use Prim.Native.String.{String}
use Rattle.bits.specs.Answer.{accepted, refused}
use Rattle.bits.specs.Letters.{letters}
use Rattle.text.specs.Digits.{decimal_in}
use Rattle.text_rows.specs.Turns.{in_turn}
use Rattle.listing_text.specs.Listing.{line, ending}
use Rattle.running.specs.declared.Running.{Running}
use Rattle.totals_text.specs.Totals.{counts_line, programme_line, totals_lines, totals_text}

abbrev pub example : Running
example =
    record {
      taken = 1000;
      lost = 23;
      clean =
          60969 ∷ 60656 ∷ 60321 ∷ 59964 ∷ 59585 ∷ 59184 ∷ 58761 ∷ 58316
          ∷ 57849 ∷ 57360 ∷ 56849 ∷ 56316 ∷ 55761 ∷ 55184 ∷ 54585 ∷ 53964 ∷ [];
      mended =
          3000 ∷ 3301 ∷ 3602 ∷ 3903 ∷ 4204 ∷ 4505 ∷ 4806 ∷ 5107
          ∷ 5408 ∷ 5709 ∷ 6010 ∷ 6311 ∷ 6612 ∷ 6913 ∷ 7214 ∷ 7515 ∷ [];
      bad =
          31 ∷ 43 ∷ 77 ∷ 133 ∷ 211 ∷ 311 ∷ 433 ∷ 577
          ∷ 743 ∷ 931 ∷ 1141 ∷ 1373 ∷ 1627 ∷ 1903 ∷ 2201 ∷ 2521 ∷ [];
    }

-- the lines of a text, each with its end
unfoldable pub written : List String → List ℕ
written [] = []
written (s ∷ rest) = letters s ++ (10 ∷ written rest)

abbrev pub printed : String → List String
printed end =
    "superframes 1023"
    ∷ "lost 23"
    ∷ "programme 1 clean 60969 mended 3000 bad 31"
    ∷ "programme 2 clean 60656 mended 3301 bad 43"
    ∷ "programme 3 clean 60321 mended 3602 bad 77"
    ∷ "programme 4 clean 59964 mended 3903 bad 133"
    ∷ "programme 5 clean 59585 mended 4204 bad 211"
    ∷ "programme 6 clean 59184 mended 4505 bad 311"
    ∷ "programme 7 clean 58761 mended 4806 bad 433"
    ∷ "programme 8 clean 58316 mended 5107 bad 577"
    ∷ "programme 9 clean 57849 mended 5408 bad 743"
    ∷ "programme 10 clean 57360 mended 5709 bad 931"
    ∷ "programme 11 clean 56849 mended 6010 bad 1141"
    ∷ "programme 12 clean 56316 mended 6311 bad 1373"
    ∷ "programme 13 clean 55761 mended 6612 bad 1627"
    ∷ "programme 14 clean 55184 mended 6913 bad 1903"
    ∷ "programme 15 clean 54585 mended 7214 bad 2201"
    ∷ "programme 16 clean 53964 mended 7515 bad 2521"
    ∷ end
    ∷ []

pub totals-printed : totals_text (accepted (1023 ∷ 16 ∷ [])) example ≡ written (printed "end ok")
unfolding totals_text totals_lines programme_line counts_line line ending letters decimal_in in_turn written
totals-printed = refl

pub short-printed : totals_text (accepted (1024 ∷ 16 ∷ [])) example ≡ written (printed "end short")
unfolding totals_text totals_lines programme_line counts_line line ending letters decimal_in in_turn written
short-printed = refl

pub refused-printed : totals_text (refused 8) example ≡ letters "refused 8\n"
unfolding totals_text line letters decimal_in
refused-printed = refl
