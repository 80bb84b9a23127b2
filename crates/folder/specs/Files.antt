-- The folder for the restorers (docs/HAND-ON.md).
--     track_name q rest      a file of programme q + 1: the programme's number in two digits, and what file it is
--     other_name f           the five files that are of no programme, by their numbers from 48 on
--     file_name f            the name of each of the 53 files, by its number from 0 on
--     about_text name radius id      the lines of about.txt: the reel by its name, the radius, and the commit
-- `names-printed` in proofs/Printed.antt has all 53 names.
use Rattle.std.specs.Prelude.{ℕ, ◌+◌, ◌-◌, ◌/◌, ◌%◌, cond, List, [], ◌∷◌, ◌++◌, eqb, ltb}
use Rattle.bits.specs.Letters.{letters}
use Rattle.text.specs.Digits.{blank, decimal}

unfoldable pub track_name : ℕ → List ℕ → List ℕ
track_name q rest = (48 + (q + 1) / 10) ∷ (48 + (q + 1) % 10) ∷ rest

unfoldable pub other_name : ℕ → List ℕ
other_name f =
    cond
    (eqb f 48)
    (letters "names.txt")
    (cond
    (eqb f 49)
    (letters "words.txt")
    (cond (eqb f 50) (letters "about.txt") (cond (eqb f 51) (letters "listing.txt") (letters "totals.txt"))))

unfoldable pub file_name : ℕ → List ℕ
file_name f =
    cond
    (ltb f 16)
    (track_name f (letters ".wav"))
    (cond (ltb f 32) (track_name (f - 16) (letters ".marks.wav")) (cond (ltb f 48) (track_name (f - 32) (letters ".labels.txt")) (other_name f)))

unfoldable pub about_text : List ℕ → ℕ → List ℕ → List ℕ
about_text name radius id = letters "reel " ++ (name ++ (letters "\nradius" ++ ((blank ∷ decimal radius) ++ (letters "\ncommit " ++ (id ++ (10 ∷ []))))))
