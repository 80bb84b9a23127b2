-- The files of the folder by their names, in the order of their numbers: `names-printed`. Assumes nothing.
use mathlib.Core.Path.{◌≡◌, refl}
use mathlib.Core.List.{List, [], ◌∷◌, map}
use Prim.Native.String.{String}
use Rattle.bits.specs.Letters.{letters}
use Rattle.bits.specs.Table.{tabulate}
use Rattle.folder.specs.Files.{track_name, other_name, file_name}

abbrev printed : List String
printed =
    "01.wav" ∷ "02.wav" ∷ "03.wav" ∷ "04.wav"
    ∷ "05.wav" ∷ "06.wav" ∷ "07.wav" ∷ "08.wav"
    ∷ "09.wav" ∷ "10.wav" ∷ "11.wav" ∷ "12.wav"
    ∷ "13.wav" ∷ "14.wav" ∷ "15.wav" ∷ "16.wav"
    ∷ "01.marks.wav" ∷ "02.marks.wav" ∷ "03.marks.wav" ∷ "04.marks.wav"
    ∷ "05.marks.wav" ∷ "06.marks.wav" ∷ "07.marks.wav" ∷ "08.marks.wav"
    ∷ "09.marks.wav" ∷ "10.marks.wav" ∷ "11.marks.wav" ∷ "12.marks.wav"
    ∷ "13.marks.wav" ∷ "14.marks.wav" ∷ "15.marks.wav" ∷ "16.marks.wav"
    ∷ "01.labels.txt" ∷ "02.labels.txt" ∷ "03.labels.txt" ∷ "04.labels.txt"
    ∷ "05.labels.txt" ∷ "06.labels.txt" ∷ "07.labels.txt" ∷ "08.labels.txt"
    ∷ "09.labels.txt" ∷ "10.labels.txt" ∷ "11.labels.txt" ∷ "12.labels.txt"
    ∷ "13.labels.txt" ∷ "14.labels.txt" ∷ "15.labels.txt" ∷ "16.labels.txt"
    ∷ "names.txt" ∷ "words.txt" ∷ "about.txt" ∷ "listing.txt"
    ∷ "totals.txt"
    ∷ []

pub names-printed : tabulate 53 file_name ≡ map letters printed
unfolding tabulate file_name track_name other_name letters
names-printed = refl
