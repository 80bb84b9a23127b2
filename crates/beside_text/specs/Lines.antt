-- The lines of what a superframe carries beside its sound, in a transcript (docs/TRANSCRIPT.md), each with its end.
--     next_hex bytes                     a blank, and bytes in hexadecimal
--     service_line position number six   the position of the six service bytes, the number that serving them gave, and the bytes
--     labels_line labels                 the 32 labels where they are handed out, else `none`
--     pair_text number factors           a programme's two factors, or two dashes where its scale word gave a number
--     factors_line numbers factors       those of the 16 programmes
--     places_text number places          in how many of the 42 places its scale words differ, or a dash where they gave a number
--     far_line numbers places            those of the 16 programmes
--     words_line words                   the 16 information words, each of 22 bits in three bytes
--     beside_text t                      all five lines of a superframe taken
--     information_line r                 the words alone, or that the superframe was lost
use Rattle.std.specs.Prelude.{ℕ, cond, Option, Some, None, Result, Ok, Err, List, ◌∷◌, ◌++◌, eqb, get_or}
use Rattle.bits.specs.Digits.{digits}
use Rattle.bits.specs.Letters.{letters}
use Rattle.text.specs.Digits.{blank}
use Rattle.text_rows.specs.Rows.{row, hexadecimal}
use Rattle.text_rows.specs.Turns.{next, in_turn, part}
use Rattle.service_sync.specs.Sync.{number_of}
use Rattle.superframe.specs.declared.taking.Taken.{Taken}
use Rattle.superframe.specs.declared.taking.NotTaken.{NotTaken}

abbrev pub next_hex : List ℕ → List ℕ
next_hex bytes = blank ∷ hexadecimal bytes

unfoldable pub service_line : ℕ → ℕ → List ℕ → List ℕ
service_line position number six = letters "service" ++ (next position ++ (next number ++ (next_hex six ++ letters "\n")))

unfoldable pub labels_line : Option (List ℕ) → List ℕ
labels_line (Some labels) = letters "labels" ++ (in_turn 32 (λ c. next_hex (part 8 c labels)) ++ letters "\n")
labels_line None = letters "labels" ++ (letters " none" ++ letters "\n")

unfoldable pub pair_text : ℕ → List ℕ → List ℕ
pair_text number factors = blank ∷ cond (eqb number 0) (row factors) (letters "--")

unfoldable pub factors_line : List ℕ → List ℕ → List ℕ
factors_line numbers factors = letters "factors" ++ (in_turn 16 (λ q. pair_text (get_or numbers q 0) (part 2 q factors)) ++ letters "\n")

unfoldable pub places_text : ℕ → ℕ → List ℕ
places_text number places = cond (eqb number 0) (next places) (letters " -")

unfoldable pub far_line : List ℕ → List ℕ → List ℕ
far_line numbers places = letters "far" ++ (in_turn 16 (λ q. places_text (get_or numbers q 0) (get_or places q 0)) ++ letters "\n")

unfoldable pub words_line : List ℕ → List ℕ
words_line words = letters "words" ++ (in_turn 16 (λ q. next_hex (digits 256 3 (get_or words q 0))) ++ letters "\n")

unfoldable pub beside_text : Taken → List ℕ
beside_text t =
    service_line t.position (number_of t.kind) t.six
    ++ (labels_line t.labels
    ++ (factors_line t.programmes.numbers t.programmes.factors
    ++ (far_line t.programmes.numbers t.programmes.places
    ++ words_line t.programmes.words)))

unfoldable pub information_line : Result Taken NotTaken → List ℕ
information_line (Ok t) = words_line t.programmes.words
information_line (Err e) = letters "lost\n"
