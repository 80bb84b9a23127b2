-- A block read with its 63 protected bits as one number, by any tables. An entry that is neither 0 nor 1 counts as its lowest binary digit.
--     word_of bits           the number that the first 63 make
--     turned_at w i          the word with the digit of place i turned, where there is such a place
--     turned_all w l         the same of each place of a list
--     mended_by w o, mark_by o    the word with the places o turned; the mark: 0 for no place, 4 for three, 1 for others, 2 where none were found
--     righted w o           both
--     lower_in bits c        the three unprotected bits of channel c as a number
--     code_in w bits c       the code of channel c: 11 digits of the word, and those three
--     told_with bits o       the mark and the four codes, with the places o turned
--     told_by .. radius bits     the same with the places that are looked up for the word's remainder
--     told_in t radius bits  the same by the tables of a reader
--     true_reader            the reader with the true tables
--     told_of radius bits    THE SAME BY DOCUMENT 01: the mark of the block's reading at a radius, and the codes of the block as handed on
--     Tables ..             the tables are the true ones
use Rattle.std.specs.Prelude.{◌≡◌, cond, List, [], ◌∷◌, ℕ, ◌+◌, ◌-◌, ◌*◌, ◌/◌, ◌%◌, ◌^◌, eqb, ltb, ℤ, length, get_or}
use Rattle.std.proofs.Math.Option.{Option, none, some}
use Rattle.std.specs.Int.Bits.{bit_xor}
use Rattle.bits.specs.Table.{tabulate}
use Rattle.bits.specs.Digits.{value}
use Rattle.sample.specs.Pattern.{signed_of}
use Rattle.reading.specs.Search.{reading}
use Rattle.block.specs.Read.{said, protected, handed_on}
use Rattle.block_codes.specs.Codes.{codes_at}
use Rattle.reading.specs.Wrong.{column_numbers}
use Rattle.code.specs.Generators.{block_generator}
use Rattle.eights.specs.Eights.{remainders_of, word_by}
use Rattle.lookup.specs.Search.{places_by, true_lookup}
use Rattle.pairs.specs.Pairs.{pair_table, place_table, start_table}
use Rattle.block.specs.Mark.{mark_of}
use Rattle.words.specs.declared.Reader.{Reader}
use Rattle.words.specs.declared.Righted.{Righted}
use Rattle.words.specs.declared.Told.{Told}

unfoldable pub word_of : List ℕ → ℕ
word_of bits = value 2 (tabulate 63 (λ k. get_or bits k 0 % 2))

unfoldable pub turned_at : ℕ → ℕ → ℕ
turned_at w i = cond (ltb i 63) (bit_xor w (2 ^ (62 - i))) w

unfoldable pub turned_all : ℕ → List ℕ → ℕ
turned_all w [] = w
turned_all w (i ∷ l) = turned_all (turned_at w i) l

unfoldable pub mended_by : ℕ → Option (List ℕ) → ℕ
mended_by w none = w
mended_by w (some l) = turned_all w l

unfoldable pub mark_by : Option (List ℕ) → ℕ
mark_by none = 2
mark_by (some []) = 0
mark_by (some (i ∷ l)) = cond (eqb (length (i ∷ l)) 3) 4 1

unfoldable pub righted : ℕ → Option (List ℕ) → Righted
righted w o = record { mark = mark_by o; word = mended_by w o }

unfoldable pub lower_in : List ℕ → ℕ → ℕ
lower_in bits c = value 2 (tabulate 3 (λ k. get_or bits (63 + 3 * c + k) 0 % 2))

unfoldable pub code_in : ℕ → List ℕ → ℕ → ℤ
code_in w bits c = signed_of 8192 (w / 2 ^ (52 - 11 * c) % 2 ^ 11 * 8 + lower_in bits c)

unfoldable pub told_with : List ℕ → Option (List ℕ) → Told
told_with bits o = record { mark = mark_by o; codes = tabulate 4 (code_in (mended_by (word_of bits) o) bits) }

unfoldable pub told_by : List ℕ → List ℕ → List ℕ → List ℕ → List ℕ → ℕ → List ℕ → Told
told_by table singles pairs places starts radius bits = told_with bits (places_by singles pairs places starts radius (word_by table (word_of bits)))

abbrev pub told_in : Reader → ℕ → List ℕ → Told
told_in t = told_by t.remainders t.lookup.singles t.lookup.pairs.remainders t.lookup.pairs.places t.lookup.pairs.starts

abbrev pub true_reader : Reader
true_reader = record { remainders = remainders_of block_generator; lookup = true_lookup }

unfoldable pub told_of : ℕ → List ℕ → Told
told_of radius bits = record { mark = mark_of (said (reading radius (protected bits))); codes = codes_at (handed_on radius bits) }

pub record Tables (table singles pairs places starts : List ℕ) : Type 0 where
  pub eights : table ≡ remainders_of block_generator
  pub ones : singles ≡ column_numbers
  pub twos : pairs ≡ pair_table
  pub beside : places ≡ place_table
  pub index : starts ≡ start_table
