-- What document 01 prints, laid beside what the definitions say of it: rows of a table, in digits and letters, and in no definition's own words.
--     row text          bits as the document prints them
--     hex text          bytes by their hexadecimal digits, 0 to 9 and A to F, a space between them skipped
--     answered a        an answer as its number and its values
--     Row, _prints_     what a definition says, and what is printed
--     Same r            that they are the same
--     printed_rows       what is printed of bits and bytes: "In a byte the first bit sent is the most significant"; and of the table "Numbers given" the number of
--                       each refusal
use Rattle.std.specs.Prelude.{ℕ, ◌+◌, ◌-◌, ◌*◌, ◌≡◌, cond, List, [], ◌∷◌, eqb, ltb}
use Prim.Native.Char.{code}
use Prim.Native.String.{String, [] as end, ◌∷◌ as ◌then◌}
use Rattle.bits.specs.Bits.{bits_of, bytes_of}
use Rattle.bits.specs.Answer.{Answer}
use Rattle.bits.specs.declared.refusal.Refusal.TheVariants.{Length, Range, Sync, Scale, Parity, Header, Full}
use Rattle.bits.specs.Refused.{number_of}

unfoldable pub row : String → List ℕ
row end = []
row (c then text) = (code c - code "0") ∷ row text

unfoldable pub nibble : ℕ → ℕ
nibble c = cond (ltb c (code "A")) (c - code "0") (c - code "A" + 10)

unfoldable pub nibbles : String → List ℕ
nibbles end = []
nibbles (c then text) = cond (eqb (code c) (code " ")) (nibbles text) (nibble (code c) ∷ nibbles text)

unfoldable pub paired : List ℕ → List ℕ
paired [] = []
paired (x ∷ []) = []
paired (x ∷ (y ∷ l)) = (16 * x + y) ∷ paired l

abbrev pub hex : String → List ℕ
hex text = paired (nibbles text)

abbrev pub answered : Answer ℕ → List ℕ
answered a = a.number ∷ a.values

pub record Row : Type 0 where
  pub said : List ℕ
  pub print : List ℕ

infixl 3 ◌prints◌
abbrev pub ◌prints◌ : List ℕ → List ℕ → Row
said prints print = record { said = said; print = print }

abbrev pub Same : Row → Type 0
Same r = r.said ≡ r.print

unfoldable pub printed_rows : List Row
printed_rows =
    (bits_of (hex "80 E2 01") prints row "100000001110001000000001")
    ∷ (bytes_of (row "100000001110001000000001") prints hex "80 E2 01")
    -- 4 is not used, and 7 refuses nothing
    ∷ (number_of Length ∷ number_of Range ∷ number_of Sync ∷ number_of Scale ∷ number_of Parity ∷ number_of Header ∷ number_of Full ∷ [] prints 1 ∷ 2 ∷ 3 ∷ 5 ∷ 6 ∷ 8 ∷ 9 ∷ [])
    ∷ []
