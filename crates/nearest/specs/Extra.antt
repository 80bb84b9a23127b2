-- The extra bits of one programme over 64 main frames (document 01, "Scale words": bits 1 to 42 the scale word three times, bits 43
-- to 64 the information word).
--     information bits  the information word as a number, its first bit the highest
--     factors_in a      the factors and the number of places that a reading tells; none with number 5
--     beside word a     a reading of the factors with the word beside it
--     extra_answer bits  what the 64 bits read as: number 2 where an entry is not 0 or 1, else the factors and in how many places their word differs, or
--                       number 5; and the word
--     number_of_factors o    document 01's number of a reading with these factors: 5 where there are none
--     listed r          such an answer in document 01's terms: the number, the factors, the number of places and the word; what does not come is 0
use Rattle.std.specs.Prelude.{ℕ, cond, List, [], ◌∷◌, ◌++◌, eqb, get_or, take, drop}
use Rattle.std.specs.declared.option.Option.{Option}
use Rattle.std.specs.declared.option.Option.TheVariants.{Some, None}
use Rattle.std.specs.declared.result.Result.{Result}
use Rattle.std.specs.declared.result.Result.TheVariants.{Ok, Err}
use Rattle.bits.specs.Answer.{Answer}
use Rattle.bits.specs.Bits.{are_bits}
use Rattle.bits.specs.Digits.{value}
use Rattle.bits.specs.Refused.{number_of}
use Rattle.bits.specs.declared.refusal.Refusal.{Refusal}
use Rattle.bits.specs.declared.refusal.Refusal.TheVariants.{Range}
use Rattle.nearest.specs.Reading.{read_scale}
use Rattle.nearest.specs.declared.Factors.{Factors}
use Rattle.nearest.specs.declared.Extra.{Extra}

unfoldable pub information : List ℕ → ℕ
information bits = value 2 (drop 42 bits)

abbrev pub factors_in : Answer ℕ → Option Factors
factors_in a = cond (eqb a.number 0) (Some (record { left = get_or a.values 0 0; right = get_or a.values 1 0; places = get_or a.values 2 0 })) None

abbrev pub beside : ℕ → Answer ℕ → Extra
beside word a = record { factors = factors_in a; word = word }

unfoldable pub extra_answer : List ℕ → Result Extra Refusal
extra_answer bits = cond (are_bits bits) (Ok (beside (information bits) (read_scale (take 42 bits)))) (Err Range)

abbrev pub number_of_factors : Option Factors → ℕ
number_of_factors None = 5
number_of_factors (Some f) = 0

abbrev values_of_factors : Option Factors → List ℕ
values_of_factors None = 0 ∷ 0 ∷ 0 ∷ []
values_of_factors (Some f) = f.left ∷ f.right ∷ f.places ∷ []

abbrev pub listed : Result Extra Refusal → List ℕ
listed (Ok e) = number_of_factors e.factors ∷ (values_of_factors e.factors ++ (e.word ∷ []))
listed (Err r) = number_of r ∷ 0 ∷ 0 ∷ 0 ∷ 0 ∷ []
