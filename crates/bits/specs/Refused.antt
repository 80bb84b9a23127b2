-- What a call that may be refused answers: a value, or what it is refused for (document 01, "Numbers given").
--     number_of r       the number of a refusal
--     told f r          such an answer in document 01's terms, by the values that f finds in what was accepted
--     number_in r       its number, 0 where nothing is refused
use Rattle.std.specs.Prelude.{ℕ, List}
use Rattle.std.specs.declared.result.Result.{Result}
use Rattle.std.specs.declared.result.Result.TheVariants.{Ok, Err}
use Rattle.bits.specs.declared.refusal.Refusal.{Refusal}
use Rattle.bits.specs.declared.refusal.Refusal.TheVariants.{Length, Range, Sync, Scale, Parity, Header, Full}
use Rattle.bits.specs.Answer.{Answer, accepted, refused}

abbrev pub number_of : Refusal → ℕ
number_of Length = 1
number_of Range = 2
number_of Sync = 3
number_of Scale = 5
number_of Parity = 6
number_of Header = 8
number_of Full = 9

abbrev pub told : {A B : Type 0} → (A → List B) → Result A Refusal → Answer B
told f (Ok x) = accepted (f x)
told f (Err r) = refused (number_of r)

abbrev pub number_in : {A : Type 0} → Result A Refusal → ℕ
number_in (Ok x) = 0
number_in (Err r) = number_of r
