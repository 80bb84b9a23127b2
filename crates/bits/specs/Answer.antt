-- What a call answers, in document 01's terms: a number of its table "Numbers given", 0 where nothing is refused, and values.
-- An enum's cases, and a struct's fields, are given as such an answer, so that a promise speaks of the paper and not of the code's names.
--     Answer A          such an answer, its values of one kind
--     accepted vs       nothing is refused, and these are the values
--     refused n         number n, and no value
use Rattle.std.specs.Prelude.{ℕ, List, []}

pub record Answer (A : Type 0) : Type 0 where
  pub number : ℕ
  pub values : List A

abbrev pub accepted : {A : Type 0} → List A → Answer A
accepted vs = record { number = 0; values = vs }

abbrev pub refused : {A : Type 0} → ℕ → Answer A
refused n = record { number = n; values = [] }
