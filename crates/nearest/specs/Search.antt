-- How the code looks for the nearest of the 64. Nothing that is promised to a caller stands on these.
--     sent_table             the 64 scale words sent three times, as numbers
--     bits_from bits at n    n entries from a place on, each by its lowest binary digit; 0 past the end
--     better_of s n d        the best so far, with pair n, which differs in d places
--     Only bits k d n       of the pairs below k pair n alone differs in d places
--     Two bits k d          two of the pairs below k differ in d places
--     Holds bits k s        s is the best of the pairs below k: the fewest places in which one differs, and that one where it is the only one
--     best_told s            what the best of all 64 reads as
--     nearest_told r         the same of what the code makes of it
use Rattle.std.specs.Prelude.{◌≡◌, cond, List, [], ◌∷◌, ℕ, ◌+◌, ◌/◌, ◌%◌, ◌≤◌, ◌<◌, eqb, ltb, get_or}
use Rattle.bits.specs.Answer.{Answer, accepted, refused}
use Rattle.bits.specs.Digits.{value}
use Rattle.bits.specs.Table.{tabulate}
use Rattle.scale.specs.Word.{scale_word}
use Rattle.nearest.specs.Reading.{thrice, away}
use Rattle.std.specs.declared.option.Option.{Option}
use Rattle.std.specs.declared.option.Option.TheVariants.{Some, None}
use Rattle.nearest.specs.declared.Best.{Best}
use Rattle.nearest.specs.declared.Factors.{Factors}

unfoldable pub sent_table : List ℕ
sent_table = tabulate 64 (λ n. value 2 (thrice (scale_word (n / 8) (n % 8))))

unfoldable pub bits_from : List ℕ → ℕ → ℕ → List ℕ
bits_from bits at n = tabulate n (λ j. get_or bits (at + j) 0 % 2)

unfoldable pub better_of : Best → ℕ → ℕ → Best
better_of s n d =
    cond (ltb d s.places) (record { places = d; only = Some n })
    (cond (eqb d s.places) (record { places = s.places; only = None }) s)

pub record Only (bits : List ℕ) (k d n : ℕ) : Type 0 where
  pub within : n < k
  pub is : away bits n ≡ d
  pub alone : (m : ℕ) → m < k → away bits m ≡ d → m ≡ n

pub record Two (bits : List ℕ) (k d : ℕ) : Type 0 where
  pub one : ℕ
  pub other : ℕ
  pub one-within : one < k
  pub other-within : other < k
  pub differ : other ≡ one → ⊥
  pub one-is : away bits one ≡ d
  pub other-is : away bits other ≡ d

abbrev pub Found : List ℕ → ℕ → ℕ → Option ℕ → Type 0
Found bits k d (Some n) = Only bits k d n
Found bits k d None = Two bits k d

pub record Holds (bits : List ℕ) (k : ℕ) (s : Best) : Type 0 where
  pub low : (m : ℕ) → m < k → s.places ≤ away bits m
  pub found : Found bits k s.places s.only

abbrev pub only_told : ℕ → Option ℕ → Answer ℕ
only_told d (Some n) = accepted (n / 8 ∷ n % 8 ∷ d ∷ [])
only_told d None = refused 5

abbrev pub best_told : Best → Answer ℕ
best_told s = only_told s.places s.only

abbrev pub nearest_told : Option Factors → Answer ℕ
nearest_told (Some f) = accepted (f.left ∷ f.right ∷ f.places ∷ [])
nearest_told None = refused 5
