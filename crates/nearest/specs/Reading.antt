-- Reading a scale word that was sent three times (document 02, P4: "Read the 42 bits against all 64 scale words sent three times, and take the one that differs in
-- the fewest places; hand out that number too"; "5 is now given exactly when two or more are equally near and none nearer"). A pair of factors l, r is the number 8 l + r.
--     thrice w              a word sent three times
--     away bits n           in how many places the scale word of pair n, sent three times, differs from the bits
--     fewest bits k         the fewest places in which one of the pairs 0 to k differs
--     pairs_at bits d n      of the pairs below n those that differ in d places
--     only d ns             the answer where these pairs differ in the fewest places, d: of a single one its two factors and d; number 5 for two or more
--     read_scale bits        what 42 bits read as
--     scale_answer bits      with the refusal: 2 where an entry is not 0 or 1
--     factors_told r         what the code's answer says in the documents' terms: the number, the left and the right factor, the number of places
use Rattle.std.specs.Prelude.{ℕ, zero, suc, ◌/◌, ◌%◌, min, cond, List, [], ◌∷◌, ◌++◌, eqb}
use Rattle.bits.specs.Bits.{are_bits}
use Rattle.bits.specs.Answer.{Answer, accepted, refused}
use Rattle.bits.specs.Refused.{told}
use Rattle.bits.specs.declared.refusal.Refusal.{Refusal}
use Rattle.std.specs.declared.result.Result.{Result}
use Rattle.code.specs.Words.{distance}
use Rattle.scale.specs.Word.{scale_word}
use Rattle.nearest.specs.declared.Factors.{Factors}

abbrev pub thrice : List ℕ → List ℕ
thrice w = w ++ (w ++ w)

unfoldable pub away : List ℕ → ℕ → ℕ
away bits n = distance (thrice (scale_word (n / 8) (n % 8))) bits

unfoldable pub fewest : List ℕ → ℕ → ℕ
fewest bits zero = away bits 0
fewest bits (suc k) = min (away bits (suc k)) (fewest bits k)

unfoldable pub pairs_at : List ℕ → ℕ → ℕ → List ℕ
pairs_at bits d zero = []
pairs_at bits d (suc n) = cond (eqb (away bits n) d) (n ∷ pairs_at bits d n) (pairs_at bits d n)

unfoldable pub only : ℕ → List ℕ → Answer ℕ
only d [] = refused 5
only d (n ∷ []) = accepted (n / 8 ∷ n % 8 ∷ d ∷ [])
only d (n ∷ m ∷ ns) = refused 5

unfoldable pub read_scale : List ℕ → Answer ℕ
read_scale bits = only (fewest bits 63) (pairs_at bits (fewest bits 63) 64)

unfoldable pub scale_answer : List ℕ → Answer ℕ
scale_answer bits = cond (are_bits bits) (read_scale bits) (refused 2)

abbrev pub factors_told : Result Factors Refusal → Answer ℕ
factors_told r = told (λ (f : Factors). f.left ∷ f.right ∷ f.places ∷ []) r
