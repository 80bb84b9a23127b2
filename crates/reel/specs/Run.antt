-- Runs (document 01, "Reel file and listing"): whole superframes without a header, at most 1,000,000. None at all is a run too.
--     superframe_bytes        the bytes of a superframe: 128 main frames of 40
--     count_of run            how many whole superframes some bytes hold
--     is_run bytes            whether bytes are a run
--     superframe run k       superframe k of a run, counted from 1: superframes follow without gaps
--     run_answer, run_of       what counting answers, and what the code's answer stands for: number 1 for bytes that are no run
--     part_number run k       what asking for superframe k answers: 1 where there is no run, then 2 where the run has no superframe k
--     part_of run k           the part that is handed back: the superframe, or an empty part where it is refused
use Rattle.std.specs.Prelude.{ℕ, ◌-◌, ◌*◌, ◌/◌, ◌%◌, Bool, cond, ◌&&◌, List, [], ◌∷◌, eqb, leb, length, take, drop}
use Rattle.bits.specs.Answer.{Answer, accepted, refused}
use Rattle.reel.specs.Header.{most_superframes}
use Rattle.bits.specs.Refused.{told}
use Rattle.bits.specs.declared.refusal.Refusal.{Refusal}
use Rattle.std.specs.declared.result.Result.{Result}

abbrev pub superframe_bytes : ℕ
superframe_bytes = 5120

abbrev pub count_of : List ℕ → ℕ
count_of run = length run / superframe_bytes

unfoldable pub is_run : List ℕ → Bool
is_run bytes = eqb (length bytes % superframe_bytes) 0 && leb (count_of bytes) most_superframes

unfoldable pub superframe : List ℕ → ℕ → List ℕ
superframe run k = take superframe_bytes (drop ((k - 1) * superframe_bytes) run)

unfoldable pub run_of : List ℕ → Answer ℕ
run_of bytes = cond (is_run bytes) (accepted (count_of bytes ∷ [])) (refused 1)

abbrev pub run_answer : Result ℕ Refusal → Answer ℕ
run_answer r = told (λ n. n ∷ []) r

unfoldable pub part_number : List ℕ → ℕ → ℕ
part_number run k = cond (is_run run) (cond (leb 1 k && leb k (count_of run)) 0 2) 1

unfoldable pub part_of : List ℕ → ℕ → List ℕ
part_of run k = cond (eqb (part_number run k) 0) (superframe run k) []
