-- Any two results that meet the promise of `write` are the same. Assumes nothing.
use mathlib.Core.Path.{◌≡◌}
use mathlib.Core.List.{List}
use Prim.Native.Nat.{ℕ}
use Rattle.std.specs.declared.result.Result.{Result}
use Rattle.bits.specs.declared.refusal.Refusal.{Refusal}
use Rattle.bits.specs.Refused.{number_in}
use Rattle.bits.proofs.Refused.{same_number}
use Rattle.bits.proofs.Unique.{same}
use Rattle.frame.specs.declared.Letter.{Letter}
use Rattle.frame_writer.specs.Write.{FrameWritten}

-- the answer, and what the buffer holds
pub write-unique : (letter : Letter) (s : ℕ) (blocks : List (List ℕ)) (out : List ℕ) (r r' : Result (Unit {0}) Refusal) (out' out'' : List ℕ)
    → FrameWritten letter s blocks out (number_in r) out' → FrameWritten letter s blocks out (number_in r') out'' → (r ≡ r') × (out' ≡ out'')
write-unique letter s blocks out r r' out' out'' p q = (same_number r r' (same p.number q.number), same p.buffer q.buffer)
