-- What was wrong with a call of the system that failed.
--     error_of z      C's number of the error; a number below 1 names none, and counts as a failure of input and output (C's EIO)
--     Told e         what a call answers of itself: 0 where it did not fail, else the number of an error
--     number_in r    that of an answer
--     came_in r      how many bytes came, before a read failed or where none did
-- An error is never 0, which stands for no error (`error-is-one`, proofs/Error.antt).
use Rattle.std.specs.Prelude.{ℕ, cond, ℤ, pos}
use Rattle.std.specs.Int.Signed.{lt_z, mag}
use Rattle.std.specs.declared.result.Result.{Result}
use Rattle.std.specs.declared.result.Result.TheVariants.{Ok, Err}
use Rattle.streams.specs.declared.errno.Errno.{Errno}
use Rattle.streams.specs.declared.CutOff.{CutOff}

unfoldable pub error_of : ℤ → ℕ
error_of z = cond (lt_z z (pos 1)) 5 (mag z)

pub data Told : ℕ → Type 0 where
  none : Told 0
  failed : (z : ℤ) → Told (error_of z)

abbrev pub number_in : {A : Type 0} → Result A Errno → ℕ
number_in (Ok _) = 0
number_in (Err e) = e.number

abbrev pub came_in : Result ℕ CutOff → ℕ
came_in (Ok n) = n
came_in (Err cut) = cut.came
