-- What is wrong with the bytes of a superframe, in the words of document 01, "Numbers given".
--     WrongSync sf      "a main frame's sync is wrong; in a superframe, any of 128": and document 02, P1: "3 now means three or more wrong bits"
use Rattle.std.specs.Prelude.{ℕ, ◌<◌, ◌≤◌, List}
use Rattle.tape.specs.Tape.{wrong_at}

pub data WrongSync (sf : List ℕ) : Type 0 where
  frame : (f : ℕ) → f < 128 → 3 ≤ wrong_at sf f → WrongSync sf
