-- A header that came from outside.
--     SomeHeader a e      what reading some bytes as a header answers, and what is wrong with it
--     said_in r          what the bytes that came say, where a read failed behind them too
use Rattle.std.specs.Prelude.{ℕ, ◌≡◌, List, Result, Ok, Err}
use Rattle.bits.specs.Answer.{Answer}
use Rattle.reel.specs.Header.{header_of}
use Rattle.reel.specs.declared.Header.{Header}
use Rattle.ending.specs.declared.Fault.{Fault}
use Rattle.input.specs.Fault.{fault_of}
use Rattle.input.specs.declared.CutHeader.{CutHeader}

pub record SomeHeader (a : Answer ℕ) (e : Result Unit Fault) : Type 0 where
  pub bytes : List ℕ
  pub read : a ≡ header_of bytes
  pub told : e ≡ fault_of bytes

abbrev pub said_in : Result (Result Header Fault) CutHeader → Result Header Fault
said_in (Ok said) = said
said_in (Err cut) = cut.said
