-- Any two results that meet a promise are the same: for each public function that has one, `FUNCTION-unique`. Assumes nothing.
use mathlib.Core.Path.{◌≡◌}
use mathlib.Core.List.{List}
use Prim.Native.Nat.{ℕ}
use Rattle.bits.proofs.Unique.{same}
use Rattle.text.specs.Pens.{Puts}
use Rattle.text.specs.declared.pen.Pen.{Pen}
use Rattle.text.proofs.Unique.{pen-unique}
use Rattle.std.specs.Prelude.{Option, Result}
use Rattle.ending.specs.declared.Fault.{Fault}
use Rattle.ending.specs.Word.{descriptor_of, ending_of, word_of}

pub ending-of-unique : (promised read : ℕ) (r r' : Result Unit Fault) → r ≡ ending_of promised read → r' ≡ ending_of promised read → r ≡ r'
ending-of-unique promised read r r' = same

pub put-word-unique : (old new new' : Pen) (ended : Result Unit Fault) → Puts old new (word_of ended) → Puts old new' (word_of ended)
    → (new.out.now ≡ new'.out.now) × (new.to ≡ new'.to)
put-word-unique old new new' ended = pen-unique old new new' (word_of ended)

pub descriptor-of-unique : (argument : List ℕ) (r r' : Option ℕ) → r ≡ descriptor_of argument → r' ≡ descriptor_of argument → r ≡ r'
descriptor-of-unique argument r r' = same
