-- Any two results that meet the promise are the same: `header-in-unique`, `fault-of-unique` of what is blamed alone, and `radius-of-unique`. What
-- `header` and `radius_at` make of what comes from outside is unique by these. Assumes nothing.
use mathlib.Core.Path.{◌≡◌, ap}
use mathlib.Core.List.{List}
use Prim.Native.Nat.{ℕ}
use lib.ListN.{get_or}
use Rattle.bits.proofs.Unique.{same}
use Rattle.bits.specs.Answer.{Answer}
use Rattle.std.specs.Prelude.{Option, Result, Ok, Err}
use Rattle.reel.specs.Header.{header_of}
use Rattle.reel.specs.declared.Header.{Header}
use Rattle.ending.specs.declared.Fault.{Fault}
use Rattle.input.specs.Fault.{fault_of, fault_in, header_told}
use Rattle.input.specs.Radius.{radius_of}

pub fault-of-unique : (bytes : List ℕ) (r r' : Result Unit Fault) → r ≡ fault_of bytes → r' ≡ fault_of bytes → r ≡ r'
fault-of-unique bytes r r' = same

told_both : (r r' : Result Header Fault) → header_told r ≡ header_told r' → fault_in r ≡ fault_in r' → r ≡ r'
told_both (Ok h) (Ok k) e f =
    ap Ok (ap (λ (a : Answer ℕ). record { count = get_or a.values 0 0; offset = get_or a.values 1 0 }) e)
told_both (Ok h) (Err b) e f = cc
told_both (Err a) (Ok k) e f = cc
told_both (Err a) (Err b) e f = ap Err (let g : a ≡ b = cc in g)

module _ (bytes : List ℕ) (r r' : Result Header Fault) where
  pub header-in-unique : header_told r ≡ header_of bytes → fault_in r ≡ fault_of bytes → header_told r' ≡ header_of bytes → fault_in r' ≡ fault_of bytes → r ≡ r'
  header-in-unique h f h' f' = told_both r r' (same h h') (same f f')

pub radius-of-unique : (argument : List ℕ) (r r' : Option ℕ) → r ≡ radius_of argument → r' ≡ radius_of argument → r ≡ r'
radius-of-unique argument r r' = same
