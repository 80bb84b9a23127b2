-- Rows that are printed, held by computing; and the rows of this crate.
--     agrees            a test of two lists
--     rows-hold         a table whose every row passes the test
--     printed-holds     the rows of this crate
-- Assumes nothing.
use mathlib.Core.Path.{◌≡◌, refl, ap₂}
use mathlib.Core.Bool.{Bool, true, false, ◌&&◌}
use mathlib.Core.List.{List, [], ◌∷◌}
use Prim.Native.Nat.{ℕ}
use lib.Dec.{eqb}
use borrow.Author.Tests.{eqb-true}
use Rattle.bits.specs.Table.{tabulate, every, All}
use Rattle.bits.specs.Digits.{value, digits}
use Rattle.bits.specs.Bits.{bit_at, bits_of, eight_at, byte_at, bytes_of}
use Rattle.bits.specs.Printed.{row, nibble, nibbles, paired, Row, Same, printed_rows}
use Rattle.bits.proofs.Tests.{both_true}
use Rattle.bits.proofs.Every.{every-all}

unfoldable pub agrees : List ℕ → List ℕ → Bool
agrees [] [] = true
agrees [] (y ∷ m) = false
agrees (x ∷ l) [] = false
agrees (x ∷ l) (y ∷ m) = eqb x y && agrees l m

agrees-same : (l m : List ℕ) → agrees l m ≡ true → l ≡ m
unfolding agrees
agrees-same [] [] e = refl
agrees-same [] (y ∷ m) e = cc
agrees-same (x ∷ l) [] e = cc
agrees-same (x ∷ l) (y ∷ m) e = let both = both_true (eqb x y) (agrees l m) e in ap₂ ◌∷◌ (eqb-true x y both.0) (agrees-same l m both.1)

abbrev pub same_test : Row → Bool
same_test r = agrees r.said r.print

pub rows-hold : (rows : List Row) → every same_test rows ≡ true → All Same rows
rows-hold rows e = every-all same_test Same (λ r t. agrees-same r.said r.print t) rows e

pub printed-holds : All Same printed_rows
unfolding printed_rows row nibble nibbles paired every tabulate agrees value digits bit_at bits_of eight_at byte_at bytes_of
printed-holds = rows-hold printed_rows refl
