-- Reading a block (document 01, "The block"; the mission's second demand; document 02, P9): its 63 protected bits at a radius, its 14 others as received.
--     Said              what is said of a block: clean, mended with a number of places, bad
--     said r            that of a reading of the 63 bits
--     said_with n        what is said where n places were turned: clean at 0, mended above
--     protected block   the 63 protected bits
--     said_of radius block       what reading a block answers: number 2 for an entry that is not 0 or 1
--     handed_on radius block     the 77 bits handed on: the 63 put right where they were mended, all as received otherwise
--     is_readable radius block   the radius is 2 or 3, and every entry 0 or 1
--     spoken s          what each case of the code's reading stands for
--     told r            the number and the value that the code's answer stands for
--     stands block r    the bits as they then stand: refused, as they were given
--     outcome block p   what the code answers where p are the wrong places
--     IsRead radius block r     THE PROMISE of the reader: with another radius than 2 or 3 number 2 too, and the entries as given
use Rattle.std.specs.Prelude.{ℕ, zero, suc, ◌≡◌, Bool, false, cond, List, [], ◌∷◌, ◌++◌, take, drop}
use Rattle.bits.specs.Bits.{are_bits}
use Rattle.std.specs.declared.result.Result.{Result}
use Rattle.std.specs.declared.result.Result.TheVariants.{Ok, Err}
use Rattle.bits.specs.declared.refusal.Refusal.{Refusal}
use Rattle.bits.specs.Answer.{Answer, accepted, refused}
use Rattle.bits.specs.Refused as Refused
use Rattle.reading.specs.Reading as R
use Rattle.reading.specs.Reading.{Reading, handed, is_radius}
use Rattle.reading.specs.Search.{reading}
use Rattle.reading.specs.Wrong.{turn}
use Rattle.reading.specs.declared.Places.{Places}
use Rattle.reading.specs.declared.Places.TheVariants.{Zero, One, Two, Three, Nowhere}
use Rattle.block.specs.declared.BlockReading.{BlockReading}
use Rattle.block.specs.declared.BlockReading.TheVariants.{Clean, Mended, Bad}
use Rattle.block.specs.declared.BlockRead.{BlockRead}

pub data Said : Type 0 where
  clean : Said
  mended : ℕ → Said
  bad : Said

unfoldable pub said : Reading → Said
said R.clean = clean
said (R.mended n c) = mended n
said R.bad = bad

unfoldable pub said_with : ℕ → Said
said_with zero = clean
said_with (suc n) = mended (suc n)

abbrev pub protected : List ℕ → List ℕ
protected block = take 63 block

unfoldable pub said_of : ℕ → List ℕ → Answer Said
said_of radius block = cond (are_bits block) (accepted (said (reading radius (protected block)) ∷ [])) (refused 2)

unfoldable pub handed_on : ℕ → List ℕ → List ℕ
handed_on radius block = cond (are_bits block) (handed (protected block) (reading radius (protected block)) ++ drop 63 block) block

unfoldable pub is_readable : ℕ → List ℕ → Bool
is_readable radius block = cond (is_radius radius) (are_bits block) false

unfoldable pub spoken : BlockReading → Said
spoken Clean = clean
spoken (Mended n) = mended n
spoken Bad = bad

abbrev pub told : Result BlockRead Refusal → Answer Said
told r = Refused.told (λ (x : BlockRead). spoken x.reading ∷ []) r

abbrev pub stands : List ℕ → Result BlockRead Refusal → List ℕ
stands block (Ok x) = x.bits
stands block (Err e) = block

unfoldable pub outcome : List ℕ → Places → BlockRead
outcome block Zero = record { reading = Clean; bits = block }
outcome block (One i) = record { reading = Mended 1; bits = turn block i }
outcome block (Two i j) = record { reading = Mended 2; bits = turn (turn block i) j }
outcome block (Three i j k) = record { reading = Mended 3; bits = turn (turn (turn block i) j) k }
outcome block Nowhere = record { reading = Bad; bits = block }

pub record IsRead (radius : ℕ) (block : List ℕ) (r : Result BlockRead Refusal) : Type 0 where
  pub answer : told r ≡ cond (is_radius radius) (said_of radius block) (refused 2)
  pub bits : stands block r ≡ cond (is_radius radius) (handed_on radius block) block
