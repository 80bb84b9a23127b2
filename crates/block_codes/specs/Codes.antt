-- What a block carries (document 01, "The block"), taken out of the places that `block` lays out. Channels count from 0.
--     code_at block c    the code of channel c
--     codes_at, extra_at  all four codes; the two extra bits, of the first programme and of the second
--     codes_of           what taking a block apart answers: number 2 for an entry that is not 0 or 1
use Rattle.std.specs.Prelude.{ℕ, cond, List, ℤ, drop}
use Rattle.std.specs.declared.result.Result.{Result}
use Rattle.std.specs.declared.result.Result.TheVariants.{Ok, Err}
use Rattle.bits.specs.Table.{tabulate}
use Rattle.bits.specs.Bits.{are_bits}
use Rattle.sample.specs.Pattern.{bits_code}
use Rattle.bits.specs.declared.refusal.Refusal.{Refusal}
use Rattle.bits.specs.declared.refusal.Refusal.TheVariants.{Range}
use Rattle.block.specs.Layout.{fourteen}
use Rattle.block_codes.specs.declared.BlockCodes.{BlockCodes}

unfoldable pub code_at : List ℕ → ℕ → ℤ
code_at block c = bits_code (fourteen block c)

unfoldable pub codes_at : List ℕ → List ℤ
codes_at block = tabulate 4 (code_at block)

unfoldable pub extra_at : List ℕ → List ℕ
extra_at block = drop 75 block

unfoldable pub codes_of : List ℕ → Result BlockCodes Refusal
codes_of block = cond (are_bits block) (Ok (record { codes = codes_at block; extra = extra_at block })) (Err Range)
