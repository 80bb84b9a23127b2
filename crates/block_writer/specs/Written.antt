-- Writing a block (document 01, "The block").
--     written_block      what writing answers: the block, or number 2 for a code outside -8192 to 8191, or an extra bit that is not 0 or 1
use Rattle.std.specs.Prelude.{ℕ, cond, ◌&&◌, List, ℤ}
use Rattle.std.specs.declared.result.Result.{Result}
use Rattle.std.specs.declared.result.Result.TheVariants.{Ok, Err}
use Rattle.bits.specs.Table.{every}
use Rattle.bits.specs.Bits.{are_bits}
use Rattle.bits.specs.declared.refusal.Refusal.{Refusal}
use Rattle.bits.specs.declared.refusal.Refusal.TheVariants.{Range}
use Rattle.sample.specs.Sample.{is_code}
use Rattle.block.specs.Layout.{block_with}

unfoldable pub written_block : List ℤ → List ℕ → Result (List ℕ) Refusal
written_block codes extra = cond (every is_code codes && are_bits extra) (Ok (block_with codes extra)) (Err Range)
