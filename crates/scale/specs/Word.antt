-- Scale words (document 01, "Scale words": the left factor and the right factor, three bits each, highest first, then eight check bits).
--     scale_word l r     the 14 bits for the factors l and r
--     written_scale l r  what writing them answers: number 2 for a factor over 7
use Rattle.std.specs.Prelude.{ℕ, cond, ◌&&◌, List, ◌++◌, leb}
use Rattle.std.specs.declared.result.Result.{Result}
use Rattle.std.specs.declared.result.Result.TheVariants.{Ok, Err}
use Rattle.bits.specs.Digits.{digits}
use Rattle.bits.specs.declared.refusal.Refusal.{Refusal}
use Rattle.bits.specs.declared.refusal.Refusal.TheVariants.{Range}
use Rattle.code.specs.Generators.{scale_generator}
use Rattle.code.specs.Words.{encode}

unfoldable pub scale_word : ℕ → ℕ → List ℕ
scale_word l r = encode scale_generator (digits 2 3 l ++ digits 2 3 r)

unfoldable pub written_scale : ℕ → ℕ → Result (List ℕ) Refusal
written_scale l r = cond (leb l 7 && leb r 7) (Ok (scale_word l r)) (Err Range)
