-- `put_word` meets its contract. Assumes nothing.
use Prim.Native.Nat.{ℕ, ◌/◌, ◌%◌}
use mathlib.Core.Path.{◌≡◌, ap}
use mathlib.Core.List.{[], ◌∷◌}
use native.Mathlib.Omega.{arith}
use Rattle.bits.specs.Digits.{digits}
use Rattle.text.proofs.Pens.{puts_as}
use Rattle.beside_text.specs.Lines.{next_hex}
use Rattle.beside_text.proofs.put_word.Goals as goal

thrice : (x : ℕ) → x / 65536 % 256 ≡ x / 256 / 256 % 256
thrice x = omega arith

pub returns : goal.returns
unfolding digits
returns c =
    let word = c.args.word in
    puts_as (ap (λ (high : ℕ). next_hex (high ∷ word / 256 % 256 ∷ word % 256 ∷ [])) (thrice word)) c.put_next_hex.ensures
