-- `programme::write` meets its contract. Assumes nothing.
use mathlib.Core.Path.{sym, ap, ◌∙◌}
use mathlib.Core.List.{[], ◌∷◌}
use Prim.Native.Nat.{ℕ, ◌+◌, ◌*◌}
use native.Mathlib.Omega.{arith}
use Rattle.bits.specs.Answer.{accepted}
use Rattle.bits.proofs.Ones.{count-digits}
use Rattle.programme.proofs.Byte.{in-range, made-sum}
use Rattle.programme.proofs.write.Goals as goal

pub returns : goal.returns
returns c =
    let a = c.args in
    rw (count-digits 8 (a.kind * 16 + a.music * 8 + a.mode * 2) (omega arith))
    (ap (λ (b : ℕ). accepted (b ∷ [])) (made-sum a.kind a.music a.mode (omega arith) (omega arith) (omega arith))
    ∙ sym (in-range a.kind a.music a.mode (omega arith) (omega arith) (omega arith)))
