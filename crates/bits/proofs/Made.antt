-- An array that a closure makes (`std::array::from_fn`) is the table of what the closure answers.
--     made     where each call answers as a rule says and leaves what the closure holds as it was, the array is the table of that rule
-- Assumes nothing.
use mathlib.Core.Path.{◌≡◌, refl, ◌∙◌, subst}
use mathlib.Core.Logic.{⊎_elim}
use mathlib.Core.List.{List}
use Prim.Native.Nat.{ℕ, zero, suc, ◌+◌, ◌<◌, ◌≤◌}
use native.Mathlib.Nat.{eq-or-lt_of_le}
use native.Mathlib.Omega.{arith}
use lib.ListN.{get_or}
use Rattle.std.proofs.Common.{rules}
use Rattle.std.specs.Fn.{Mut, Called}
use Rattle.std.specs.Array.{IsFromFnResult, IsFromFnResultFrom}
use Rattle.bits.specs.Table.{tabulate}
use Rattle.bits.proofs.Table.{tab-made}

module _ {F B : Type 0} (g : Mut F (ℕ × Unit {0}) B) (rule : ℕ → B) (f : F) (n : ℕ) where
  abbrev Answers : Type 0
  Answers = (i : ℕ) (y : B) (q : F) → i < n → Called g f (i, tt) y q → (y ≡ rule i) × (q ≡ f)

  each : Answers → (ys : List B) (m i : ℕ) → i + m ≡ n → (p : F) → p ≡ f → IsFromFnResultFrom g p ys i m → (j : ℕ) (d : B) → i ≤ j → j < n → get_or ys j d ≡ rule j
  each a ys zero i e p s t j d h k = absurd (omega arith)
  each a ys (suc m) i e p s (q, y, at, call, rest) j d h k =
      let here : Called g f (i, tt) y q = subst (λ (x : F). Called g x (i, tt) y q) s call in
      let told : (y ≡ rule i) × (q ≡ f) = a i y q (omega arith) here in
      ⊎_elim
      (λ (x : i ≡ j). subst (λ (k : ℕ). get_or ys k d ≡ rule k) x (at.1 d ∙ told.0))
      (λ (x : i < j). each a ys m (i + 1) (omega arith) q told.1 rest j d (omega arith) k)
      (eq-or-lt_of_le h)

  pub made : (ys : List B) (d : B) → IsFromFnResult g f ys n → Answers → ys ≡ tabulate n rule
  made ys d m a = tab-made n rule ys d m.long (λ j h. each a ys n 0 (search rules) f refl m.each j d (omega arith) h)
