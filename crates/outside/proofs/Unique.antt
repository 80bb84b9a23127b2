-- Any two results that meet a promise are the same: for each public function, `FUNCTION-unique`. Assumes nothing.
use mathlib.Core.Path.{◌≡◌, sym, ◌∙◌}
use mathlib.Core.List.{List}
use Prim.Native.Nat.{ℕ}
use lib.IntN.{ℤ}
use Rattle.outside.specs.Outside.{TookOutside}

module _ (radius : ℕ) (b sf : List ℕ) (samples : List ℤ) (marks : List ℕ) (r r' : ℕ) (b₁ b₂ : List ℕ) (s₁ s₂ : List ℤ) (m₁ m₂ : List ℕ) where
  pub outside-take-unique : TookOutside radius b sf samples marks r b₁ s₁ m₁ → TookOutside radius b sf samples marks r' b₂ s₂ m₂
      → (r ≡ r') × (b₁ ≡ b₂) × (s₁ ≡ s₂) × (m₁ ≡ m₂)
  outside-take-unique t u =
      (t.number ∙ sym u.number, t.beside ∙ sym u.beside, t.sound ∙ sym u.sound, t.marked ∙ sym u.marked)
