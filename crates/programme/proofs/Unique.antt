-- Any two results that meet a promise are the same: for each public function, `FUNCTION-unique`. Assumes nothing.
use mathlib.Core.Path.{◌≡◌, ap}
use mathlib.Core.List.{List, [], ◌∷◌}
use Prim.Native.Nat.{ℕ}
use lib.ListN.{get_or}
use Rattle.std.specs.declared.result.Result.{Result}
use Rattle.bits.specs.declared.refusal.Refusal.{Refusal}
use Rattle.bits.proofs.Refused.{told-same}
use Rattle.bits.proofs.Unique.{same}
use Rattle.programme.specs.declared.Programme.{Programme}
use Rattle.programme.specs.Byte.{read_byte, write_byte, read_answer, write_answer}
use Rattle.programme.specs.Names.{name_for}

pub read-unique : (b : ℕ) (r r' : Result Programme Refusal) → read_answer r ≡ read_byte b → read_answer r' ≡ read_byte b → r ≡ r'
read-unique b r r' p q =
    told-same (λ p. p.kind ∷ p.music ∷ p.mode ∷ [])
    (λ x y e. ap (λ (l : List ℕ). record { kind = get_or l 0 0; music = get_or l 1 0; mode = get_or l 2 0 }) e)
    r r' (same p q)

pub write-unique : (t m o : ℕ) (r r' : Result ℕ Refusal) → write_answer r ≡ write_byte t m o → write_answer r' ≡ write_byte t m o → r ≡ r'
write-unique t m o r r' p q = told-same (λ b. b ∷ []) (λ x y e. cc) r r' (same p q)

pub name-of-unique : (t : ℕ) (r r' : Result (List ℕ) Refusal) → r ≡ name_for t → r' ≡ name_for t → r ≡ r'
name-of-unique t r r' = same
