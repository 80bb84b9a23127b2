-- The 64 extra bits.
--     information-number        the information word as the code adds it up
--     extra-reading             what they read as, where they are bits
--     extra-word                the information word comes out whatever the scale word reads as
--     extra-five                so with number 5 too; and then no factor and no number of places
--     five-listed               this is number 5 in document 01's terms, with zeros and the word
--     extra-listed              and so is every answer the number and the values of the reading, with zeros where it has none, and the word
-- Assumes nothing.
use mathlib.Core.Path.{◌≡◌, refl, sym, ap, ◌∙◌}
use mathlib.Core.Logic.{⊎_elim}
use mathlib.Core.Bool.{true}
use mathlib.Core.List.{List, [], ◌∷◌}
use Prim.Native.Nat.{ℕ, ◌≤◌}
use native.Mathlib.Omega.{arith}
use lib.ListN.{length, get_or, take, drop, length-drop}
use lib.Seq.{take_all}
use Rattle.std.specs.declared.option.Option.TheVariants.{None}
use Rattle.std.specs.declared.result.Result.TheVariants.{Ok}
use Rattle.bits.specs.Answer.{Answer}
use Rattle.bits.specs.Bits.{are_bits}
use Rattle.bits.specs.Digits.{value}
use Rattle.nearest.specs.Reading.{read_scale}
use Rattle.nearest.specs.Extra.{information, beside, extra_answer, listed}
use Rattle.nearest.specs.declared.Extra.{Extra}
use Rattle.nearest.specs.Document.{Tie}
use Rattle.nearest.specs.Search.{bits_from}
use Rattle.nearest.proofs.Fewest.{single-read, shared-read}
use Rattle.nearest.proofs.Search.{single-or-shared}
use Rattle.nearest.proofs.Numbers.{all_from}
use Rattle.nearest.proofs.Nearest.{tie-five}

pub information-number : (bits : List ℕ) → length bits ≡ 64 → are_bits bits ≡ true → value 2 (bits_from bits 42 22) ≡ information bits
unfolding information
information-number bits s t =
    let sized : length (drop 42 bits) ≤ 22 = rw (length-drop 42 bits) (omega arith) in
    ap (value 2) (all_from bits 42 22 t (omega arith) ∙ take_all 22 (drop 42 bits) sized)

module _ (bits : List ℕ) (t : are_bits bits ≡ true) where
  pub extra-reading : extra_answer bits ≡ Ok (beside (information bits) (read_scale (take 42 bits)))
  unfolding extra_answer
  extra-reading = rw t

  pub extra-word : (e : Extra) × ((extra_answer bits ≡ Ok e) × (e.word ≡ information bits))
  extra-word = (beside (information bits) (read_scale (take 42 bits)), (extra-reading, refl))

  pub extra-five : Tie (take 42 bits) → extra_answer bits ≡ Ok (record { factors = None; word = information bits })
  extra-five h = extra-reading ∙ ap (λ (a : Answer ℕ). Ok (beside (information bits) a)) (tie-five (take 42 bits) h)

  pub five-listed : Tie (take 42 bits) → listed (extra_answer bits) ≡ 5 ∷ 0 ∷ 0 ∷ 0 ∷ information bits ∷ []
  five-listed h = ap listed (extra-five h)

  -- the number and the values of a reading, with the word
  abbrev with_word : Answer ℕ → List ℕ
  with_word a = a.number ∷ get_or a.values 0 0 ∷ get_or a.values 1 0 ∷ get_or a.values 2 0 ∷ information bits ∷ []

  by-reading : (a : Answer ℕ) → read_scale (take 42 bits) ≡ a → listed (Ok (beside (information bits) a)) ≡ with_word a
      → listed (extra_answer bits) ≡ with_word (read_scale (take 42 bits))
  by-reading a e h = ap listed extra-reading ∙ ap (λ (b : Answer ℕ). listed (Ok (beside (information bits) b))) e ∙ h ∙ sym (ap with_word e)

  pub extra-listed : listed (extra_answer bits) ≡ with_word (read_scale (take 42 bits))
  extra-listed =
      ⊎_elim
      (λ s. by-reading _ (single-read (take 42 bits) s.0 s.1) refl)
      (λ t. by-reading _ (shared-read (take 42 bits) t) refl)
      (single-or-shared (take 42 bits))
