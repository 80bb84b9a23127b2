-- How long the lines beside a superframe's sound are.
--     HeldBeside t      the position is a byte, the service bytes are six and the numbers of places sixteen bytes
--     beside-fits       the five lines have at most 822 characters
-- Assumes nothing.
use mathlib.Core.Path.{◌≡◌}
use mathlib.Core.List.{List, [], ◌∷◌, ◌++◌}
use Prim.Native.Nat.{ℕ, ◌≤◌, ◌<◌}
use native.Mathlib.Omega.{arith}
use lib.Dec.{eqb}
use lib.ListN.{length, get_or, length-append}
use Rattle.std.specs.Prelude.{Option, Some, None}
use Rattle.service_sync.specs.Sync.{number_of}
use Rattle.service_sync.specs.declared.Kind.{Kind}
use Rattle.service_sync.specs.declared.Kind.TheVariants.{First, Second, Neither}
use Rattle.bits.specs.Digits.{digits, Below}
use Rattle.bits.specs.Letters.{letters}
use Rattle.bits.proofs.Digits.{length_digits, below-get_or}
use Rattle.bits.proofs.Tests.{either_way}
use Rattle.text.specs.Digits.{decimal}
use Rattle.text.proofs.Decimal.{decimal-short}
use Rattle.text_rows.specs.Rows.{hexadecimal}
use Rattle.text_rows.specs.Turns.{next, in_turn, part}
use Rattle.text_rows.proofs.Spelled.{length-row, length-hex}
use Rattle.text_rows.proofs.Turns.{length-turns, length_part}
use Rattle.superframe.specs.declared.taking.Taken.{Taken}
use Rattle.beside_text.specs.Lines.{next_hex, service_line, labels_line, pair_text, factors_line, places_text, far_line, words_line, beside_text}

pub record HeldBeside (t : Taken) : Type 0 where
  pub position : t.position < 256
  pub six : length t.six ≡ 6
  pub places : (length t.programmes.places ≡ 16) × Below 256 t.programmes.places

length-service : (position number : ℕ) (six : List ℕ) → position < 256 → number < 256 → length six ≡ 6 → length (service_line position number six) ≤ 29
unfolding service_line letters
length-service position number six p n s =
    let d = decimal-short 2 position (omega (arith, p)) in
    let e = decimal-short 2 number (omega (arith, n)) in
    let h = length-hex six in
    rw (
      length-append (decimal position) (next number ++ (next_hex six ++ (10 ∷ []))),
      length-append (decimal number) (next_hex six ++ (10 ∷ [])),
      length-append (hexadecimal six) (10 ∷ []),
    ) (omega (arith, d, e, h, s))

small_number : (k : Kind) → number_of k < 256
small_number First = omega arith
small_number Second = omega arith
small_number Neither = omega arith

length-labels : (labels : Option (List ℕ)) → length (labels_line labels) ≤ 551
unfolding labels_line letters
length-labels (Some labels) =
    let label : ℕ → List ℕ = λ c. next_hex (part 8 c labels) in
    let all = length-turns 17 32 label (λ c l. let h = length-hex (part 8 c labels) in let p = length_part 8 c labels in omega (arith, h, p)) in
    rw (length-append (in_turn 32 label) (10 ∷ [])) (omega (arith, all))
length-labels None = omega arith

length-pair : (number : ℕ) (factors : List ℕ) → length factors ≤ 2 → length (pair_text number factors) ≤ 3
unfolding pair_text letters
length-pair number factors l =
    let r = length-row factors in
    either_way (eqb number 0) (λ e. rw e (omega (arith, r, l))) (λ e. rw e (omega arith))

length-factors : (numbers factors : List ℕ) → length (factors_line numbers factors) ≤ 56
unfolding factors_line letters
length-factors numbers factors =
    let pair : ℕ → List ℕ = λ q. pair_text (get_or numbers q 0) (part 2 q factors) in
    let all = length-turns 3 16 pair (λ q l. length-pair (get_or numbers q 0) (part 2 q factors) (length_part 2 q factors)) in
    rw (length-append (in_turn 16 pair) (10 ∷ [])) (omega (arith, all))

length-places : (number places : ℕ) → places < 256 → length (places_text number places) ≤ 4
unfolding places_text letters
length-places number places h =
    let d = decimal-short 2 places (omega (arith, h)) in
    either_way (eqb number 0) (λ e. rw e (omega (arith, d))) (λ e. rw e (omega arith))

length-far : (numbers places : List ℕ) → ((q : ℕ) → q < 16 → get_or places q 0 < 256) → length (far_line numbers places) ≤ 68
unfolding far_line letters
length-far numbers places h =
    let one : ℕ → List ℕ = λ q. places_text (get_or numbers q 0) (get_or places q 0) in
    let all = length-turns 4 16 one (λ q l. length-places (get_or numbers q 0) (get_or places q 0) (h q l)) in
    rw (length-append (in_turn 16 one) (10 ∷ [])) (omega (arith, all))

length-words : (words : List ℕ) → length (words_line words) ≤ 118
unfolding words_line letters
length-words words =
    let word : ℕ → List ℕ = λ q. next_hex (digits 256 3 (get_or words q 0)) in
    let all = length-turns 7 16 word (λ q l. let h = length-hex (digits 256 3 (get_or words q 0)) in let d = length_digits 256 3 (get_or words q 0) in omega (arith, h, d)) in
    rw (length-append (in_turn 16 word) (10 ∷ [])) (omega (arith, all))

pub beside-fits : (t : Taken) → HeldBeside t → length (beside_text t) ≤ 822
unfolding beside_text
beside-fits t h =
    let a = length-service t.position (number_of t.kind) t.six h.position (small_number t.kind) h.six in
    let b = length-labels t.labels in
    let c = length-factors t.programmes.numbers t.programmes.factors in
    let e = length-far t.programmes.numbers t.programmes.places
    (λ q l. let sixteen = h.places.0 in below-get_or 256 t.programmes.places q h.places.1 (omega arith)) in
    let d = length-words t.programmes.words in
    rw (
      length-append (service_line t.position (number_of t.kind) t.six) _,
      length-append (labels_line t.labels) _,
      length-append (factors_line t.programmes.numbers t.programmes.factors) _,
      length-append (far_line t.programmes.numbers t.programmes.places) _,
    ) (omega (arith, a, b, c, d, e))
