-- What a superframe hands out of a programme's scale words, in document 02's words (P4).
--     extra-bits-below              extra bits are bits
--     extra-given                   so that they are read
--     nearest-read, read-nearest    factors and a number of places exactly where their word, sent three times, differs from the 42 bits in so many and that of any
--                                   other factors in more
--     tie-unread, five-tie          number 5 exactly where two or more are equally near and none is nearer
--     seven-read                    THE THEOREM: with at most seven of the 42 bits wrong the factors are handed out as sent, with that number
-- Assumes nothing.
use mathlib.Core.Path.{◌≡◌, sym, ap, ◌∙◌}
use mathlib.Core.Logic.{⊎_elim}
use mathlib.Core.Bool.{true}
use mathlib.Core.List.{List, [], ◌∷◌}
use Prim.Native.Nat.{ℕ, ◌+◌, ◌-◌, ◌/◌, ◌%◌, ◌≤◌}
use native.Mathlib.Omega.{arith}
use lib.ListN.{length}
use Rattle.std.specs.declared.option.Option.{Option}
use Rattle.std.specs.declared.option.Option.TheVariants.{Some, None}
use Rattle.std.specs.declared.result.Result.TheVariants.{Ok}
use Rattle.bits.specs.Answer.{Answer, accepted, refused}
use Rattle.bits.specs.Bits.{ones, are_bits}
use Rattle.bits.proofs.Bits.{bits_below, below-bits, bit_below}
use Rattle.bits.proofs.Digits.{below-tab}
use Rattle.bits.proofs.Table.{get_or-tab}
use Rattle.remainder.specs.Polynomial.{◌⊕◌}
use Rattle.nearest.specs.Reading.{read_scale}
use Rattle.nearest.specs.Extra.{factors_in, extra_answer}
use Rattle.nearest.specs.Document.{sent, Nearest, Tie}
use Rattle.nearest.specs.declared.Factors.{Factors}
use Rattle.nearest.proofs.Nearest.{nearest-reads, tie-five, nearest-or-tie, seven-back}
use Rattle.tape.specs.Tape.{block_in}
use Rattle.tape.proofs.Tape.{block-bits}
use Rattle.tape.specs.Document.{entry}
use Rattle.beside.specs.Beside.{extra_bit, extra_bits, extra_of, number_of_factors, places_of_factors, places_at, programmes_of}
use Rattle.beside.specs.Document.{scale_bits, ReadAs, Unread}
use Rattle.beside.proofs.Stands.{number_is, five-missing, factor-read-as}

pub extra-bits-below : (sf : List ℕ) (q : ℕ) → are_bits (extra_bits sf q) ≡ true
unfolding extra_bits extra_bit
extra-bits-below sf q =
    below-bits (extra_bits sf q)
    (below-tab 2 64 (extra_bit sf q) (λ f l. bit_below (block_in sf f (q / 2)) (75 + q % 2) (bits_below (block_in sf f (q / 2)) (block-bits sf f (q / 2)))))

pub extra-given : (sf : List ℕ) (q : ℕ) → extra_answer (extra_bits sf q) ≡ Ok (extra_of sf q)
unfolding extra_answer extra_of
extra-given sf q = rw (extra-bits-below sf q)

module _ (sf : List ℕ) (q : ℕ) (k : 1 ≤ q) (l : q ≤ 16) where
  places_is : entry (programmes_of sf).places q 0 ≡ places_at sf (q - 1)
  unfolding programmes_of
  places_is = get_or-tab 16 (places_at sf) (q - 1) 0 (omega arith)

  -- by what the 42 bits read as
  given : (a : Answer ℕ) → read_scale (scale_bits sf q) ≡ a → (extra_of sf (q - 1)).factors ≡ factors_in a
  unfolding extra_of
  given a e = ap factors_in e

  numbered : (o : Option Factors) → (extra_of sf (q - 1)).factors ≡ o → entry (programmes_of sf).numbers q 0 ≡ number_of_factors o
  numbered o e = number_is sf q 1 k l (omega arith) (omega arith) ∙ ap number_of_factors e

  accepted-read : (a b n : ℕ) → read_scale (scale_bits sf q) ≡ accepted (a ∷ b ∷ n ∷ []) → ReadAs (programmes_of sf) q a b n
  accepted-read a b n e =
      let f : Factors = record { left = a; right = b; places = n } in
      let whole : (extra_of sf (q - 1)).factors ≡ Some f = given (accepted (a ∷ b ∷ n ∷ [])) e in
      record {
        number = numbered (Some f) whole;
        left = factor-read-as sf q 1 k l (omega arith) (omega arith) f whole;
        right = factor-read-as sf q 2 k l (omega arith) (omega arith) f whole;
        places = places_is ∙ ap places_of_factors whole;
      }

  pub nearest-read : (a b n : ℕ) → Nearest a b n (scale_bits sf q) → ReadAs (programmes_of sf) q a b n
  nearest-read a b n h = accepted-read a b n (nearest-reads (scale_bits sf q) a b n h)

  pub tie-unread : Tie (scale_bits sf q) → Unread (programmes_of sf) q
  tie-unread t =
      let e = tie-five (scale_bits sf q) t in
      let none : (extra_of sf (q - 1)).factors ≡ None = given (refused 5) e in
      let five = numbered None none in
      let some : entry (programmes_of sf).numbers q 0 ≡ 0 → ⊥ = λ z. omega arith in
      record {
        number = five;
        left = five-missing sf q 1 k l (omega arith) (omega arith) some;
        right = five-missing sf q 2 k l (omega arith) (omega arith) some;
        places = places_is ∙ ap places_of_factors none;
      }

  pub read-nearest : (a b n : ℕ) → ReadAs (programmes_of sf) q a b n → Nearest a b n (scale_bits sf q)
  read-nearest a b n h =
      ⊎_elim
      (λ s.
      let is = nearest-read s.0 s.1.0 s.1.1.0 s.1.1.1 in
      let left : a ≡ s.0 = sym h.left ∙ is.left in
      let right : b ≡ s.1.0 = sym h.right ∙ is.right in
      let places : n ≡ s.1.1.0 = sym h.places ∙ is.places in
      rw (left, right, places) s.1.1.1)
      (λ t. let five : entry (programmes_of sf).numbers q 0 ≡ 5 = (tie-unread t).number in let none = h.number in absurd (omega arith))
      (nearest-or-tie (scale_bits sf q))

  pub five-tie : entry (programmes_of sf).numbers q 0 ≡ 5 → Tie (scale_bits sf q)
  five-tie five =
      ⊎_elim
      (λ s. let none : entry (programmes_of sf).numbers q 0 ≡ 0 = (nearest-read s.0 s.1.0 s.1.1.0 s.1.1.1).number in absurd (omega arith))
      (λ t. t)
      (nearest-or-tie (scale_bits sf q))

  pub seven-read : (a b : ℕ) (mask : List ℕ) → a ≤ 7 → b ≤ 7 → length mask ≡ 42 → ones mask ≤ 7 → scale_bits sf q ≡ sent a b ⊕ mask → ReadAs (programmes_of sf) q a b (ones mask)
  seven-read a b mask h m size few e = accepted-read a b (ones mask) (ap read_scale e ∙ seven-back a b h m mask size few)
