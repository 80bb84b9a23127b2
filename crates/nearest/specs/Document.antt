-- Sentences of document 02, P4, in its words, of factors from 0 to 7: theorems hold the definitions to them.
--     sent l r              the scale word of these factors, sent three times
--     differs l r bits      in how many places the bits differ from it
--     Other l r l' r'       factors l', r' that are not l, r
--     Nearest l r n bits    "the one that differs in the fewest places": the word of l, r differs in n, and that of any other factors in more
--     Tie bits              "two or more are equally near and none nearer"
use Rattle.std.specs.Prelude.{ℕ, ◌≤◌, ◌<◌, ◌≡◌, List, ◌++◌}
use Rattle.code.specs.Words.{distance}
use Rattle.scale.specs.Word.{scale_word}

abbrev pub sent : ℕ → ℕ → List ℕ
sent l r = scale_word l r ++ (scale_word l r ++ scale_word l r)

abbrev pub differs : ℕ → ℕ → List ℕ → ℕ
differs l r bits = distance (sent l r) bits

abbrev pub Other : ℕ → ℕ → ℕ → ℕ → Type 0
Other l r l' r' = (l' ≡ l) × (r' ≡ r) → ⊥

pub record Nearest (l r n : ℕ) (bits : List ℕ) : Type 0 where
  pub left : l ≤ 7
  pub right : r ≤ 7
  pub places : differs l r bits ≡ n
  pub others : (l' r' : ℕ) → l' ≤ 7 → r' ≤ 7 → Other l r l' r' → n < differs l' r' bits

pub record Tie (bits : List ℕ) : Type 0 where
  pub l : ℕ
  pub r : ℕ
  pub l' : ℕ
  pub r' : ℕ
  pub left : l ≤ 7
  pub right : r ≤ 7
  pub left' : l' ≤ 7
  pub right' : r' ≤ 7
  pub other : Other l r l' r'
  pub equal : differs l' r' bits ≡ differs l r bits
  pub none-nearer : (a b : ℕ) → a ≤ 7 → b ≤ 7 → differs l r bits ≤ differs a b bits
