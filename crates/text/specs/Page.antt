-- Text put into a lent buffer.
--     Page            a buffer's bytes, and the place where the next byte goes
--     page bytes at   such a page
--     put_byte p b     a byte goes there, or nowhere where that is past the end, and the place moves on by one; it stops at the largest number of 64 bits
--     put_text p s     the bytes of a text, one behind the other
-- In proofs/Pages.antt: a text that fits stands at the place, and all before and behind it is as it was (`put-fits`); it fits exactly where the place
-- behind it is not past the end of the buffer (`within-put`, `put-within`).
use Rattle.std.specs.Prelude.{ℕ, suc, ◌-◌, ◌^◌, min, List, [], ◌∷◌, set}

pub record Page : Type 0 where
  pub bytes : List ℕ
  pub place : ℕ

abbrev pub page : List ℕ → ℕ → Page
page bytes at = record { bytes = bytes; place = at }

unfoldable pub put_byte : Page → ℕ → Page
put_byte p b = page (set p.bytes p.place b) (min (suc p.place) (2 ^ 64 - 1))

unfoldable pub put_text : Page → List ℕ → Page
put_text p [] = p
put_text p (b ∷ s) = put_text (put_byte p b) s
