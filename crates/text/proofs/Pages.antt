-- Laws of text put on a page.
--     put-append         two texts one behind the other are put as one
--     put_then           the same, of pages that are known by equations
--     put-more           the first elements of a list and one more, as a loop puts them
--     length-put         a page stays as long as it was
--     within-put         where a text that starts at the place has ended by n, the place behind it is not past n
--     put-within         and only there, for any n that a buffer can be long: so a place past a buffer's end says that something was left out
--     put-fits           a text that fits stands at the place, and all before and behind it is as it was
-- Assumes nothing.
use mathlib.Core.Path.{◌≡◌, refl, sym, ap, ap₂, ◌∙◌}
use mathlib.Core.List.{List, [], ◌∷◌, ◌++◌, append_assoc, append-nil}
use Prim.Native.Nat.{ℕ, suc, ◌+◌, ◌-◌, ◌^◌, ◌≤◌, ◌<◌, min}
use native.Mathlib.Nat.{add-zero, le_of_lt, min-le_left, min-eq_left, min-eq_right}
use native.Mathlib.Numerals.{add-one}
use native.Mathlib.Omega.{arith}
use borrow.Author.Tests.{ltb-true, ltb-false}
use lib.Dec.{ltb}
use lib.ListN.{length, get_or, set, take, drop, length-set, take-append-drop}
use lib.Seq.{take-suc, take-suc-set, drop-set-lt}
use Rattle.bits.proofs.Tests.{either_way}
use Rattle.text.specs.Page.{Page, page, put_byte, put_text}

pub put-append : (p : Page) (s t : List ℕ) → put_text p (s ++ t) ≡ put_text (put_text p s) t
unfolding put_text
put-append p [] t = refl
put-append p (b ∷ s) t = put-append (put_byte p b) s t

length-byte : (p : Page) (b : ℕ) → length (put_byte p b).bytes ≡ length p.bytes
unfolding put_byte
length-byte p b = length-set p.bytes p.place b

pub length-put : (p : Page) (s : List ℕ) → length (put_text p s).bytes ≡ length p.bytes
unfolding put_text
length-put p [] = refl
length-put p (b ∷ s) = length-put (put_byte p b) s ∙ length-byte p b

pub put_then : (start p q : Page) (s t : List ℕ) → p ≡ put_text start s → q ≡ put_text p t → q ≡ put_text start (s ++ t)
put_then start p q s t e g = g ∙ ap (λ (r : Page). put_text r t) e ∙ sym (put-append start s t)

pub put-more :
    (start p q : Page) (l : List ℕ) (i : ℕ) → i < length l → p ≡ put_text start (take i l) → q ≡ put_text p (get_or l i 0 ∷ []) → q ≡ put_text start (take (i + 1) l)
put-more start p q l i h e g =
    put_then start p q (take i l) (get_or l i 0 ∷ []) e g ∙ ap (put_text start) (sym (ap (λ (n : ℕ). take n l) (add-one i) ∙ take-suc l i 0 h))

pub within-put : (p : Page) (s : List ℕ) (n : ℕ) → p.place + length s ≤ n → (put_text p s).place ≤ n
unfolding put_text put_byte
within-put p [] n h = omega (arith, h)
within-put p (b ∷ s) n h =
    let l = min-le_left (suc p.place) (2 ^ 64 - 1) in
    within-put (put_byte p b) s n (omega (arith, h, l))

-- what stopped at m is more than n
not_stopped : (a k m n : ℕ) → n < m → min a m + k ≤ n → a + k ≤ n
not_stopped a k m n l h =
    either_way (ltb m a)
    (λ e. let stopped : min a m ≡ m = min-eq_right (le_of_lt (ltb-true m a e)) in absurd (omega (arith, l, h, stopped)))
    (λ e. let on : min a m ≡ a = min-eq_left (ltb-false m a e) in omega (arith, h, on))

pub put-within : (p : Page) (s : List ℕ) (n : ℕ) → n < 2 ^ 64 - 1 → (put_text p s).place ≤ n → p.place + length s ≤ n
unfolding put_text put_byte
put-within p [] n m h = omega (arith, h)
put-within p (b ∷ s) n m h =
    let rest = not_stopped (suc p.place) (length s) (2 ^ 64 - 1) n m (put-within (put_byte p b) s n m h) in
    omega (arith, rest)

room : (bytes : List ℕ) (at b : ℕ) → at < 2 ^ 64 - 1 → put_byte (page bytes at) b ≡ page (set bytes at b) (suc at)
unfolding put_byte
room bytes at b h = ap (page (set bytes at b)) (min-eq_left h)

pub put-fits :
    (bytes s : List ℕ) (at : ℕ) → length bytes < 2 ^ 64 → at + length s ≤ length bytes →
    put_text (page bytes at) s ≡ page ((take at bytes ++ s) ++ drop (at + length s) bytes) (at + length s)
unfolding put_text
put-fits bytes [] at m h = rw (add-zero at, append-nil (take at bytes), take-append-drop at bytes)
put-fits bytes (b ∷ s) at m h =
    ap (λ (p : Page). put_text p s) (room bytes at b (omega (arith, m, h)))
    ∙ put-fits (set bytes at b) s (suc at) (omega (arith, m, length-set bytes at b)) (omega (arith, h, length-set bytes at b))
    ∙ let e : suc at + length s ≡ at + suc (length s) = omega arith in
    ap₂ page
    (ap₂ (λ (f r : List ℕ). (f ++ s) ++ r) (take-suc-set bytes at b (omega (arith, h))) (drop-set-lt (suc at + length s) bytes at b (omega arith))
    ∙ ap₂ (λ (f : List ℕ) (n : ℕ). f ++ drop n bytes) (append_assoc (take at bytes) (b ∷ []) s) e)
    e
