-- The bytes of a programme in a superframe's 64 pairs. Programmes count from 1, frames and channels from 0; the sample of frame f and
-- channel c is element 32 f + c of 2,048.
--     sample_bytes z             a sample in two bytes, two's complement, the lower first
--     sound_bytes q samples      the 256 bytes of programme q: for each frame its left sample, its right one
--     mark_byte m                the height of a mark: 128 and 16 for each step; of a number that is no mark, that of mark 2
--     mark_bytes q marks         the 128 bytes of its marks
--     lost_sound, lost_marks      those of a lost superframe: 0 and 255
--     lost_bytes b               these, by the bytes of a sample
--     sample_in bytes i          sample i of a file's bytes, read back; left and right count as two
--     mark_in bytes i            mark i, by subtraction
--     programme_number q n       number 1 where a superframe's list does not have 2,048 elements, number 2 where q is not 1 to 16, else 0
--     entered_of q l p s         what putting the bytes s of programme q, made of a superframe's list l, answers and leaves
--     entered_lost p b           the same of a lost superframe; number 2 for samples of no byte or of more than two
use Rattle.std.specs.Prelude.{ℕ, ◌+◌, ◌*◌, ◌-◌, ◌/◌, cond, ◌&&◌, List, [], ◌∷◌, ◌++◌, ltb, leb, eqb, ℤ, pos, length, get_or}
use Rattle.sample.specs.Pattern.{pattern_of, signed_of}
use Rattle.text_rows.specs.Turns.{in_turn}
use denote.MutBor.{MutBor}
use Rattle.text.specs.Page.{Page}
use Rattle.text.specs.Pens.{Puts}
use Rattle.text.specs.declared.pen.Pen.{Pen}
use Rattle.text.specs.Entry.{Entered, entered_text}
use Rattle.wav.specs.Header.{little, refused_as}

-- the left and the right channel of programme q in frame f
abbrev pub left : ℕ → ℕ → ℕ
left q f = 32 * f + 2 * (q - 1)

-- the two elements of programme q in frame f, as texts one behind the other; d stands for elements that a list lacks
abbrev pub pair_of : {A : Type 0} → ℕ → List A → (A → List ℕ) → A → ℕ → List ℕ
pair_of q list g d f = g (get_or list (left q f) d) ++ g (get_or list (left q f + 1) d)

-- each call of a closure, whose calls `post` tells, puts the text of its element
abbrev pub PutsElement : {A : Type 0} → (MutBor Pen → A → Unit {0} → MutBor Pen → Type 0) → (A → List ℕ) → Type 0
PutsElement {A} post f = (x : A) (p q : MutBor Pen) → post p x tt q → Puts p.now q.now (f x)

unfoldable pub sample_bytes : ℤ → List ℕ
sample_bytes z = little 2 (pattern_of 32768 z)

unfoldable pub pair_bytes : ℕ → List ℤ → ℕ → List ℕ
pair_bytes q samples f = sample_bytes (get_or samples (left q f) (pos 0)) ++ sample_bytes (get_or samples (left q f + 1) (pos 0))

unfoldable pub sound_bytes : ℕ → List ℤ → List ℕ
sound_bytes q samples = in_turn 64 (pair_bytes q samples)

unfoldable pub mark_byte : ℕ → ℕ
mark_byte m = cond (ltb m 5) (128 + 16 * m) 160

unfoldable pub pair_marks : ℕ → List ℕ → ℕ → List ℕ
pair_marks q marks f = mark_byte (get_or marks (left q f) 0) ∷ mark_byte (get_or marks (left q f + 1) 0) ∷ []

unfoldable pub mark_bytes : ℕ → List ℕ → List ℕ
mark_bytes q marks = in_turn 64 (pair_marks q marks)

unfoldable pub lost_sound : List ℕ
lost_sound = in_turn 256 (λ i. 0 ∷ [])

unfoldable pub lost_marks : List ℕ
lost_marks = in_turn 128 (λ i. 255 ∷ [])

unfoldable pub lost_bytes : ℕ → List ℕ
lost_bytes b = cond (eqb b 1) lost_marks lost_sound

unfoldable pub sample_in : List ℕ → ℕ → ℤ
sample_in bytes i = signed_of 32768 (get_or bytes (2 * i) 0 + 256 * get_or bytes (2 * i + 1) 0)

unfoldable pub mark_in : List ℕ → ℕ → ℕ
mark_in bytes i = (get_or bytes i 0 - 128) / 16

unfoldable pub programme_number : ℕ → ℕ → ℕ
programme_number q n = cond (eqb n 2048) (cond (leb 1 q && leb q 16) 0 2) 1

unfoldable pub entered_of : {A : Type 0} → ℕ → List A → Page → List ℕ → Entered
entered_of q l p s = cond (eqb (programme_number q (length l)) 0) (entered_text p s) (refused_as (programme_number q (length l)) p)

unfoldable pub entered_lost : Page → ℕ → Entered
entered_lost p b = cond (leb 1 b && leb b 2) (entered_text p (lost_bytes b)) (refused_as 2 p)
