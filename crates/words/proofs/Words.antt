-- By the true tables a block read as a number is the block as it is read.
--     read-parts            the mark and the codes from the parts that the code makes
--     first-seven, eight-more, word_below
--                           the word so far, as the code makes it
--     word_small, word-digits    the word has 63 digits, which are the protected bits
--     turned-digits         turning a digit of the word is turning the bit
--     code-there            a code from the word and the unprotected bits is the block's
--     told-read             THE THEOREM, for any 77 bits and a radius that may be chosen: what `Reader::read` promises of any tables is, with the true ones, the mark
--                           of the block's reading and the codes of the block as handed on
--     reader-read           the same of a reader with the true tables
-- Assumes nothing.
use mathlib.Core.Path.{◌≡◌, refl, sym, ap, ap₂, ◌∙◌, subst}
use mathlib.Core.Bool.{Bool, true, cond}
use mathlib.Core.List.{List, ◌∷◌, ◌++◌}
use mathlib.Core.Option.{Option}
use Prim.Native.Nat.{ℕ, suc, ◌+◌, ◌-◌, ◌*◌, ◌/◌, ◌%◌, ◌^◌, ◌<◌, ◌≤◌}
use native.Mathlib.Nat.{zero-add, mod-lt, mod-eq_of_lt, mod_self, div_self}
use native.Mathlib.Omega.{arith}
use borrow.Author.Tests.{lt-ltb}
use lib.Bits.{bit_xor, xor_lt}
use lib.IntN.{ℤ}
use lib.ListN.{length, get_or, take, drop, set, length-drop, replicate-append-replicate}
use lib.Pow.{pow_pos, pow-lt}
use lib.Seq.{ext_get_or, get_or-take, get_or-drop, length-take-le, set_at, take-append-le, drop-append-le, drop-append-add, drop-drop}
use Rattle.bits.specs.Table.{tabulate}
use Rattle.bits.specs.Bits.{eight_at, byte_at, are_bits}
use Rattle.bits.specs.Digits.{value, digits, Below}
use Rattle.bits.proofs.Table.{length-tab, get_or-tab, tab-ext, tab-add}
use Rattle.bits.proofs.Bits.{bits_below, bit_below}
use Rattle.bits.proofs.Digits.{below-take, length_digits, below-digits, digits-cons, digits_low, digits-zero, digits_value, take-digits, drop-digits, value-append, value-digits, value-tab, value-tab-below}
use Rattle.remainder.specs.Polynomial.{◌⊕◌, zeros}
use Rattle.remainder.specs.Remainder.{remainder}
use Rattle.remainder.proofs.Sum.{length-zeros}
use Rattle.remainder.proofs.Division.{remainder-zeros}
use Rattle.remainder.proofs.Register.{digits-xor}
use Rattle.code.specs.Generators.{block_generator}
use Rattle.reading.specs.Reading.{Reading, handed, is_radius, largest_radius}
use Rattle.reading.specs.Search.{reading}
use Rattle.reading.specs.Wrong.{wrong_places, answer, turn, read_as, Within, column_numbers}
use Rattle.reading.specs.declared.Places.{Places}
use Rattle.reading.specs.declared.Places.TheVariants.{Zero, One, Two, Three, Nowhere}
use Rattle.reading.proofs.Few.{at}
use Rattle.reading.proofs.Answered.{turn_at, answer-there, answered-within, answered-reading}
use Rattle.reading.proofs.Radius.{chosen-wide, chosen-small}
use Rattle.sample.specs.Pattern.{signed_of, bits_code}
use Rattle.block.specs.Layout.{fourteen}
use Rattle.block.specs.Read.{said, protected, handed_on}
use Rattle.block_codes.specs.Codes.{code_at, codes_at}
use Rattle.code.proofs.Smallest.{block_size}
use Rattle.eights.specs.Eights.{remainders_of, word_by}
use Rattle.eights.proofs.Whole.{word-remainder, digits-front}
use Rattle.lookup.specs.Search.{places_by}
use Rattle.lookup.proofs.Wrong.{places-wrong}
use Rattle.pairs.specs.Pairs.{pair_table, place_table, start_table}
use Rattle.block.specs.Mark.{mark_of}
use Rattle.words.specs.Words.{word_of, turned_at, turned_all, mended_by, mark_by, righted, lower_in, code_in, told_with, told_by, told_in, true_reader, told_of, Tables}
use Rattle.words.specs.declared.Reader.{Reader}
use Rattle.words.specs.declared.Righted.{Righted}
use Rattle.words.specs.declared.Told.{Told}

pub read-parts : (table singles pairs places starts : List ℕ) (radius : ℕ) (bits : List ℕ) (word r : ℕ) (p : Places) (right : Righted) (codes : List ℤ)
    → word ≡ word_of bits → r ≡ word_by table word → answer p ≡ places_by singles pairs places starts radius r → right ≡ righted word (answer p)
    → codes ≡ tabulate 4 (code_in right.word bits)
    → ◌≡◌ {A = Told} (record { mark = right.mark; codes = codes }) (told_by table singles pairs places starts radius bits)
unfolding righted told_with told_by
read-parts table singles pairs places starts radius bits word r p right codes e f g h i =
    ap₂ (λ (m : ℕ) (cs : List ℤ). record { mark = m; codes = cs })
    (ap (λ (x : Righted). x.mark) h)
    (i ∙ ap (λ (w : ℕ). tabulate 4 (code_in w bits)) (ap (λ (x : Righted). x.word) h ∙ ap (λ (w : ℕ). mended_by w (answer p)) e))
    ∙ ap (told_with bits) (g ∙ ap (places_by singles pairs places starts radius) (f ∙ ap (word_by table) e))

-- ---- the word, eight bits at a time
module _ (bits : List ℕ) where
  abbrev pub digit : ℕ → ℕ
  digit k = get_or bits k 0 % 2

  pub first-seven : byte_at bits 0 / 2 ≡ value 2 (tabulate 7 digit)
  unfolding byte_at eight_at
  first-seven =
      let eight : byte_at bits 0 ≡ value 2 (tabulate 8 digit) = ap (value 2) (tab-ext 8 _ digit (λ j l. ap digit (zero-add j))) in
      omega (arith, eight, value-tab 2 7 digit)

  pub eight-more : (n word : ℕ) → word ≡ value 2 (tabulate n digit) → word * 256 + byte_at bits n ≡ value 2 (tabulate (n + 8) digit)
  unfolding byte_at eight_at
  eight-more n word e =
      ap (λ (w : ℕ). w * 256 + byte_at bits n) e
      ∙ sym
      (ap (value 2) (tab-add n 8 digit) ∙ value-append 2 (tabulate n digit) (tabulate 8 (λ k. digit (n + k)))
      ∙ ap (λ (m : ℕ). value 2 (tabulate n digit) * 2 ^ m + byte_at bits n) (length-tab 8 (λ k. digit (n + k))))

  pub word_below : (n word : ℕ) → word ≡ value 2 (tabulate n digit) → word < 2 ^ n
  word_below n word e = rw e (value-tab-below 2 n digit (λ k l. mod-lt (get_or bits k 0) (omega arith)))

-- ---- a digit turned
power-digits : (i : ℕ) → i < 63 → digits 2 63 (2 ^ (62 - i)) ≡ at 63 i
power-digits i h =
    let split : i + suc (62 - i) ≡ 63 = omega arith in
    let size : suc (62 - i) ≡ 63 - i = omega arith in
    let x : ℕ = 2 ^ (62 - i) in
    let small : x < 2 ^ suc (62 - i) = pow-lt {i = 62 - i} {j = suc (62 - i)} (omega arith) in
    ap (λ (n : ℕ). digits 2 n x) (sym split)
    ∙ digits-front i (suc (62 - i)) x small
    ∙ ap (λ (l : List ℕ). zeros i ++ l)
    (digits-cons (62 - i) x
    ∙ ap₂ (λ (b : ℕ) (l : List ℕ). b ∷ l) (ap (λ (n : ℕ). n % 2) (div_self (pow_pos (62 - i))))
    (sym (digits_low (62 - i) x) ∙ ap (digits 2 (62 - i)) (mod_self x) ∙ digits-zero (62 - i)))
    ∙ sym (set_at (zeros i) 0 (zeros (62 - i)) 1 i (length-zeros i))
    ∙ ap (λ (l : List ℕ). set l i 1) (replicate-append-replicate i (suc (62 - i)) 0 ∙ ap zeros split)

module _ (w i : ℕ) (small : w < 2 ^ 63) (within : i < 63) where
  turned-is : turned_at w i ≡ bit_xor w (2 ^ (62 - i))
  unfolding turned_at
  turned-is = ap (λ (b : Bool). cond b (bit_xor w (2 ^ (62 - i))) w) (lt-ltb i 63 within)

  pub turned-small : turned_at w i < 2 ^ 63
  turned-small = rw turned-is (xor_lt 63 w (2 ^ (62 - i)) small (pow-lt {i = 62 - i} {j = 63} (omega arith)))

  pub turned-digits : digits 2 63 (turned_at w i) ≡ turn (digits 2 63 w) i
  turned-digits =
      ap (digits 2 63) turned-is ∙ digits-xor 63 w (2 ^ (62 - i)) ∙ ap (λ (l : List ℕ). digits 2 63 w ⊕ l) (power-digits i within)
      ∙ turn_at (digits 2 63 w) 63 i (below-digits 2 63 w (omega arith)) (length_digits 2 63 w) within

-- ---- what an answer makes of the word
record Right (w : ℕ) (bits : List ℕ) (o : Option (List ℕ)) (p : Places) : Type 0 where
  small : mended_by w o < 2 ^ 63
  word : digits 2 63 (mended_by w o) ≡ handed bits (read_as bits p)
  mark : mark_by o ≡ mark_of (said (read_as bits p))

right : (w : ℕ) (bits : List ℕ) → w < 2 ^ 63 → digits 2 63 w ≡ bits → (p : Places) → Within p → Right w bits (answer p) p
unfolding turned_all mended_by mark_by answer read_as handed said mark_of Within
right w bits s e Zero l = record { small = s; word = e; mark = refl }
right w bits s e (One i) l = record { small = turned-small w i s l; word = turned-digits w i s l ∙ ap (λ (b : List ℕ). turn b i) e; mark = refl }
right w bits s e (Two i j) l =
    let first : i < 63 = omega (arith, l.0, l.1) in
    record {
      small = turned-small (turned_at w i) j (turned-small w i s first) l.1;
      word =
          turned-digits (turned_at w i) j (turned-small w i s first) l.1
          ∙ ap (λ (b : List ℕ). turn b j) (turned-digits w i s first ∙ ap (λ (b : List ℕ). turn b i) e);
      mark = refl;
    }
right w bits s e (Three i j k) l =
    let first : i < 63 = omega (arith, l.0, l.1, l.2) in
    let second : j < 63 = omega (arith, l.1, l.2) in
    let one : turned_at w i < 2 ^ 63 = turned-small w i s first in
    let two : turned_at (turned_at w i) j < 2 ^ 63 = turned-small (turned_at w i) j one second in
    record {
      small = turned-small (turned_at (turned_at w i) j) k two l.2;
      word =
          turned-digits (turned_at (turned_at w i) j) k two l.2
          ∙ ap (λ (b : List ℕ). turn b k)
          (turned-digits (turned_at w i) j one second ∙ ap (λ (b : List ℕ). turn b j) (turned-digits w i s first ∙ ap (λ (b : List ℕ). turn b i) e));
      mark = refl;
    }
right w bits s e Nowhere l = record { small = s; word = e; mark = refl }

-- ---- the code of a channel
module _ (w : ℕ) (bits : List ℕ) (size : length bits ≡ 77) (below : Below 2 bits) (c : ℕ) (within : c < 4) where
  abbrev block : List ℕ
  block = digits 2 63 w ++ drop 63 bits

  upper-there : take 11 (drop (11 * c) block) ≡ digits 2 11 (w / 2 ^ (52 - 11 * c))
  upper-there =
      let split : 11 * c + (11 + (52 - 11 * c)) ≡ 63 = omega arith in
      let word : List ℕ = digits 2 63 w in
      ap (take 11) (drop-append-le (11 * c) word (drop 63 bits) (omega (arith, length_digits 2 63 w)))
      ∙ take-append-le 11 (drop (11 * c) word) (drop 63 bits) (omega (arith, length-drop (11 * c) word, length_digits 2 63 w))
      ∙ ap (λ (n : ℕ). take 11 (drop (11 * c) (digits 2 n w))) (sym split)
      ∙ ap (take 11) (drop-digits 2 (11 * c) (11 + (52 - 11 * c)) w)
      ∙ take-digits 2 11 (52 - 11 * c) w

  lower-there : take 3 (drop (63 + 3 * c) block) ≡ tabulate 3 (λ k. get_or bits (63 + 3 * c + k) 0 % 2)
  lower-there =
      let f : ℕ → ℕ = λ k. get_or bits (63 + 3 * c + k) 0 % 2 in
      let from : List ℕ = drop (63 + 3 * c) bits in
      let three : length (take 3 from) ≡ 3 = length-take-le 3 from (omega (arith, length-drop (63 + 3 * c) bits)) in
      ap (take 3)
      (ap (λ (n : ℕ). drop (n + 3 * c) block) (sym (length_digits 2 63 w)) ∙ drop-append-add (digits 2 63 w) (drop 63 bits) (3 * c) ∙ drop-drop (3 * c) 63 bits)
      ∙ ext_get_or 0 (take 3 from) (tabulate 3 f) (three ∙ sym (length-tab 3 f))
      (λ k l.
      let h : k < 3 = omega (arith, three) in
      get_or-take 3 from k 0 h ∙ get_or-drop (63 + 3 * c) bits k 0 ∙ sym (mod-eq_of_lt (bit_below bits (63 + 3 * c + k) below)) ∙ sym (get_or-tab 3 f k 0 h))

  pub code-there : code_in w bits c ≡ code_at block c
  unfolding code_in lower_in code_at bits_code fourteen
  code-there =
      let lower : List ℕ = tabulate 3 (λ k. get_or bits (63 + 3 * c + k) 0 % 2) in
      ap (signed_of 8192)
      (sym
      (ap₂ (λ (u l : List ℕ). value 2 (u ++ l)) upper-there lower-there
      ∙ value-append 2 (digits 2 11 (w / 2 ^ (52 - 11 * c))) lower
      ∙ ap₂ (λ (v n : ℕ). v * 2 ^ n + value 2 lower) (value-digits 2 11 (w / 2 ^ (52 - 11 * c)) (omega arith)) (length-tab 3 (λ k. get_or bits (63 + 3 * c + k) 0 % 2))))

-- ---- the theorem
module _ (bits : List ℕ) (size : length bits ≡ 77) (are : are_bits bits ≡ true) where
  below : Below 2 bits
  below = bits_below bits are

  front : length (protected bits) ≡ 63
  front = length-take-le 63 bits (omega arith)

  front_below : Below 2 (protected bits)
  front_below = below-take 2 63 bits below

  word_small : word_of bits < 2 ^ 63
  unfolding word_of
  word_small = value-tab-below 2 63 (λ k. get_or bits k 0 % 2) (λ k l. mod-lt (get_or bits k 0) (omega arith))

  word-digits : digits 2 63 (word_of bits) ≡ protected bits
  unfolding word_of
  word-digits =
      let f : ℕ → ℕ = λ k. get_or bits k 0 % 2 in
      ap (λ (l : List ℕ). digits 2 63 (value 2 l))
      (ext_get_or 0 (tabulate 63 f) (protected bits) (length-tab 63 f ∙ sym front)
      (λ k l.
      let h : k < 63 = omega (arith, length-tab 63 f) in
      get_or-tab 63 f k 0 h ∙ mod-eq_of_lt (bit_below bits k below) ∙ sym (get_or-take 63 bits k 0 h)))
      ∙ digits_value 2 63 (protected bits) front_below front

  word-leaves : word_by (remainders_of block_generator) (word_of bits) ≡ value 2 (remainder block_generator (protected bits))
  word-leaves =
      let w : ℕ = word_of bits in
      word-remainder block_generator block_size w (omega (arith, word_small))
      ∙ ap (λ (l : List ℕ). value 2 (remainder block_generator l)) (digits-front 1 63 w word_small)
      ∙ ap (value 2) (remainder-zeros block_generator 1 (digits 2 63 w) ∙ ap (remainder block_generator) word-digits)

  abbrev r : ℕ
  r = word_by (remainders_of block_generator) (word_of bits)

  module _ (radius : ℕ) (chosen : is_radius radius ≡ true) where
    small : radius ≤ largest_radius
    small = chosen-small radius chosen

    o : Option (List ℕ)
    o = places_by column_numbers pair_table place_table start_table radius r

    is : o ≡ wrong_places radius r
    unfolding o
    is = places-wrong radius (chosen-wide radius chosen) small r

    p : Places
    p = (answer-there radius small r).0

    wrong : answer p ≡ wrong_places radius r
    unfolding p
    wrong = (answer-there radius small r).1

    reads : reading radius (protected bits) ≡ read_as (protected bits) p
    reads = answered-reading radius small (protected bits) r p front front_below word-leaves wrong

    made : Right (word_of bits) (protected bits) o p
    made =
        subst (λ (o : Option (List ℕ)). Right (word_of bits) (protected bits) o p) (wrong ∙ sym is)
        (right (word_of bits) (protected bits) word_small word-digits p (answered-within radius small r p wrong))

    true-read : told_by (remainders_of block_generator) column_numbers pair_table place_table start_table radius bits ≡ told_of radius bits
    unfolding told_by told_with told_of codes_at handed_on o
    true-read =
        let word : ℕ = mended_by (word_of bits) o in
        let hands : digits 2 63 word ++ drop 63 bits ≡ cond (are_bits bits) (handed (protected bits) (reading radius (protected bits)) ++ drop 63 bits) bits =
        ap (λ (l : List ℕ). l ++ drop 63 bits) (made.word ∙ ap (handed (protected bits)) (sym reads))
        ∙ sym (ap (λ (b : Bool). cond b (handed (protected bits) (reading radius (protected bits)) ++ drop 63 bits) bits) are) in
        ap₂ (λ (m : ℕ) (cs : List ℤ). record { mark = m; codes = cs })
        (made.mark ∙ ap (λ (x : Reading). mark_of (said x)) (sym reads))
        (tab-ext 4 (code_in word bits) (code_at _) (λ c l. code-there word bits size below c l ∙ ap (λ (b : List ℕ). code_at b c) hands))

    pub told-read : (table singles pairs places starts : List ℕ) → Tables table singles pairs places starts
        → told_by table singles pairs places starts radius bits ≡ told_of radius bits
    told-read table singles pairs places starts t = rw (t.eights, t.ones, t.twos, t.beside, t.index) true-read

    pub reader-read : (t : Reader) → t ≡ true_reader → told_in t radius bits ≡ told_of radius bits
    reader-read t e = rw e (told-read _ _ _ _ _ (record { eights = refl; ones = refl; twos = refl; beside = refl; index = refl }))
