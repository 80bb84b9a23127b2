-- Why a header is refused.
--     count_alone, offset_alone      a header that has one part of the given one, and is right otherwise
--     count-told, offset-told      whether that is refused tells whether the part is good
--     rest-told                    where both are, whether the header is refused tells whether it names no summary
--     is_whole                      whether an ending is that of a header with nothing wrong
--     err-refused                  reading a header is refused where its answer is a refusal
--     refused-told                 a header that something is wrong with is read as refused
--     fault-none                   nothing is wrong with a header exactly where reading it gives no number
-- Assumes nothing.
use mathlib.Core.Path.{◌≡◌, refl, sym, ap, ◌∙◌}
use mathlib.Core.Bool.{Bool, true, false, cond, not, ◌&&◌}
use mathlib.Core.List.{List, [], ◌∷◌}
use Prim.Native.Nat.{ℕ}
use lib.Dec.{eqb, leb}
use lib.ListN.{length, get_or}
use Rattle.bits.specs.Table.{tabulate}
use Rattle.bits.specs.Digits.{value}
use Rattle.bits.specs.Answer.{accepted, refused}
use Rattle.reel.specs.Header.{number_at, most_superframes, good_header, header_of, header_answer}
use Rattle.std.specs.Prelude.{Result, Ok, Err, is_err}
use Rattle.bits.specs.declared.refusal.Refusal.{Refusal}
use Rattle.bits.specs.declared.refusal.Refusal.TheVariants.{Length, Range, Sync, Scale, Parity, Header, Full}
use Rattle.reel.specs.declared.Header.{Header as Read}
use Rattle.ending.specs.declared.Fault.{Fault}
use Rattle.ending.specs.declared.Fault.TheVariants.{HeaderShort, CountTooLarge, OffsetTooSmall, HasSummary}
use Rattle.input.specs.Fault.{is_refused, fault_of}

abbrev pub count_alone : List ℕ → List ℕ
count_alone b = get_or b 0 0 ∷ get_or b 1 0 ∷ get_or b 2 0 ∷ get_or b 3 0 ∷ 0 ∷ 0 ∷ 0 ∷ 16 ∷ 0 ∷ 0 ∷ 0 ∷ 0 ∷ 0 ∷ 0 ∷ 0 ∷ 0 ∷ []

abbrev pub offset_alone : List ℕ → List ℕ
offset_alone b = 0 ∷ 0 ∷ 0 ∷ 0 ∷ get_or b 4 0 ∷ get_or b 5 0 ∷ get_or b 6 0 ∷ get_or b 7 0 ∷ 0 ∷ 0 ∷ 0 ∷ 0 ∷ 0 ∷ 0 ∷ 0 ∷ 0 ∷ []

-- a test alone, and beside others that hold
alone : (x : Bool) (l : List ℕ) → is_refused (cond x (accepted l) (refused 8)) ≡ not x
alone true l = refl
alone false l = refl

beside-true : (x : Bool) (l : List ℕ) → is_refused (cond (x && true) (accepted l) (refused 8)) ≡ not x
beside-true true l = refl
beside-true false l = refl

beside_two : (x : Bool) (l : List ℕ) → is_refused (cond ((x && true) && true) (accepted l) (refused 8)) ≡ not x
beside_two true l = refl
beside_two false l = refl

not-not : (x : Bool) → not (not x) ≡ x
not-not true = refl
not-not false = refl

module _ (bytes : List ℕ) (r : Bool) where
  pub count-told : r ≡ is_refused (header_of (count_alone bytes)) → leb (number_at bytes 0) most_superframes ≡ not r
  unfolding header_of good_header number_at value tabulate
  count-told e = sym (ap not (e ∙ beside_two (leb (number_at bytes 0) most_superframes) _) ∙ not-not _)

  pub offset-told : r ≡ is_refused (header_of (offset_alone bytes)) → leb 16 (number_at bytes 4) ≡ not r
  unfolding header_of good_header number_at value tabulate
  offset-told e = sym (ap not (e ∙ beside-true (leb 16 (number_at bytes 4)) _) ∙ not-not _)

  -- in a header whose other parts are good
  pub rest-told : leb 16 (length bytes) ≡ true → leb (number_at bytes 0) most_superframes ≡ true → leb 16 (number_at bytes 4) ≡ true
      → r ≡ is_refused (header_of bytes) → eqb (number_at bytes 8) 0 && eqb (number_at bytes 12) 0 ≡ not r
  unfolding header_of good_header
  rest-told long count offset e =
      let x : Bool = eqb (number_at bytes 8) 0 && eqb (number_at bytes 12) 0 in
      let left : is_refused (header_of bytes) ≡ not x = rw (long, count, offset) (alone x (number_at bytes 0 ∷ number_at bytes 4 ∷ [])) in
      sym (ap not (e ∙ left) ∙ not-not x)

abbrev pub is_whole : Result Unit Fault → Bool
is_whole (Ok tt) = true
is_whole (Err e) = false

-- by the tests of its four parts
abbrev judged : (length count offset summary : Bool) → Result Unit Fault
judged length count offset summary =
    cond length (cond count (cond offset (cond summary (Ok tt) (Err HasSummary)) (Err OffsetTooSmall)) (Err CountTooLarge)) (Err HeaderShort)

by_parts : (length count offset summary : Bool) (l : List ℕ)
    → is_refused (cond (length && ((count && offset) && summary)) (accepted l) (refused 8))
    ≡ not (is_whole (judged length count offset summary))
by_parts true true true true l = refl
by_parts true true true false l = refl
by_parts true true false s l = refl
by_parts true false o s l = refl
by_parts false c o s l = refl

pub fault-none : (bytes : List ℕ) → is_refused (header_of bytes) ≡ not (is_whole (fault_of bytes))
unfolding header_of good_header fault_of
fault-none bytes =
    by_parts (leb 16 (length bytes)) (leb (number_at bytes 0) most_superframes) (leb 16 (number_at bytes 4))
    (eqb (number_at bytes 8) 0 && eqb (number_at bytes 12) 0) _

by_fault : (length count offset summary : Bool) (l : List ℕ) (e : Fault)
    → judged length count offset summary ≡ Err e
    → cond (length && ((count && offset) && summary)) (accepted l) (refused 8) ≡ refused 8
by_fault true true true true l e h = cc
by_fault true true true false l e h = refl
by_fault true true false s l e h = refl
by_fault true false o s l e h = refl
by_fault false c o s l e h = refl

pub refused-told : (bytes : List ℕ) (e : Fault) → fault_of bytes ≡ Err e → header_of bytes ≡ refused 8
unfolding header_of good_header fault_of
refused-told bytes =
    by_fault (leb 16 (length bytes)) (leb (number_at bytes 0) most_superframes) (leb 16 (number_at bytes 4))
    (eqb (number_at bytes 8) 0 && eqb (number_at bytes 12) 0) _

pub err-refused : (r : Result Read Refusal) → is_err r ≡ is_refused (header_answer r)
err-refused (Ok h) = refl
err-refused (Err Length) = refl
err-refused (Err Range) = refl
err-refused (Err Sync) = refl
err-refused (Err Scale) = refl
err-refused (Err Parity) = refl
err-refused (Err Header) = refl
err-refused (Err Full) = refl
