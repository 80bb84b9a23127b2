-- What the mark of a reading says.
--     mark-says         each mark exactly where the reading is so
--     mark-kind         what a block counts as by its mark is what its reading is
-- Assumes nothing.
use mathlib.Core.Path.{◌≡◌, refl, sym, ap, ◌∙◌}
use Prim.Native.Nat.{ℕ}
use native.Mathlib.Omega.{arith}
use borrow.Author.Tests.{eqb-true, eqb-false, eq-eqb, ne_eqb}
use lib.Dec.{eqb}
use Rattle.bits.proofs.Tests.{either_way}
use Rattle.block.specs.Read.{Said, clean, mended, bad}
use Rattle.block.specs.Mark.{mark_of, kind_of, counted_as, Marked}

never : {A : Type 0} → ◌≡◌ {A = ℕ} 0 1 → A
never e = absurd (omega arith)

number : Said → ℕ
number clean = 0
number (mended n) = n
number bad = 0

mended-mark : (n m : ℕ) → mark_of (mended n) ≡ m → (n ≡ 3 → m ≡ 4) × ((n ≡ 3 → ⊥) → m ≡ 1)
unfolding mark_of
mended-mark n m e = (λ t. sym e ∙ rw (eq-eqb n 3 t), λ t. sym e ∙ rw (ne_eqb n 3 t))

mended-says : (n m : ℕ) → mark_of (mended n) ≡ m → Marked (mended n) m
unfolding number
mended-says n m e =
    let h = mended-mark n m e in
    either_way (eqb n 3)
    (λ t.
    let three : n ≡ 3 = eqb-true n 3 t in
    let four : m ≡ 4 = h.0 three in
    record {
      zero-clean = λ z. absurd (omega arith);
      clean-zero = λ z. never (cc);
      one-mended = λ z. absurd (omega arith);
      mended-one = λ k. absurd (k.not_three (sym (ap number k.is) ∙ three));
      two-bad = λ z. absurd (omega arith);
      bad-two = λ z. never (cc);
      four-three = λ z. ap mended three;
      three-four = λ z. four;
    })
    (λ t.
    let other : n ≡ 3 → ⊥ = eqb-false n 3 t in
    let one : m ≡ 1 = h.1 other in
    record {
      zero-clean = λ z. absurd (omega arith);
      clean-zero = λ z. never (cc);
      one-mended = λ z. record { places = n; is = refl; not_three = other };
      mended-one = λ k. one;
      two-bad = λ z. absurd (omega arith);
      bad-two = λ z. never (cc);
      four-three = λ z. absurd (omega arith);
      three-four = λ z. absurd (other (ap number z));
    })

pub mark-says : (r : Said) → Marked r (mark_of r)
unfolding mark_of
mark-says clean =
    record {
      zero-clean = λ e. refl;
      clean-zero = λ e. refl;
      one-mended = λ e. absurd (omega arith);
      mended-one = λ m. never (let e = m.is in cc);
      two-bad = λ e. absurd (omega arith);
      bad-two = λ e. never (cc);
      four-three = λ e. absurd (omega arith);
      three-four = λ e. never (cc);
    }
mark-says (mended n) = mended-says n (mark_of (mended n)) refl
mark-says bad =
    record {
      zero-clean = λ e. absurd (omega arith);
      clean-zero = λ e. never (cc);
      one-mended = λ e. absurd (omega arith);
      mended-one = λ m. never (let e = m.is in cc);
      two-bad = λ e. refl;
      bad-two = λ e. refl;
      four-three = λ e. absurd (omega arith);
      three-four = λ e. never (cc);
    }

pub mark-kind : (r : Said) → counted_as (mark_of r) ≡ kind_of r
unfolding counted_as mark_of kind_of
mark-kind clean = refl
mark-kind (mended n) = either_way (eqb n 3) (λ t. rw t) (λ t. rw t)
mark-kind bad = refl
