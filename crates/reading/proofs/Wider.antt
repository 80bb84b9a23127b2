-- What readings of the same 63 bits at two radii have in common.
--     wider-reads           a reading that is not bad is one at every larger radius too
--     wider-same            where the reading at one radius is not bad, that at a larger one is the same
--     next_word, word_next  a reading turns one place more than the smaller radius exactly where that radius gives bad and a code word lies so far away
-- Assumes nothing.
use mathlib.Core.Path.{◌≡◌, refl, sym, ap, ◌∙◌, subst}
use mathlib.Core.List.{List}
use Prim.Native.Nat.{ℕ, suc, ◌≤◌}
use native.Mathlib.Omega.{arith}
use lib.ListN.{length}
use Rattle.bits.specs.Digits.{Below}
use Rattle.code.specs.Words.{CodeWord, distance}
use Rattle.reading.specs.Reading.{Reading, clean, mended, bad, Reads, largest_radius}
use Rattle.reading.specs.Search.{reading}
use Rattle.reading.proofs.Fixed.{reading-reads, reading-is}

pub wider-reads : (a b : ℕ) (w : List ℕ) (r : Reading) → a ≤ b → (r ≡ bad → ⊥) → Reads a w r → Reads b w r
unfolding Reads
wider-reads a b w clean h n p = p
wider-reads a b w (mended k c) h n p = (p.0, p.1, p.2, omega (arith, p.3))
wider-reads a b w bad h n p = absurd (n refl)

never : {A : Type 0} → ◌≡◌ {A = ℕ} 0 1 → A
never e = absurd (omega (arith, e))

places : Reading → ℕ
places clean = 0
places (mended n c) = n
places bad = 0

module _ (w : List ℕ) (sized : length w ≡ 63) (bits : Below 2 w) where
  pub wider-same : (a b : ℕ) → a ≤ b → b ≤ largest_radius → (reading a w ≡ bad → ⊥) → reading b w ≡ reading a w
  wider-same a b h small n = reading-is b w small sized bits (reading a w) (wider-reads a b w (reading a w) h n (reading-reads a w sized bits))

  few-places : (a : ℕ) (r : Reading) → Reads a w r → places r ≤ a
  unfolding Reads places
  few-places a clean h = omega arith
  few-places a (mended n c) h = h.3
  few-places a bad h = omega arith

  module _ (a : ℕ) (small : suc a ≤ largest_radius) where
    not-clean : (c : List ℕ) → reading (suc a) w ≡ mended (suc a) c → (r : Reading) → reading a w ≡ r → r ≡ bad
    unfolding places
    not-clean c e bad q = refl
    not-clean c e clean q =
        let same : mended (suc a) c ≡ clean = sym e ∙ wider-same a (suc a) (omega arith) small (λ z. let other = sym q ∙ z in never (cc)) ∙ q in
        absurd (omega (arith, ap places same))
    not-clean c e (mended n d) q =
        let same : mended (suc a) c ≡ mended n d = sym e ∙ wider-same a (suc a) (omega arith) small (λ z. let other = sym q ∙ z in never (cc)) ∙ q in
        let few : n ≤ a = few-places a (mended n d) (subst (Reads a w) q (reading-reads a w sized bits)) in
        absurd (omega (arith, few, ap places same))

    pub next_word : (c : List ℕ) → reading (suc a) w ≡ mended (suc a) c → (reading a w ≡ bad) × (CodeWord c × (distance c w ≡ suc a))
    unfolding Reads
    next_word c e =
        let h = subst (Reads (suc a) w) e (reading-reads (suc a) w sized bits) in
        (not-clean c e (reading a w) refl, (h.0, h.1))

    pub word_next : (c : List ℕ) → CodeWord c → distance c w ≡ suc a → reading (suc a) w ≡ mended (suc a) c
    unfolding Reads
    word_next c cw d = reading-is (suc a) w small sized bits (mended (suc a) c) (cw, d, omega arith, omega arith)
