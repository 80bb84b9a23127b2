-- The remainder is the remainder, for every generator and so for every degree.
--     length-product        how long a product is
--     divided               THE LAW: a word is a multiple of the generator and its remainder
--     remainder-product     a multiple of the generator leaves zero
--     divided-only          and nothing else is a remainder
-- Assumes nothing.
use mathlib.Core.Path.{◌≡◌, refl, sym, ap, ap₂, ◌∙◌}
use mathlib.Core.List.{List, [], ◌∷◌, ◌++◌, append_assoc, append-nil}
use Prim.Native.Nat.{ℕ, zero, suc, ◌+◌, ◌<◌}
use native.Mathlib.Nat.{suc_inj, suc-ne-zero}
use native.Mathlib.Omega.{arith}
use lib.ListN.{length, length-append}
use Rattle.bits.specs.Digits.{Below}
use Rattle.bits.proofs.Digits.{below-append}
use Rattle.bits.proofs.Table.{length-snoc}
use Rattle.remainder.specs.Polynomial.{◌⊕◌, zeros, times}
use Rattle.remainder.specs.Remainder.{take_off, step, divide, remainder}
use Rattle.remainder.specs.Divided.{product, Divided}
use Rattle.remainder.proofs.Sum.{cons, length-⊕, ⊕-append, ⊕-assoc, ⊕-comm, ⊕-zeros, zeros-⊕, ⊕-self, length-zeros, below-zeros, length-times, times_zero}
use Rattle.remainder.proofs.Division.{length-step, below_step, length-remainder, below-remainder, remainder-⊕, remainder-zero, remainder-zeros, remainder-more, remainder-short}

module _ (g : List ℕ) where
  shifted : (x : ℕ) (q : List ℕ) → length (times x (1 ∷ g) ++ zeros (length q)) ≡ suc (length q + length g)
  shifted x q =
      length-append (times x (1 ∷ g)) (zeros (length q)) ∙ ap₂ ◌+◌ (length-times x (1 ∷ g)) (length-zeros (length q)) ∙ omega arith

  pub length-product : (q : List ℕ) → length (product g q) ≡ length q + length g
  unfolding product
  length-product [] = length-zeros (length g) ∙ omega arith
  length-product (x ∷ q) =
      length-⊕ (times x (1 ∷ g) ++ zeros (length q)) (0 ∷ product g q) (shifted x q ∙ ap suc (sym (length-product q))) ∙ shifted x q ∙ omega arith

  -- what the generator was taken off from, put together again
  together : (x : ℕ) (t : List ℕ) → Below 2 t → length t ≡ length g → times x g ⊕ (t ⊕ times x g) ≡ t
  together x t b h =
      ap (λ (l : List ℕ). times x g ⊕ l) (⊕-comm t (times x g)) ∙ sym (⊕-assoc (times x g) (times x g) t)
      ∙ ap (λ (l : List ℕ). l ⊕ t) (⊕-self (times x g) ∙ ap zeros (length-times x g)) ∙ zeros-⊕ t (length g) b h

  module _ (x : ℕ) (t w q rest : List ℕ) (bit : x < 2) (bt : Below 2 t) (bw : Below 2 w) (ht : length t ≡ length g) (hq : length q ≡ length w) where
    front : (times x (1 ∷ g) ++ zeros (length q)) ⊕ (0 ∷ ((t ⊕ times x g) ++ w)) ≡ x ∷ (t ++ w)
    unfolding times ◌⊕◌
    front =
        cons (omega arith)
        (⊕-append (times x g) (t ⊕ times x g) (zeros (length q)) w
        (length-times x g ∙ sym ht ∙ sym (length-⊕ t (times x g) (ht ∙ sym (length-times x g))))
        ∙ ap₂ ◌++◌ (together x t bt ht) (zeros-⊕ w (length q) bw (sym hq)))

    one_more : (t ⊕ times x g) ++ w ≡ product g q ⊕ (zeros (length w) ++ rest) → x ∷ (t ++ w) ≡ product g (x ∷ q) ⊕ (zeros (suc (length w)) ++ rest)
    unfolding product ◌⊕◌
    one_more e =
        sym front ∙ ap (λ (l : List ℕ). (times x (1 ∷ g) ++ zeros (length q)) ⊕ (0 ∷ l)) e
        ∙ sym (⊕-assoc (times x (1 ∷ g) ++ zeros (length q)) (0 ∷ product g q) (0 ∷ (zeros (length w) ++ rest)))

  record Along (r w : List ℕ) : Type 0 where
    q : List ℕ
    sized : length q ≡ length w
    bits : Below 2 q
    whole : r ++ w ≡ product g q ⊕ (zeros (length w) ++ divide g r w)

  along : (r w : List ℕ) → length r ≡ length g → Below 2 r → Below 2 w → Along r w
  unfolding divide step take_off product Below
  along r [] h b bw = record { q = []; sized = refl; bits = tt; whole = append-nil r ∙ sym (zeros-⊕ r (length g) b h) }
  along [] (b ∷ w) h br bw =
      let next = along (step g [] b) w (length-step g [] b h) (below_step g [] b) bw.1 in
      record {
        q = b ∷ next.q;
        sized = ap suc next.sized;
        bits = (bw.0, next.bits);
        whole = one_more b [] w next.q (divide g (step g [] b) w) bw.0 tt bw.1 h next.sized next.whole;
      }
  along (x ∷ r) (b ∷ w) h br bw =
      let next = along (step g (x ∷ r) b) w (length-step g (x ∷ r) b h) (below_step g (x ∷ r) b) bw.1 in
      let t : List ℕ = r ++ (b ∷ []) in
      record {
        q = x ∷ next.q;
        sized = ap suc next.sized;
        bits = (br.0, next.bits);
        whole =
            ap (λ (l : List ℕ). x ∷ l) (sym (append_assoc r (b ∷ []) w))
            ∙ one_more x t w next.q (divide g (step g (x ∷ r) b) w) br.0 (below-append 2 r (b ∷ []) br.1 (bw.0, tt)) bw.1
            (length-snoc r b ∙ h) next.sized next.whole;
      }

  pub divided : (w : List ℕ) → Below 2 w → (q : List ℕ) × Divided g w q (remainder g w)
  unfolding remainder
  divided w b =
      let all = along (zeros (length g)) w (length-zeros (length g)) (below-zeros (length g)) b in
      (all.q, record { quotient-size = all.sized; quotient-bits = all.bits; size = length-remainder g w; bits = below-remainder g w; whole = all.whole })

  -- ---- nothing else
  -- the register fills up behind x, and the generator is taken off once
  off : (k x : ℕ) (a c : List ℕ) → Below 2 (x ∷ a) → Below 2 c → k + suc (length a) ≡ length g → length c ≡ suc k
      → divide g (zeros k ++ (x ∷ a)) c ≡ (a ++ c) ⊕ times x g
  unfolding divide step take_off Below
  off zero x a [] ba bc h l = absurd (suc-ne-zero _ (sym l))
  off zero x a (d ∷ []) ba bc h l = refl
  off zero x a (d ∷ e ∷ c) ba bc h l = absurd (suc-ne-zero _ (suc_inj l))
  off (suc k) x a [] ba bc h l = absurd (suc-ne-zero _ (sym l))
  off (suc k) x a (d ∷ c) ba bc h l =
      ap (λ (l : List ℕ). divide g l c)
      (ap₂ ◌⊕◌ (append_assoc (zeros k) (x ∷ a) (d ∷ [])) (times_zero g)
      ∙ ⊕-zeros (zeros k ++ (x ∷ (a ++ (d ∷ [])))) (length g) (below-append 2 (zeros k) (x ∷ (a ++ (d ∷ []))) (below-zeros k) more) size)
      ∙ off k x (a ++ (d ∷ [])) c more bc.1 (ap (λ (n : ℕ). k + suc n) (length-snoc a d) ∙ omega arith ∙ h) (suc_inj l)
      ∙ ap (λ (l : List ℕ). l ⊕ times x g) (append_assoc a (d ∷ []) c)
    where
      more : Below 2 (x ∷ (a ++ (d ∷ [])))
      more = (ba.0, below-append 2 a (d ∷ []) ba.1 (bc.0, tt))

      size : length (zeros k ++ (x ∷ (a ++ (d ∷ [])))) ≡ length g
      size =
          length-append (zeros k) (x ∷ (a ++ (d ∷ []))) ∙ ap₂ ◌+◌ (length-zeros k) (ap suc (length-snoc a d)) ∙ omega arith ∙ h

  first_off : (n x : ℕ) (c : List ℕ) → n ≡ length g → x < 2 → Below 2 c → length c ≡ n → divide g (zeros n) (x ∷ c) ≡ c ⊕ times x g
  unfolding divide step take_off Below ◌⊕◌
  first_off zero x [] h b bc l = refl
  first_off zero x (d ∷ c) h b bc l = absurd (suc-ne-zero _ l)
  first_off (suc n) x c h b bc l =
      ap (λ (l : List ℕ). divide g l c)
      (ap (λ (l : List ℕ). (zeros n ++ (x ∷ [])) ⊕ l) (times_zero g)
      ∙ ⊕-zeros (zeros n ++ (x ∷ [])) (length g) (below-append 2 (zeros n) (x ∷ []) (below-zeros n) (b, tt))
      (length-snoc (zeros n) x ∙ ap suc (length-zeros n) ∙ h))
      ∙ off n x [] c (b, tt) bc (omega arith ∙ h) l

  module _ (bg : Below 2 g) where
    below-times : (x : ℕ) (p : List ℕ) → x < 2 → Below 2 p → Below 2 (times x p)
    unfolding times Below
    below-times x [] b bp = tt
    below-times zero (y ∷ p) b bp = (omega arith, below-times zero p b bp.1)
    below-times (suc zero) (y ∷ p) b bp = let l : y < 2 = bp.0 in (omega arith, below-times (suc zero) p b bp.1)
    below-times (suc (suc x)) (y ∷ p) b bp = absurd (omega arith)

    generator-zero : (x : ℕ) → x < 2 → remainder g (times x (1 ∷ g)) ≡ zeros (length g)
    unfolding remainder times
    generator-zero x b =
        ap (λ (y : ℕ). divide g (zeros (length g)) (y ∷ times x g)) (omega arith)
        ∙ first_off (length g) x (times x g) refl b (below-times x g b bg) (length-times x g)
        ∙ ⊕-self (times x g) ∙ ap zeros (length-times x g)

    pub remainder-product : (q : List ℕ) → Below 2 q → remainder g (product g q) ≡ zeros (length g)
    unfolding product Below
    remainder-product [] b = remainder-short g (zeros (length g)) (below-zeros (length g)) (length-zeros (length g))
    remainder-product (x ∷ q) b =
        remainder-⊕ g (times x (1 ∷ g) ++ zeros (length q)) (0 ∷ product g q) (shifted x q ∙ ap suc (sym (length-product q)))
        ∙ ap₂ ◌⊕◌ (remainder-more g (length q) (times x (1 ∷ g)) (generator-zero x b.0)) (remainder-zero g (product g q) ∙ remainder-product q b.1)
        ∙ ⊕-zeros (zeros (length g)) (length g) (below-zeros (length g)) (length-zeros (length g))

    pub divided-only : (w q r : List ℕ) → Divided g w q r → r ≡ remainder g w
    divided-only w q r d =
        sym
        (sym (remainder-zeros g (length g) w) ∙ ap (remainder g) d.whole
        ∙ remainder-⊕ g (product g q) (zeros (length w) ++ r) sizes
        ∙ ap₂ ◌⊕◌ (remainder-product q d.quotient-bits) (remainder-zeros g (length w) r ∙ remainder-short g r d.bits d.size)
        ∙ zeros-⊕ r (length g) d.bits d.size)
      where
        sizes : length (product g q) ≡ length (zeros (length w) ++ r)
        sizes =
            length-product q ∙ ap₂ ◌+◌ (d.quotient-size ∙ sym (length-zeros (length w))) (sym d.size) ∙ sym (length-append (zeros (length w)) r)
