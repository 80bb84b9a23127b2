-- Any two results that meet a promise are the same.
--     same              two things that equal a third, as every promise that is an equation has it
--     same-through      where g takes back what f says, two results of which f says the same are the same
-- Then, for each public function, `FUNCTION-unique`. Assumes nothing.
use mathlib.Core.Path.{◌≡◌, sym, ap, ◌∙◌}
use mathlib.Core.Bool.{Bool}
use mathlib.Core.List.{List}
use Prim.Native.Nat.{ℕ, ◌<◌}
use lib.ListN.{get_or}
use Rattle.bits.specs.declared.refusal.Refusal.{Refusal}
use Rattle.bits.specs.Refused.{number_of}
use Rattle.bits.specs.Bits.{bit_at, byte_at, all_below, are_bits}

pub same : {A : Type 0} {r r' v : A} → r ≡ v → r' ≡ v → r ≡ r'
same p q = p ∙ sym q

pub same-through : {A R : Type 0} (f : R → A) (g : A → R) → ((r : R) → g (f r) ≡ r) → (r r' : R) {a : A} → f r ≡ a → f r' ≡ a → r ≡ r'
same-through f g back r r' p q = sym (back r) ∙ ap g (p ∙ sym q) ∙ back r'

module _ (r r' : ℕ) (l : List ℕ) (k : ℕ) where
  pub byte-of-unique : r ≡ get_or l k 0 → r' ≡ get_or l k 0 → r ≡ r'
  byte-of-unique = same

  pub bit-of-unique : r ≡ bit_at l k → r' ≡ bit_at l k → r ≡ r'
  bit-of-unique = same

  pub byte-from-unique : r ≡ byte_at l k → r' ≡ byte_at l k → r ≡ r'
  byte-from-unique = same

pub wide-unique : (r r' b : ℕ) → (r ≡ b) × (r < 256) → (r' ≡ b) × (r' < 256) → r ≡ r'
wide-unique r r' b p q = same p.0 q.0

pub are-bits-unique : (r r' : Bool) (l : List ℕ) → r ≡ are_bits l → r' ≡ are_bits l → r ≡ r'
are-bits-unique r r' l = same

pub all-below-unique : (r r' : Bool) (b : ℕ) (l : List ℕ) → r ≡ all_below b l → r' ≡ all_below b l → r ≡ r'
all-below-unique r r' b l = same

pub number-unique : (r r' : ℕ) (e : Refusal) → r ≡ number_of e → r' ≡ number_of e → r ≡ r'
number-unique r r' e = same
