-- Laws of places that are filled in order.
--     before-kept, at-comes, behind-none      what `in_order` holds before the place that is filled, at it, and behind it
--     was-alike                               what is held behind the place is not looked at
--     zeros-get_or                              places that carry nothing hold 0
-- Assumes nothing.
use mathlib.Core.Path.{◌≡◌, refl}
use Prim.Native.Nat.{ℕ, ◌<◌}
use native.Mathlib.Omega.{arith}
use lib.ListN.{get_or, get_or-replicate}
use mathlib.Core.Bool.{Bool, true, false, cond}
use lib.Dec.{eqb, ltb}
use Rattle.bits.specs.Table.{zeros}
use borrow.Author.Tests.{ltb-true, lt-ltb, le-ltb, eq-eqb, ne_eqb}
use Rattle.service_group.specs.Places.{in_order}

module _ (at place was comes : ℕ) where
  pub before-kept : place < at → in_order at place was comes ≡ was
  unfolding in_order
  before-kept h = rw (lt-ltb place at h)

  pub at-comes : place ≡ at → in_order at place was comes ≡ comes
  unfolding in_order
  at-comes h = rw (le-ltb place at (omega arith), eq-eqb place at h)

  pub behind-none : at < place → in_order at place was comes ≡ 0
  unfolding in_order
  behind-none h = rw (le-ltb place at (omega arith), ne_eqb place at (λ e. omega arith))

pub was-alike : (at place was was' comes : ℕ) → (place < at → was ≡ was') → in_order at place was comes ≡ in_order at place was' comes
unfolding in_order
was-alike at place was was' comes h = by-test (ltb place at) refl where
  by-test : (b : Bool) → ltb place at ≡ b → cond b was (cond (eqb place at) comes 0) ≡ cond b was' (cond (eqb place at) comes 0)
  by-test true e = h (ltb-true place at e)
  by-test false e = refl

pub zeros-get_or : (n i : ℕ) → i < n → get_or (zeros n) i 0 ≡ 0
zeros-get_or n i h = get_or-replicate n i 0 0 h
