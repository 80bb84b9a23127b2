-- Places that are filled in order, from 1 on: the positions of a group, the characters of a label.
--     in_order at place was comes  what a place holds once place `at` has its value: those before it what they had, those behind it nothing
use Rattle.std.specs.Prelude.{ℕ, cond, eqb, ltb}

unfoldable pub in_order : ℕ → ℕ → ℕ → ℕ → ℕ
in_order at place was comes = cond (ltb place at) was (cond (eqb place at) comes 0)
