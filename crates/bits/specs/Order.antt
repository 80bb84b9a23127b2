-- The order of refusals (document 01, "Numbers given": "Order 1, 2, 3"), said once for any function that refuses with more than one number: each fault with its
-- number, in the order in which they are looked for. Of a superframe that is taken: Refused length 1 (Refused range 2 (Refused full 9 (Refused sync 3 Accepted))).
--     Refused fault k rest n      n is the number answered: k where the fault is there, whatever else is wrong; without it, what the rest of the order says
--     Accepted n                  the end of an order: no fault, 0
use Rattle.std.specs.Prelude.{◌≡◌, ℕ}

pub record Refused (fault : Type 0) (k : ℕ) (rest : ℕ → Type 0) (n : ℕ) : Type 0 where
  pub there : fault → n ≡ k
  pub away : (fault → ⊥) → rest n

abbrev pub Accepted : ℕ → Type 0
Accepted n = n ≡ 0
