-- What taking a superframe does with its service bits (document 01, "Superframe", "Service groups").
--     taken-range, taken-radius     a superframe is taken from a state in range alone, and at a radius that may be chosen alone
--     serves                THE SERVICE of a superframe that is taken: that of its six bytes and its sync, from the state given
-- Assumes nothing.
use mathlib.Core.Path.{◌≡◌, refl, sym, ap, ◌∙◌}
use mathlib.Core.Bool.{true}
use mathlib.Core.List.{List}
use Prim.Native.Nat.{ℕ}
use native.Mathlib.Omega.{arith}
use lib.IntN.{ℤ}
use Rattle.std.specs.declared.result.Result.{Result}
use Rattle.std.specs.declared.result.Result.TheVariants.{Ok}
use Rattle.bits.specs.declared.refusal.Refusal.{Refusal}
use Rattle.bits.proofs.Refused.{unrefused}
use Rattle.reading.specs.Reading.{is_radius}
use Rattle.tape.specs.Tape.{wrong_bits, blocks_of}
use Rattle.superframe.specs.State.{state_in_range, serviced_with}
use Rattle.superframe.specs.Take.{beside_with, take_answer, outcome, number_told, handed, Took}
use Rattle.superframe.specs.Document.{Serves}
use Rattle.superframe.specs.declared.state.State.{State}
use Rattle.superframe.specs.declared.taking.Taken.{Taken}
use Rattle.superframe.specs.declared.taking.NotTaken.{NotTaken}
use Rattle.superframe.proofs.Served.{accepted-is}
use Rattle.superframe.proofs.Refusals.{told, ranged, chosen}

module _ (radius : ℕ) (s : State) (sf : List ℕ) (samples : List ℤ) (marks : List ℕ) (r : Result Taken NotTaken) (samples' : List ℤ) (marks' : List ℕ) (t : Took radius s sf samples marks r samples' marks')
    (z : number_told r ≡ 0) where
  pub taken-range : state_in_range s ≡ true
  taken-range = ranged radius s sf samples marks r samples' marks' t (λ e. omega (arith, z, e)) (λ e. omega (arith, z, e))

  pub taken-radius : is_radius radius ≡ true
  taken-radius = chosen radius s sf samples marks r samples' marks' t (λ e. omega (arith, z, e)) (λ e. omega (arith, z, e))

  pub taken-answer : r ≡ Ok (beside_with s sf (wrong_bits sf) (blocks_of radius sf))
  taken-answer =
      t.answer
      ∙ ap (λ (o : Result Unit Refusal). take_answer radius o s sf)
      (sym (told radius s sf samples marks r samples' marks' t) ∙ (unrefused (outcome r) z).1)

  -- a state in range: what six service bytes and a sync are answered
  pub serves : Serves s sf (handed r)
  unfolding beside_with serviced_with
  serves =
      rw taken-answer
      (record { six = refl; served = rw (taken-range, accepted-is s sf taken-range) (record { position = refl; kind = refl; labels = refl; next = refl }) })
