-- The numbers of a superframe's bytes, in document 01's order.
--     tells-sync            the test of the 128 syncs tells whether one is wrong
--     sync-order            the number of the bytes alone: 1 for another length, then 3 for a wrong sync
--     counts-order, refused-empty     so counting refuses, and counts nothing then
-- Assumes nothing.
use mathlib.Core.Path.{◌≡◌, refl, sym, subst, ◌∙◌}
use mathlib.Core.Bool.{true, false, true≢false}
use mathlib.Core.Logic.{◌≢◌}
use mathlib.Core.List.{List}
use Prim.Native.Nat.{ℕ, ◌<◌}
use native.Mathlib.Omega.{arith}
use borrow.Author.Tests.{leb-false}
use lib.Dec.{leb}
use lib.ListN.{length}
use Rattle.std.specs.declared.result.Result.{Result}
use Rattle.std.specs.declared.result.Result.TheVariants.{Ok, Err}
use Rattle.bits.specs.Refused.{number_in}
use Rattle.bits.specs.declared.refusal.Refusal.{Refusal}
use Rattle.bits.specs.Table.{tabulate}
use Rattle.bits.specs.Order.{Refused, Accepted}
use Rattle.bits.proofs.Table.{length-tab, get_or-tab}
use Rattle.bits.proofs.Every.{every-missed}
use Rattle.bits.proofs.Order.{Tells, tells-length, tested}
use Rattle.reading.specs.Reading.{ordinary}
use Rattle.frame.specs.Read.{most_wrong}
use Rattle.tape.specs.Tape.{wrong_at, synced, no_blocks, wrong_told, blocks_told, counted_with, sync_number, syncs_of, counts_of}
use Rattle.tape.specs.Faults.{WrongSync, frame}
use Rattle.tape.proofs.Tape.{not-sync, syncs-number}

module _ (sf : List ℕ) where
  found : synced sf ≡ false → WrongSync sf
  unfolding synced
  found e =
      let m = every-missed (λ n. leb n most_wrong) (tabulate 128 (wrong_at sf)) 0 e in
      let within : m.place < 128 = omega (arith, m.there, length-tab 128 (wrong_at sf)) in
      frame m.place within (leb-false (wrong_at sf m.place) most_wrong (rw (get_or-tab 128 (wrong_at sf) m.place 0 within) at m.fails))

  none : synced sf ≡ true → WrongSync sf → ⊥
  none e (frame f l h) = true≢false (sym e ∙ not-sync sf f l h)

  pub tells-sync : Tells (WrongSync sf) (synced sf)
  tells-sync = record { there = found; away = none }

  pub sync-order : Refused (length sf ≢ 5120) 1 (Refused (WrongSync sf) 3 Accepted) (sync_number sf)
  unfolding sync_number
  sync-order = tested _ _ (tells-length (length sf) 5120) (tested _ _ tells-sync refl)

  counted-number : (radius : ℕ) (s : Result ℕ Refusal) → number_in (counted_with radius s sf) ≡ number_in s
  counted-number radius (Ok w) = refl
  counted-number radius (Err e) = refl

  pub counts-order : Refused (length sf ≢ 5120) 1 (Refused (WrongSync sf) 3 Accepted) (number_in (counts_of sf))
  unfolding counts_of
  counts-order = subst (Refused (length sf ≢ 5120) 1 (Refused (WrongSync sf) 3 Accepted)) (sym (counted-number ordinary (syncs_of sf) ∙ syncs-number sf)) sync-order

  empty : (s : Result ℕ Refusal) → (number_in (counted_with ordinary s sf) ≢ 0) → (wrong_told (counted_with ordinary s sf) ≡ 0) × (blocks_told (counted_with ordinary s sf) ≡ no_blocks)
  empty (Ok w) h = absurd (h refl)
  empty (Err e) h = (refl, refl)

  pub refused-empty : (number_in (counts_of sf) ≢ 0) → (wrong_told (counts_of sf) ≡ 0) × (blocks_told (counts_of sf) ≡ no_blocks)
  unfolding counts_of
  refused-empty h = empty (syncs_of sf) h
