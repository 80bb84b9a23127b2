-- The machine as document 01, "Service groups", tells it: one law for each of its sentences, over the whole step.
--     InRange, in-range-true, in-range-fact      the range as a fact, and as the test has it
--     opened                   a group at its first position, with labels searched for
--     served-is                an accepted step: the six bytes first, then the sync
--     position-kept            the six bytes are handed on with the position that they came with
--     first-opens              Sync 1 starts a group at position 1
--     first-drops              a Sync 1 before position 8 drops the open group, and starts one
--     second-continues         Sync 2 continues the open group
--     second-dropped           a Sync 2 with no group open, or after position 8, is dropped
--     neither-searches         a sync that is neither gives 7, drops, and sets searching
--     separator-found, no-separator, group-brings, eighth-ends      what the group does that position 8 completes, by the stage
-- Assumes nothing.
use mathlib.Core.Path.{◌≡◌, refl, ◌∙◌}
use mathlib.Core.Logic.{◌⊎◌, inr}
use mathlib.Core.Bool.{Bool, true, false, cond}
use mathlib.Core.List.{List}
use Prim.Native.Nat.{ℕ, ◌+◌, ◌<◌, ◌≤◌}
use native.Mathlib.Omega.{arith}
use lib.Dec.{leb}
use Rattle.bits.specs.Table.{zeros}
use borrow.Author.Tests.{leb-true, le-leb, lt-ltb}
use Rattle.bits.specs.Digits.{Below}
use Rattle.bits.specs.Bits.{all_below}
use Rattle.service_group.specs.Six.{group_after, separates}
use Rattle.std.specs.declared.option.Option.TheVariants.{Some}
use Rattle.std.specs.declared.result.Result.TheVariants.{Ok}
use Rattle.std.specs.Result.{IsOkAnd}
use Rattle.service_sync.specs.Sync.{sync1, sync2, kind_of, drops_with, number_of}
use Rattle.service.specs.Taking.{take_six, take_sync}
use Rattle.service.specs.Service.{in_range, accepts, step_by, served, searching_service}
use Rattle.service.specs.declared.Service.{Service}
use Rattle.service_sync.specs.declared.Kind.TheVariants.{First, Second}
use Rattle.bits.proofs.Tests.{both, both_left, both_right}
use Rattle.bits.proofs.Bits.{below_all}
use Rattle.service_group.proofs.Groups.{separator-starts, none-starts, stage-grows, stage-ends, eighth-ready}
use Rattle.service_sync.proofs.Syncs.{open-true, open-false, first_kind, second-kind, neither-kind}

pub record InRange (s : Service) : Type 0 where
  pub position : s.position ≤ 8
  pub stage : s.stage ≤ 8

pub in-range-true : (s : Service) → InRange s → in_range s ≡ true
unfolding in_range
in-range-true s h = both _ _ (le-leb s.position 8 h.position) (le-leb s.stage 8 h.stage)

pub in-range-fact : (s : Service) → in_range s ≡ true → InRange s
unfolding in_range
in-range-fact s h =
    record {
      position = leb-true s.position 8 (both_left (leb s.position 8) (leb s.stage 8) h);
      stage = leb-true s.stage 8 (both_right (leb s.position 8) (leb s.stage 8) h);
    }

abbrev pub opened : Service
opened = record { position = 1; group = zeros 32; stage = 0; labels = zeros 256 }

none_left : (dropped : Bool) → ◌≡◌ {A = ℕ} (cond dropped 0 0) 0
none_left true = refl
none_left false = refl

-- ---- an accepted step
module _ (s : Service) (six : List ℕ) (h : InRange s) where
  pub served-is : (sync : List ℕ) → Below 2 sync → served s six sync ≡ Ok (step_by s six (kind_of sync))
  unfolding served accepts
  served-is sync b = rw (in-range-true s h, below_all 2 sync b)

  pub position-kept : (sync : List ℕ) → Below 2 sync → IsOkAnd (served s six sync) (λ r. r.position ≡ s.position)
  position-kept sync b = rw (served-is sync b) refl

  pub served-first : served s six sync1 ≡ Ok (step_by s six First)
  unfolding all_below Below
  served-first = served-is sync1 (search arith) ∙ rw first_kind

  pub served-second : served s six sync2 ≡ Ok (step_by s six Second)
  unfolding all_below Below
  served-second = served-is sync2 (search arith) ∙ rw second-kind

  pub first-opens : IsOkAnd (served s six sync1) (λ r. r.next.position ≡ 1)
  unfolding take_sync
  first-opens = rw served-first refl

  pub first-drops : 0 < s.position → s.position < 8 → IsOkAnd (served s six sync1) (λ r. r.next ≡ opened)
  unfolding take_sync take_six
  first-drops l u = rw served-first (rw (open-true s.position l u))

  pub second-continues : 0 < s.position → s.position < 8
      → IsOkAnd (served s six sync2)
      (λ r.
      r.next
      ≡ record {
        position = s.position + 1;
        group = group_after s.position s.group six;
        stage = (take_six s six).stage;
        labels = (take_sync Second (take_six s six)).labels;
      })
  unfolding take_sync take_six
  second-continues l u = rw served-second (rw (open-true s.position l u, lt-ltb 1 (s.position + 1) (omega arith)))

  pub second-dropped : (s.position ≡ 0) ⊎ (s.position ≡ 8) → IsOkAnd (served s six sync2) (λ r. r.next ≡ searching_service)
  unfolding take_sync take_six searching_service
  second-dropped e = rw served-second (rw (open-false s.position e))

  pub neither-searches : (sync : List ℕ) → Below 2 sync → (sync ≡ sync1 → ⊥) → (sync ≡ sync2 → ⊥)
      → IsOkAnd (served s six sync) (λ r. (number_of r.kind ≡ 7) × (r.next ≡ searching_service))
  unfolding take_sync take_six searching_service
  neither-searches sync b f g = rw (served-is sync b, neither-kind sync f g) (refl, refl)

  -- ---- position 8 completes a group
  pub separator-found : s.position ≡ 8 → s.stage ≡ 0 → separates (take_six s six).group ≡ true → IsOkAnd (served s six sync1) (λ r. r.next.stage ≡ 1)
  unfolding take_sync take_six
  separator-found p t z = rw served-first (rw (separator-starts _ _ _ p t z, p, open-false 8 (inr refl)))

  pub no-separator : s.position ≡ 8 → s.stage ≡ 0 → separates (take_six s six).group ≡ false → IsOkAnd (served s six sync1) (λ r. r.next.stage ≡ 0)
  unfolding take_sync take_six
  no-separator p t z = rw served-first (rw (none-starts _ _ _ p t z, p, open-false 8 (inr refl)))

  pub group-brings : s.position ≡ 8 → 0 < s.stage → s.stage < 8 → IsOkAnd (served s six sync1) (λ r. r.next.stage ≡ s.stage + 1)
  unfolding take_sync take_six
  group-brings p l u = rw served-first (rw (stage-grows _ _ (group_after s.position s.group six) p l u, p, open-false 8 (inr refl)))

  pub eighth-ends : (sync : List ℕ) → Below 2 sync → s.position ≡ 8 → s.stage ≡ 8
      → IsOkAnd (served s six sync) (λ r. (r.labels ≡ Some (take_six s six).labels) × (r.next.stage ≡ 0))
  unfolding take_sync take_six
  eighth-ends sync b p t =
      let ends = stage-ends _ _ (group_after s.position s.group six) p t in
      rw (served-is sync b) (rw (p, t, eighth-ready), rw (ends, p) (none_left (drops_with (kind_of sync) 8)))
