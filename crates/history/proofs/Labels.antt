-- Service bytes and labels, over the reader's state: what the service machine does, the state's service part does, and the factors stay.
--     run-parts               a run of steps: the factors and the totals as given, the service part as the machine leaves it
--     NoLabels r              an answer that hands out no labels
--     labels-come             a separator and eight groups, all syncs in order, hand out the labels that they spell, with the last six bytes
--     labels-not-before       and none of the 71 superframes before
--     loss-none               behind a lost superframe 71 steps hand out none
--     drop-none               behind a drop or a 7 too
-- Assumes nothing.
use mathlib.Core.Path.{◌≡◌, refl, ap, ◌∙◌}
use mathlib.Core.Bool.{true}
use mathlib.Core.List.{List, [], ◌∷◌}
use Prim.Native.Nat.{ℕ, ◌<◌, ◌≤◌}
use native.Mathlib.Omega.{arith}
use lib.ListN.{length}
use Rattle.std.specs.Result.{IsOkAnd}
use Rattle.std.specs.declared.option.Option.{Option}
use Rattle.std.specs.declared.option.Option.TheVariants.{Some, None}
use Rattle.std.specs.declared.result.Result.{Result}
use Rattle.std.specs.declared.result.Result.TheVariants.{Ok, Err}
use Rattle.bits.specs.declared.refusal.Refusal.{Refusal}
use Rattle.bits.specs.Refused.{number_in}
use Rattle.bits.specs.Digits.{Below}
use Rattle.service_sync.specs.Sync.{kind_of, drops_with}
use Rattle.service.specs.Service.{searching_service}
use Rattle.service.specs.Run.{Step, stepped, after}
use Rattle.service.specs.Broadcast.{step_of, broadcast, Separated, labels_of}
use Rattle.service.specs.declared.Service.{Service}
use Rattle.service.specs.declared.Served.{Served}
use Rattle.service.proofs.Progress as progress
use Rattle.service.proofs.Labels as machine
use Rattle.superframe.specs.State.{factors_of, joined_state, state_in_range, lost_with, serviced_from, serviced_with, next_served, after_loss}
use Rattle.history.specs.Run.{taken, behind}
use Rattle.superframe.specs.declared.state.State.{State}
use Rattle.history.proofs.Loss.{lost-in-range, lose-free, lose-accepted}
use Rattle.history.proofs.Ranges.{service-fact, serviced-is, next-is, service-keeps-range}

pub run-parts : (xs : List Step) (s : State) → state_in_range s ≡ true → behind s xs ≡ joined_state (factors_of s) (after s.service xs) s.totals
unfolding behind after
run-parts [] s h = refl
run-parts (x ∷ xs) s h =
    run-parts xs (next_served s (taken s x)) (service-keeps-range s x h) ∙ rw (serviced-is s x.six x.sync h, next-is s (stepped s.service x))

pub run-in-range : (xs : List Step) (s : State) → state_in_range s ≡ true → state_in_range (behind s xs) ≡ true
unfolding behind
run-in-range [] s h = h
run-in-range (x ∷ xs) s h = run-in-range xs (next_served s (taken s x)) (service-keeps-range s x h)

-- a step behind a run is the machine's behind the machine's run
pub taken_is : (xs : List Step) (s : State) (x : Step) → state_in_range s ≡ true
    → taken (behind s xs) x ≡ serviced_from (behind s xs) (stepped (after s.service xs) x)
taken_is xs s x h =
    serviced-is (behind s xs) x.six x.sync (run-in-range xs s h)
    ∙ ap (λ (v : Service). serviced_from (behind s xs) (stepped v x)) (ap (λ (s : State). s.service) (run-parts xs s h))

abbrev pub labels_in : Result (Served State) Refusal → Option (List ℕ)
labels_in (Ok r) = r.labels
labels_in (Err why) = None

abbrev pub NoLabels : Result (Served State) Refusal → Type 0
NoLabels r = labels_in r ≡ None

labels-from : (s : State) (r : Result (Served Service) Refusal) → labels_in (serviced_from s r) ≡ progress.labels_in r
labels-from s (Ok r) = refl
labels-from s (Err why) = refl

none_above : (xs : List Step) (s : State) (x : Step) → state_in_range s ≡ true → progress.NoLabels (stepped (after s.service xs) x)
    → NoLabels (taken (behind s xs) x)
none_above xs s x h n = ap labels_in (taken_is xs s x h) ∙ labels-from (behind s xs) (stepped (after s.service xs) x) ∙ n

pub soon-none : (s : State) → state_in_range s ≡ true → progress.progress s.service ≤ 1 → (xs : List Step) → length xs ≤ 70 → (x : Step)
    → NoLabels (taken (behind s xs) x)
soon-none s h l xs n x = none_above xs s x h (progress.soon-none s.service (service-fact s h) l xs n x)

pub loss-none : (s : State) → number_in (lost_with s) ≡ 0 → (xs : List Step) → length xs ≤ 70 → (x : Step) → NoLabels (taken (behind (after_loss s) xs) x)
unfolding searching_service
loss-none s a = let free = lose-free s a in rw (lose-accepted s a) (soon-none _ (lost-in-range s free.0 free.1) (omega arith))

-- labels, and the stage behind them
come-from : (s : State) (r : Result (Served Service) Refusal) (l : List ℕ) → IsOkAnd r (λ r. (r.labels ≡ Some l) × (r.next.stage ≡ 0))
    → IsOkAnd (serviced_from s r) (λ r. (r.labels ≡ Some l) × (r.next.service.stage ≡ 0))
come-from s (Ok r) l h = h
come-from s (Err why) l h = h

module _ (s : State) (h : state_in_range s ≡ true) where
  pub drop-none : (y : Step) → Below 2 y.sync → drops_with (kind_of y.sync) s.service.position ≡ true
      → (xs : List Step) → length xs ≤ 70 → (x : Step) → NoLabels (taken (behind (next_served s (taken s y)) xs) x)
  drop-none y b e =
      let reset = progress.drop-resets s.service y.six y.sync (service-fact s h) b e in
      soon-none (next_served s (taken s y)) (service-keeps-range s y h) (rw (serviced-is s y.six y.sync h, next-is s (stepped s.service y)) reset)

  module _ (sixes : ℕ → List ℕ) (p : s.service.position ≡ 1) (t : s.service.stage ≡ 0) (none : Separated sixes) where
    pub labels-not-before : (k : ℕ) → k < 71 → NoLabels (taken (behind s (broadcast sixes k)) (step_of sixes k))
    labels-not-before k l =
        none_above (broadcast sixes k) s (step_of sixes k) h (machine.labels-not-before sixes s.service (service-fact s h) p t none k l)

    pub labels-come : (sync : List ℕ) → Below 2 sync
        → IsOkAnd (serviced_with (behind s (broadcast sixes 71)) (sixes 71) sync) (λ r. (r.labels ≡ Some (labels_of sixes)) × (r.next.service.stage ≡ 0))
    labels-come sync b =
        rw (taken_is (broadcast sixes 71) s (record { six = sixes 71; sync = sync }) h)
        (come-from (behind s (broadcast sixes 71)) _ _ (machine.labels-come sixes s.service (service-fact s h) p t none sync b))
