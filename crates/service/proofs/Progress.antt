-- How far the labels are, and that nothing brings them sooner (document 01, "Service groups").
--     progress s          8 for each stage and 1 for each position: 72 before the six bytes that complete the labels
--     Moved n s s'        s' is in range and at most n further than s
--     step-moved          a step moves by at most one, whatever it brings
--     run_moved           a run of steps by at most their number
--     labels_in r, NoLabels r     the labels that an answer hands out; an answer that hands out none
--     far_none            labels are not handed out where the progress is less than 72
--     soon-none           behind a start without progress 71 steps hand out none
--     drop-resets, drop-none     a dropped group, a dropped Sync 2 or a 7 leaves no progress: the 71 steps behind it hand out none
-- Assumes nothing.
use mathlib.Core.Path.{◌≡◌, refl}
use mathlib.Core.Bool.{Bool, true, false}
use mathlib.Core.List.{List, [], ◌∷◌}
use Prim.Native.Nat.{ℕ, ◌+◌, ◌*◌, ◌<◌, ◌≤◌}
use native.Mathlib.Omega.{arith}
use lib.ListN.{length}
use Rattle.std.specs.declared.option.Option.{Option}
use Rattle.std.specs.declared.option.Option.TheVariants.{None}
use Rattle.std.specs.declared.result.Result.{Result}
use Rattle.std.specs.declared.result.Result.TheVariants.{Ok, Err}
use Rattle.bits.specs.declared.refusal.Refusal.{Refusal}
use Rattle.bits.specs.declared.refusal.Refusal.TheVariants.{Range}
use borrow.Author.Tests.{not-true}
use Rattle.bits.specs.Digits.{Below}
use Rattle.service_group.specs.Six.{stage_after, group_after, is_ready}
use Rattle.service_sync.specs.Sync.{kind_of, is_open, next_position, drops_with}
use Rattle.service.specs.Taking.{take_six, stage_with, take_sync}
use Rattle.service.specs.Service.{accepts, step_by, served}
use Rattle.service.specs.Run.{Step, stepped, next_of, after}
use Rattle.service.specs.declared.Service.{Service}
use Rattle.service.specs.declared.Served.{Served}
use Rattle.service_sync.specs.declared.Kind.{Kind}
use Rattle.service_sync.specs.declared.Kind.TheVariants.{First, Second, Neither}
use Rattle.bits.proofs.Tests.{picked}
use Rattle.service_group.proofs.Groups.{stage-bound, stage-waits, ready-eighth}
use Rattle.service_sync.proofs.Syncs.{open-below}
use Rattle.service.proofs.Machine.{InRange, served-is}

abbrev pub progress : Service → ℕ
progress s = 8 * s.stage + s.position

pub record Moved (n : ℕ) (s s' : Service) : Type 0 where
  pub range : InRange s'
  pub further : progress s' ≤ progress s + n

-- ---- the numbers of a step
sync-bound : (k : Kind) (p t x : ℕ) (b : Bool) → is_open p ≡ b → p ≤ 8 → x ≤ 8 → 8 * x ≤ 8 * t + p → (p < 8 → x ≡ t)
    → (next_position k p ≤ 8) × (stage_with k p x ≤ 8) × (8 * stage_with k p x + next_position k p ≤ 8 * t + p + 1)
sync-bound First p t x true e h k m w = rw e (omega arith)
sync-bound First p t x false e h k m w = rw e (omega arith)
sync-bound Second p t x true e h k m w = let l : p < 8 = open-below p e in let same : x ≡ t = w l in rw e (omega arith)
sync-bound Second p t x false e h k m w = rw e (omega arith)
sync-bound Neither p t x b e h k m w = omega arith

-- ---- a step, and a run of them
accepted-moved : (s : Service) (six : List ℕ) (k : Kind) → InRange s → Moved 1 s (take_sync k (take_six s six))
unfolding take_sync take_six
accepted-moved s six k h =
    let p : ℕ = s.position in
    let g : List ℕ = group_after p s.group six in
    let b = stage-bound p s.stage g h.stage in
    let m = sync-bound k p s.stage (stage_after p s.stage g) (is_open p) refl h.position b.0 b.1 (stage-waits p s.stage g) in
    record { range = record { position = m.0; stage = m.1 }; further = m.2 }

-- a step is accepted or refused
answer-either : (P : Result (Served Service) Refusal → Type 0) (s : Service) (six sync : List ℕ)
    → P (Ok (step_by s six (kind_of sync))) → P (Err Range) → P (served s six sync)
unfolding served
answer-either P s six sync h k = picked P (accepts s sync) (Ok (step_by s six (kind_of sync))) (Err Range) h k

pub step-moved : (s : Service) (x : Step) → InRange s → Moved 1 s (next_of s (stepped s x))
step-moved s x h =
    answer-either (λ r. Moved 1 s (next_of s r)) s x.six x.sync
    (accepted-moved s x.six (kind_of x.sync) h)
    (record { range = h; further = omega arith })

pub run_moved : (xs : List Step) (s : Service) → InRange s → Moved (length xs) s (after s xs)
unfolding after
run_moved [] s h = record { range = h; further = omega arith }
run_moved (x ∷ xs) s h =
    let one = step-moved s x h in
    let rest = run_moved xs (next_of s (stepped s x)) one.range in
    record { range = rest.range; further = omega (arith, one.further, rest.further) }

-- ---- labels are not handed out before their time
abbrev pub labels_in : Result (Served Service) Refusal → Option (List ℕ)
labels_in (Ok r) = r.labels
labels_in (Err e) = None

abbrev pub NoLabels : Result (Served Service) Refusal → Type 0
NoLabels r = labels_in r ≡ None

not-ready : (p t : ℕ) → 8 * t + p < 72 → is_ready p t ≡ false
not-ready p t h = by-test (is_ready p t) refl where
  by-test : (b : Bool) → is_ready p t ≡ b → b ≡ false
  by-test true e = let no : ⊥ = omega (arith, ready-eighth p t e) in absurd no
  by-test false e = refl

pub far_none : (s : Service) (x : Step) → progress s < 72 → NoLabels (stepped s x)
far_none s x h =
    let far = not-ready s.position s.stage h in
    answer-either NoLabels s x.six x.sync (rw far) refl

pub soon-none : (s : Service) → InRange s → progress s ≤ 1 → (xs : List Step) → length xs ≤ 70 → (x : Step) → NoLabels (stepped (after s xs) x)
soon-none s h l xs n x = far_none (after s xs) x (omega (arith, (run_moved xs s h).further))

-- ---- a drop starts over
reset : (k : Kind) (p x : ℕ) → drops_with k p ≡ true → 8 * stage_with k p x + next_position k p ≤ 1
reset First p x e = rw e (omega arith)
reset Second p x e = rw (e, not-true (is_open p) e) (omega arith)
reset Neither p x e = omega arith

module _ (s : Service) (six sync : List ℕ) (h : InRange s) (b : Below 2 sync) (e : drops_with (kind_of sync) s.position ≡ true) where
  pub drop-resets : progress (next_of s (served s six sync)) ≤ 1
  unfolding take_sync take_six
  drop-resets = rw (served-is s six h sync b) (reset (kind_of sync) s.position _ e)

  pub drop-none : (xs : List Step) → length xs ≤ 70 → (x : Step) → NoLabels (stepped (after (next_of s (served s six sync)) xs) x)
  drop-none =
      soon-none (next_of s (served s six sync)) (step-moved s (record { six = six; sync = sync }) h).range drop-resets
