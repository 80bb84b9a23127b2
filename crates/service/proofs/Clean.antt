-- Places that carry nothing hold 0, whatever the given state held there.
--     Clean s           in the group those from the position on, in the labels those from the stage on
--     group-clean, labels-clean     behind the six bytes and the sync
--     next-clean        every state that an accepted step hands back is clean
--     searching-clean   and so is the one that searches
--     Alike s s'        two states that hold the same in all places that carry something
--     alike-served      they are answered alike: what stands in the other places is not looked at
-- Assumes nothing.
use mathlib.Core.Path.{◌≡◌, refl}
use mathlib.Core.Bool.{Bool, true, false, cond}
use mathlib.Core.List.{List}
use Prim.Native.Nat.{ℕ, ◌+◌, ◌/◌, ◌%◌, ◌<◌, ◌≤◌}
use native.Mathlib.Omega.{arith}
use lib.Dec.{ltb}
use lib.ListN.{get_or}
use Rattle.bits.specs.Table.{zeros}
use borrow.Author.Tests.{ltb-true}
use Rattle.bits.specs.Digits.{Below}
use Rattle.service_group.specs.Six.{group_after, labels_after, stage_after}
use Rattle.service_sync.specs.Sync.{kind_of, is_open, next_position, drops_with}
use Rattle.std.specs.Result.{IsOkAnd}
use Rattle.service.specs.Taking.{take_six, take_sync}
use Rattle.service.specs.Service.{searching_service, served}
use Rattle.service.specs.declared.Service.{Service}
use Rattle.service_sync.specs.declared.Kind.{Kind}
use Rattle.service_sync.specs.declared.Kind.TheVariants.{First, Second, Neither}
use Rattle.bits.proofs.Tests.{picked}
use Rattle.service_group.proofs.Orders.{zeros-get_or}
use Rattle.service_group.proofs.Groups.{channel-none, filled-clean, group-alike, labels-alike}
use Rattle.service.proofs.Machine.{InRange, served-is}

pub record Clean (s : Service) : Type 0 where
  pub group : (i : ℕ) → i < 32 → s.position ≤ i / 4 + 1 → get_or s.group i 0 ≡ 0
  pub labels : (i : ℕ) → i < 256 → s.stage ≤ i % 8 + 1 → get_or s.labels i 0 ≡ 0

pub group-clean : (k : Kind) (p : ℕ) (g six : List ℕ) (b : Bool) → is_open p ≡ b → (i : ℕ) → i < 32 → next_position k p ≤ i / 4 + 1
    → get_or (cond (ltb 1 (next_position k p)) (group_after p g six) (zeros 32)) i 0 ≡ 0
group-clean First p g six b e i l u = zeros-get_or 32 i l
group-clean Second p g six true e i l u =
    let past : p + 1 ≤ i / 4 + 1 = rw e at u in
    rw e
    (picked (λ (x : List ℕ). get_or x i 0 ≡ 0) (ltb 1 (p + 1)) (group_after p g six) (zeros 32)
    (channel-none p g six i l (omega arith))
    (zeros-get_or 32 i l))
group-clean Second p g six false e i l u = rw e (zeros-get_or 32 i l)
group-clean Neither p g six b e i l u = zeros-get_or 32 i l

pub labels-clean : (d : Bool) (p t : ℕ) (l g : List ℕ) (i : ℕ) → i < 256 → cond d 0 (stage_after p t g) ≤ i % 8 + 1
    → get_or (cond (ltb 0 (cond d 0 (stage_after p t g))) (labels_after p t l g) (zeros 256)) i 0 ≡ 0
labels-clean true p t l g i r u = zeros-get_or 256 i r
labels-clean false p t l g i r u = by-test (ltb 0 (stage_after p t g)) refl where
  by-test : (b : Bool) → ltb 0 (stage_after p t g) ≡ b → get_or (cond b (labels_after p t l g) (zeros 256)) i 0 ≡ 0
  by-test true e = filled-clean p t l g i r (ltb-true 0 (stage_after p t g) e) u
  by-test false e = zeros-get_or 256 i r

pub next-clean : (s : Service) (six sync : List ℕ) → InRange s → Below 2 sync → IsOkAnd (served s six sync) (λ r. Clean r.next)
unfolding take_sync take_six
next-clean s six sync h b =
    let p : ℕ = s.position in
    let k : Kind = kind_of sync in
    let g : List ℕ = group_after p s.group six in
    rw (served-is s six h sync b)
    (record {
      group = group-clean k p s.group six (is_open p) refl;
      labels = labels-clean (drops_with k p) p s.stage s.labels g;
    })

pub searching-clean : Clean searching_service
unfolding searching_service
searching-clean = record { group = λ i l u. zeros-get_or 32 i l; labels = λ i l u. zeros-get_or 256 i l }

pub record Alike (s s' : Service) : Type 0 where
  pub position : s.position ≡ s'.position
  pub stage : s.stage ≡ s'.stage
  pub group : (i : ℕ) → i < 32 → i / 4 + 1 < s.position → get_or s.group i 0 ≡ get_or s'.group i 0
  pub labels : (i : ℕ) → i < 256 → i % 8 + 1 < s.stage → get_or s.labels i 0 ≡ get_or s'.labels i 0

six-alike : (s s' : Service) (six : List ℕ) → Alike s s' → take_six s six ≡ take_six s' six
unfolding take_six
six-alike s s' six a =
    let g : List ℕ = group_after s.position s'.group six in
    rw (group-alike s.position s.group s'.group six a.group, labels-alike s.position s.stage s.labels s'.labels g a.labels, a.position, a.stage)

pub alike-served : (s s' : Service) (six sync : List ℕ) → InRange s → Below 2 sync → Alike s s' → served s six sync ≡ served s' six sync
alike-served s s' six sync h b a =
    let h' : InRange s' = record { position = omega (arith, h.position, a.position); stage = omega (arith, h.stage, a.stage) } in
    rw (served-is s six h sync b, served-is s' six h' sync b, six-alike s s' six a, a.position, a.stage)
