-- What six bytes do, in the words of document 01, "Service groups": the group, the labels, the stage. Channels and characters count from 0.
--     channel-kept, channel-comes, channel-none      channels of the positions before that of the six bytes, at it, and behind it
--     left_of, right_of          the channels of a programme
--     bytes-placed             bytes 1 to 4 at position m are the channels left and right of programmes 2m - 1 and 2m
--     zeros-separate           a group whose channel bytes are all 0 is the separator
--     label_kept, label-comes, label-none            characters before that of the stage, at it, and behind it
--     characters-placed        the complete group at stage t brings character t of each label, channel by channel
--     length-labels            labels are 256 characters
--     separator-starts, none-starts, stage-grows, stage-ends       the stage behind position 8
--     stage-waits              before position 8 it stays
--     stage-bound              it stays in its range, and grows by at most one, with position 8
--     eighth-ready, ready-eighth      labels are handed out with the eighth group, and with no other
--     filled-clean             characters from the stage on are 0, whatever they were
--     group-alike, labels-alike      what was held from the position on, or from the stage on, is not looked at
-- Assumes nothing.
use mathlib.Core.Path.{◌≡◌, refl, sym, ap, ◌∙◌}
use mathlib.Core.Logic.{⊎_elim}
use mathlib.Core.Bool.{Bool, true, false, cond}
use mathlib.Core.List.{List}
use Prim.Native.Nat.{ℕ, ◌+◌, ◌-◌, ◌*◌, ◌/◌, ◌%◌, ◌<◌, ◌≤◌}
use native.Mathlib.Nat.{eq-or-lt_of_le}
use native.Mathlib.Omega.{arith}
use lib.Dec.{eqb, ltb}
use lib.ListN.{length, get_or}
use borrow.Author.Tests.{eqb-true, ltb-true, lt-ltb, ne_eqb}
use Rattle.bits.specs.Table.{tabulate}
use Rattle.bits.proofs.Bits.{below_all}
use Rattle.bits.proofs.Digits.{below-tab}
use Rattle.bits.proofs.Table.{length-tab, get_or-tab, tab-ext}
use Rattle.bits.proofs.Tests.{both_left, both_right}
use Rattle.service_group.specs.Six.{channel_byte, group_after, separates, characters_of, label_byte, labels_after, stage_after, is_ready}
use Rattle.service_group.proofs.Orders.{before-kept, at-comes, behind-none, was-alike, zeros-get_or}

-- ---- the group
module _ (p : ℕ) (g six : List ℕ) (i : ℕ) (l : i < 32) where
  pub channel-kept : i / 4 + 1 < p → get_or (group_after p g six) i 0 ≡ get_or g i 0
  unfolding group_after channel_byte
  channel-kept h = get_or-tab 32 (channel_byte p g six) i 0 l ∙ before-kept p (i / 4 + 1) (get_or g i 0) _ h

  pub channel-comes : i / 4 + 1 ≡ p → get_or (group_after p g six) i 0 ≡ get_or six (i % 4) 0
  unfolding group_after channel_byte
  channel-comes h = get_or-tab 32 (channel_byte p g six) i 0 l ∙ at-comes p (i / 4 + 1) (get_or g i 0) _ h

  pub channel-none : p < i / 4 + 1 → get_or (group_after p g six) i 0 ≡ 0
  unfolding group_after channel_byte
  channel-none h = get_or-tab 32 (channel_byte p g six) i 0 l ∙ behind-none p (i / 4 + 1) (get_or g i 0) _ h

-- programmes count from 1
abbrev pub left_of : ℕ → ℕ
left_of q = 2 * (q - 1)

abbrev pub right_of : ℕ → ℕ
right_of q = 2 * (q - 1) + 1

module _ (m : ℕ) (g six : List ℕ) (l : 1 ≤ m) (u : m ≤ 8) where
  byte-there : (i k : ℕ) → i ≡ 4 * (m - 1) + k → k < 4 → get_or (group_after m g six) i 0 ≡ get_or six k 0
  byte-there i k e h =
      let byte : i % 4 ≡ k = omega arith in
      channel-comes m g six i (omega arith) (omega arith) ∙ ap (λ (n : ℕ). get_or six n 0) byte

  pub bytes-placed : (get_or (group_after m g six) (left_of (2 * m - 1)) 0 ≡ get_or six 0 0)
      × (get_or (group_after m g six) (right_of (2 * m - 1)) 0 ≡ get_or six 1 0)
      × (get_or (group_after m g six) (left_of (2 * m)) 0 ≡ get_or six 2 0)
      × (get_or (group_after m g six) (right_of (2 * m)) 0 ≡ get_or six 3 0)
  bytes-placed =
      (byte-there (left_of (2 * m - 1)) 0 (omega arith) (omega arith), byte-there (right_of (2 * m - 1)) 1 (omega arith) (omega arith), byte-there (left_of (2 * m)) 2 (omega arith) (omega arith), byte-there (right_of (2 * m)) 3 (omega arith) (omega arith))

pub zeros-separate : (p : ℕ) (g six : List ℕ) → ((i : ℕ) → i < 32 → get_or (group_after p g six) i 0 ≡ 0) → separates (group_after p g six) ≡ true
unfolding group_after
zeros-separate p g six h =
    let f : ℕ → ℕ = channel_byte p g six in
    below_all 1 (tabulate 32 f)
    (below-tab 1 32 f (λ i l. let nothing : f i ≡ 0 = sym (get_or-tab 32 f i 0 l) ∙ h i l in omega arith))

-- ---- the labels
module _ (p t : ℕ) (l g : List ℕ) (i : ℕ) (u : i < 256) where
  pub label_kept : i % 8 + 1 < t → get_or (labels_after p t l g) i 0 ≡ get_or l i 0
  unfolding labels_after label_byte
  label_kept h = get_or-tab 256 (label_byte t l (characters_of p g)) i 0 u ∙ before-kept t (i % 8 + 1) (get_or l i 0) (get_or (characters_of p g) (i / 8) 0) h

  pub label-comes : i % 8 + 1 ≡ t → get_or (labels_after p t l g) i 0 ≡ get_or (characters_of p g) (i / 8) 0
  unfolding labels_after label_byte
  label-comes h = get_or-tab 256 (label_byte t l (characters_of p g)) i 0 u ∙ at-comes t (i % 8 + 1) (get_or l i 0) (get_or (characters_of p g) (i / 8) 0) h

  pub label-none : t < i % 8 + 1 → get_or (labels_after p t l g) i 0 ≡ 0
  unfolding labels_after label_byte
  label-none h = get_or-tab 256 (label_byte t l (characters_of p g)) i 0 u ∙ behind-none t (i % 8 + 1) (get_or l i 0) (get_or (characters_of p g) (i / 8) 0) h

pub characters-placed : (t c : ℕ) (l g : List ℕ) → 1 ≤ t → t ≤ 8 → c < 32 → get_or (labels_after 8 t l g) (8 * c + (t - 1)) 0 ≡ get_or g c 0
characters-placed t c l g h k u =
    let channel : (8 * c + (t - 1)) / 8 ≡ c = omega arith in
    label-comes 8 t l g (8 * c + (t - 1)) (omega arith) (omega arith) ∙ ap (λ (n : ℕ). get_or g n 0) channel

pub length-labels : (p t : ℕ) (l g : List ℕ) → length (labels_after p t l g) ≡ 256
unfolding labels_after
length-labels p t l g = length-tab 256 (label_byte t l (characters_of p g))

-- ---- the stage
module _ (p t : ℕ) (g : List ℕ) where
  pub separator-starts : p ≡ 8 → t ≡ 0 → separates g ≡ true → stage_after p t g ≡ 1
  unfolding stage_after
  separator-starts e f z = rw (e, f, z)

  pub none-starts : p ≡ 8 → t ≡ 0 → separates g ≡ false → stage_after p t g ≡ 0
  unfolding stage_after
  none-starts e f z = rw (e, f, z)

  pub stage-grows : p ≡ 8 → 0 < t → t < 8 → stage_after p t g ≡ t + 1
  unfolding stage_after
  stage-grows e l u = rw (e, ne_eqb t 0 (λ z. omega arith), lt-ltb t 8 u)

  pub stage-ends : p ≡ 8 → t ≡ 8 → stage_after p t g ≡ 0
  unfolding stage_after
  stage-ends e f = rw (e, f)

  pub stage-waits : p < 8 → stage_after p t g ≡ t
  unfolding stage_after
  stage-waits h = rw (ne_eqb p 8 (λ e. omega arith))

-- by the tests that choose it
chosen : (p t : ℕ) (c z s l : Bool) → t ≤ 8 → eqb p 8 ≡ c → eqb t 0 ≡ z → ltb t 8 ≡ l
    → (cond c (cond z (cond s 1 0) (cond l (t + 1) 0)) t ≤ 8) × (8 * cond c (cond z (cond s 1 0) (cond l (t + 1) 0)) t ≤ 8 * t + p)
chosen p t true true true l h c z k = omega (arith, eqb-true p 8 c)
chosen p t true true false l h c z k = omega arith
chosen p t true false s true h c z k = omega (arith, eqb-true p 8 c, ltb-true t 8 k)
chosen p t true false s false h c z k = omega arith
chosen p t false z s l h c e k = omega arith

pub stage-bound : (p t : ℕ) (g : List ℕ) → t ≤ 8 → (stage_after p t g ≤ 8) × (8 * stage_after p t g ≤ 8 * t + p)
unfolding stage_after
stage-bound p t g h = chosen p t (eqb p 8) (eqb t 0) (separates g) (ltb t 8) h refl refl refl

pub eighth-ready : is_ready 8 8 ≡ true
unfolding is_ready
eighth-ready = refl

pub ready-eighth : (p t : ℕ) → is_ready p t ≡ true → (p ≡ 8) × (t ≡ 8)
unfolding is_ready
ready-eighth p t h = (eqb-true p 8 (both_left (eqb p 8) (eqb t 8) h), eqb-true t 8 (both_right (eqb p 8) (eqb t 8) h))

-- ---- places that carry nothing
-- a group that is complete leaves the stage past every place that it does not fill
past-stage : (t n : ℕ) (z s l : Bool) → eqb t 0 ≡ z → ltb t 8 ≡ l → 0 < cond z (cond s 1 0) (cond l (t + 1) 0)
    → cond z (cond s 1 0) (cond l (t + 1) 0) ≤ n + 1 → t < n + 1
past-stage t n true s l e k m u = omega (arith, eqb-true t 0 e)
past-stage t n false s true e k m u = omega arith
past-stage t n false s false e k m u = let no : ⊥ = omega arith in absurd no

by-position : (p t : ℕ) (l g : List ℕ) (b : Bool) → eqb p 8 ≡ b → (i : ℕ) → i < 256 → 0 < stage_after p t g → stage_after p t g ≤ i % 8 + 1
    → get_or (labels_after p t l g) i 0 ≡ 0
unfolding stage_after
by-position p t l g true e i r m u =
    label-none p t l g i r (past-stage t (i % 8) (eqb t 0) (separates g) (ltb t 8) refl refl (rw e at m) (rw e at u))
by-position p t l g false e i r m u =
    ⊎_elim
    (λ (q : t ≡ i % 8 + 1). label-comes p t l g i r (sym q) ∙ rw e (zeros-get_or 32 (i / 8) (omega arith)))
    (λ (q : t < i % 8 + 1). label-none p t l g i r q)
    (eq-or-lt_of_le (rw e at u))

pub filled-clean : (p t : ℕ) (l g : List ℕ) (i : ℕ) → i < 256 → 0 < stage_after p t g → stage_after p t g ≤ i % 8 + 1 → get_or (labels_after p t l g) i 0 ≡ 0
filled-clean p t l g = by-position p t l g (eqb p 8) refl

pub group-alike : (p : ℕ) (g g' six : List ℕ) → ((i : ℕ) → i < 32 → i / 4 + 1 < p → get_or g i 0 ≡ get_or g' i 0) → group_after p g six ≡ group_after p g' six
unfolding group_after channel_byte
group-alike p g g' six h = tab-ext 32 (channel_byte p g six) (channel_byte p g' six) (λ i l. was-alike p (i / 4 + 1) _ _ _ (h i l))

pub labels-alike : (p t : ℕ) (l l' g : List ℕ) → ((i : ℕ) → i < 256 → i % 8 + 1 < t → get_or l i 0 ≡ get_or l' i 0) → labels_after p t l g ≡ labels_after p t l' g
unfolding labels_after label_byte
labels-alike p t l l' g h =
    tab-ext 256 (label_byte t l (characters_of p g)) (label_byte t l' (characters_of p g)) (λ i u. was-alike t (i % 8 + 1) _ _ _ (h i u))
