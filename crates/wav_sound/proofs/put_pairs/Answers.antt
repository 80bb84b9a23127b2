-- `wav_sound::put_pairs` meets its contract: after f turns the first f pairs are put. Assumes nothing.
use mathlib.Core.Path.{◌≡◌, ap, ◌∙◌}
use Prim.Native.Nat.{ℕ, ◌+◌}
use native.Mathlib.Omega.{arith}
use borrow.Author.Rules.{rules}
use Rattle.std.proofs.lemmas.List.{get_or_default}
use Rattle.text.proofs.Pens.{puts_as, puts_then}
use Rattle.text_rows.specs.Turns.{in_turn}
use Rattle.text_rows.proofs.Turns.{turns_none, turns_more}
use Rattle.wav_sound.specs.Sound.{left, pair_of}
use Rattle.wav_sound.proofs.put_pairs.Goals as goal

pub loop-f-init : goal.loop-f-init
loop-f-init g c = (search rules, λ h d puts. turns_none _ _)

pub loop-f-preserved : goal.loop-f-preserved
loop-f-preserved g c =
    let start = c.args in
    let l = c.loop-f in (
      search rules,
      λ h d puts.
          turns_more (pair_of start.q start.list.now h d) l.f (l.invariant.1 h d puts)
          (puts_then
          (puts_as (ap h (c.index-list-at.is ∙ get_or_default start.list.now (left start.q l.f) _ d (omega arith))) (puts _ _ _ c.put.ensures))
          (puts_as (ap h (c.index-list-at-in-loop-f.is ∙ get_or_default start.list.now (left start.q l.f + 1) _ d (omega arith))) (puts _ _ _ c.put-in-loop-f.ensures))),
    )

pub returns : goal.returns
returns g c h d puts =
    let start = c.args in
    let all : c.loop-f.f ≡ 64 = omega arith in
    puts_as (ap (λ (n : ℕ). in_turn n (pair_of start.q start.list.now h d)) all) (c.loop-f.invariant.1 h d puts)
