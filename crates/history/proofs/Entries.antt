-- Every entry of the lists that a call leaves, in document 01's numbers.
--     call-stands       THE ENTRY of a side of programme q in frame f: from the block that carries it, at the factor that the state brought
-- Assumes nothing.
use Prim.Native.Nat.{ℕ, ◌-◌, ◌≤◌}
use lib.IntN.{pos}
use Rattle.frame.specs.Read.{block_of}
use Rattle.tape.specs.Tape.{frame_at}
use Rattle.tape.specs.Document.{entry, channel_of, Carries}
use Rattle.sound.specs.Document.{place_in, code_number, Stands}
use Rattle.sound.proofs.Stands.{stands}
use Rattle.superframe.specs.declared.state.State.{State}
use Rattle.history.specs.Calls.{Call, Accepted}
use Rattle.history.proofs.Ahead.{heard}

module _ (s : State) (k : Call s) (a : Accepted k) (f b side : ℕ) (f₁ : 1 ≤ f) (f₂ : f ≤ 64) (b₁ : 1 ≤ b) (b₂ : b ≤ 4) (side₁ : 1 ≤ side) (side₂ : side ≤ 2) where
  pub call-stands : (q frame place : ℕ) → Carries f b q frame place
      → Stands k.radius (block_of (frame_at k.bytes (frame - 1)) (b - 1)) (code_number place side) (entry s.next (channel_of q side) 0)
      (entry k.samples (place_in f (channel_of q side)) (pos 0)) (entry k.marks (place_in f (channel_of q side)) 0)
  call-stands q frame place h =
      let left = heard s k a in
      rw (left.sounds, left.marks) (stands k.radius k.bytes s.next f b side f₁ f₂ b₁ b₂ side₁ side₂ q frame place h)
