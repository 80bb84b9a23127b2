-- `tape::blocks::block_at` meets its contract: it asks for a block that is there. Assumes nothing.
use mathlib.Core.Path.{◌≡◌, ap₂, sym, ◌∙◌}
use mathlib.Core.List.{List}
use Prim.Native.Nat.{ℕ, ◌+◌, ◌*◌, ◌/◌, ◌%◌, ◌<◌}
use native.Mathlib.Omega.{arith}
use lib.ListN.{length}
use Rattle.std.specs.declared.result.Result.TheVariants.{Ok}
use Rattle.bits.proofs.Refused.{ok_same}
use Rattle.frame.specs.Read.{gathered_of}
use Rattle.tape.specs.Tape.{frame_at, block_in}
use Rattle.tape.proofs.Tape.{block-given}
use borrow.Author.Rules.{rules}
use Rattle.tape.proofs.blocks.block_at.Goals as goal

there : (sf : List ℕ) (f p : ℕ) → length sf ≡ 5120 → f < 64 → p < 8 → (l : List ℕ) (n m b : ℕ) → l ≡ frame_at sf (n + 64 * m) → n ≡ f → m ≡ p / 4 → b ≡ p % 4
    → gathered_of l b ≡ Ok (block_in sf f p)
there sf f p size h k l n m b frame first half place =
    ap₂ gathered_of (frame ∙ ap₂ (λ (n m : ℕ). frame_at sf (n + 64 * m)) first half) place ∙ block-given sf f p size h k

pub unwrap-requires : goal.unwrap-requires
unwrap-requires c =
    let a = c.args in
    rw (
      c.block_of.ensures,
      there a.sf.now a.f a.p (search rules) (omega arith) (omega arith) _ _ _ _ c.frame_at.ensures c.from.ensures c.from-2.ensures c.from-3.ensures,
    )
    (search rules)

pub returns : goal.returns
returns c =
    let a = c.args in
    ok_same
    (sym c.unwrap.ensures ∙ c.block_of.ensures
    ∙ there a.sf.now a.f a.p (search rules) (omega arith) (omega arith) _ _ _ _ c.frame_at.ensures c.from.ensures c.from-2.ensures c.from-3.ensures)
