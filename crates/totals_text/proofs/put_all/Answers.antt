-- `put_all` meets its contract. Assumes nothing.
use mathlib.Core.Path.{ap, ap₂}
use Prim.Native.Nat.{ℕ, ◌+◌}
use borrow.Author.Rules.{rules}
use Rattle.bits.specs.Letters.{letters}
use Rattle.text.proofs.Pens.{puts_as, puts_then}
use Rattle.listing_text.specs.Listing.{line, ending}
use Rattle.totals_text.specs.Totals.{programme_line, totals_lines}
use Rattle.totals_text.proofs.put_all.Goals as goal

pub returns : goal.returns
unfolding totals_lines programme_line letters
returns c =
    let t = c.args.totals in
    let given = ap₂ (λ (taken lost : ℕ). taken + lost) c.from.ensures c.from-lost.ensures in
    puts_then (puts_as (ap (line (letters "superframes")) given) c.put_line.ensures)
    (puts_then (puts_as (ap (line (letters "lost")) c.from-lost.ensures) c.put_line-2.ensures)
    (puts_then (c.put_turns.ensures (programme_line t.clean t.mended t.bad) (λ i p q l k. search rules))
    (puts_as (ap (ending c.args.promised) given) c.put_ending.ensures)))
