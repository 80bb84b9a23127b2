-- `sound::four` meets its contract. Assumes nothing.
use mathlib.Core.Path.{◌≡◌, sym, ap, ◌∙◌}
use mathlib.Core.List.{List}
use Prim.Native.Nat.{ℕ, ◌+◌, ◌*◌, ◌/◌, ◌%◌, ◌<◌}
use native.Mathlib.Numerals.{add-one}
use native.Mathlib.Omega.{arith}
use lib.IntN.{pos}
use lib.ListN.{length, get_or}
use mir.Syntax.{w16}
use mir.Val.{to_z, of_z}
use mir.ValLaws.{to_z-of_z}
use Rattle.std.specs.declared.result.Result.TheVariants.{Ok}
use Rattle.bits.proofs.Refused.{ok_same}
use Rattle.bits.proofs.Table.{filled_zero, filled-set, filled-all}
use Rattle.sample.specs.Sample.{is_code}
use Rattle.reading.specs.Reading.{is_radius}
use lib.Signed.{mag}
use mathlib.Core.Bool.{true}
use Rattle.block.specs.Read.{handed_on}
use Rattle.block_codes.specs.Codes.{codes_at}
use Rattle.words.specs.Words.{told_of, true_reader}
use Rattle.words.specs.declared.Reader.{Reader}
use Rattle.words.specs.declared.Told.{Told}
use Rattle.tape.specs.Tape.{block_in, block_mark, quad_in, quad_with}
use Rattle.sound.specs.Sound.{sound_at, mark_with, sample_at, mark_at, in_rows}
use Rattle.tape.proofs.Quads.{quad-mark, quad-given}
use Rattle.sound.proofs.Samples.{code-there, code_inside, sample-there, mark-there}
use borrow.Author.Rules.{rules}
use Rattle.sound.proofs.four.Goals as goal

-- a superframe, and a place that is there: the block was not refused
module _ (reader : Reader) (ones : reader ≡ true_reader) (radius : ℕ) (chosen : is_radius radius ≡ true)
    (sf : List ℕ) (n : ℕ) (whole : (length sf ≡ 5120) × (n < 512)) where
  there : quad_with reader radius sf (n / 8) (n % 8) ≡ Ok (quad_in radius sf (n / 8) (n % 8))
  there = quad-given reader ones radius chosen sf (n / 8) (n % 8) whole.0 (omega arith) (omega arith)

module _ (reader : Reader) (ones : reader ≡ true_reader) (radius : ℕ) (chosen : is_radius radius ≡ true)
    (sf : List ℕ) (n : ℕ) (whole : (length sf ≡ 5120) × (n < 512)) (q : Told) (e : quad_with reader radius sf (n / 8) (n % 8) ≡ Ok q) where
  given : q ≡ quad_in radius sf (n / 8) (n % 8)
  given = ok_same (sym e ∙ there reader ones radius chosen sf n whole)

  mark_is : q.mark ≡ block_mark radius sf (n / 8) (n % 8)
  mark_is = ap (λ (q : Told). q.mark) given ∙ quad-mark radius sf (n / 8) (n % 8) (omega arith) (omega arith)

  block : List ℕ
  block = handed_on radius (block_in sf (n / 8) (n % 8))

  -- code j of the block that was read
  code_is : (j : ℕ) → mag (get_or q.codes j (pos 0)) < 32768 → to_z w16 (of_z w16 (get_or q.codes j (pos 0))) ≡ get_or (codes_at block) j (pos 0)
  unfolding quad_in told_of block
  code_is j h = to_z-of_z w16 (get_or q.codes j (pos 0)) (record { sfits = h }) ∙ ap (λ (q : Told). get_or q.codes j (pos 0)) given

  inside : (j : ℕ) → j < 4 → mag (get_or q.codes j (pos 0)) < 32768 → is_code (to_z w16 (of_z w16 (get_or q.codes j (pos 0)))) ≡ true
  unfolding block
  inside j h m = rw (code_is j m, code-there block j h) (code_inside block j)

  -- what is stored in place j of both
  heard : (factors : List ℕ) (j : ℕ) → j < 4 → mag (get_or q.codes j (pos 0)) < 32768
      → sound_at (to_z w16 (of_z w16 (get_or q.codes j (pos 0)))) (get_or factors (4 * (n % 8) + j) 0) ≡ in_rows (sample_at radius sf factors) (4 * n + j)
  unfolding block
  heard factors j h m = rw (code_is j m) (sample-there radius sf factors n j h)

  said : (factors : List ℕ) (j : ℕ) → j < 4 → mark_with q.mark (get_or factors (4 * (n % 8) + j) 0) ≡ in_rows (mark_at radius sf factors) (4 * n + j)
  said factors j h = rw mark_is (mark-there radius sf factors n j h)

pub unwrap-block-requires : goal.unwrap-block-requires
unwrap-block-requires c =
    let a = c.args in
    let r = c.requires in
    rw (c.read_at.ensures, there a.reader.now r.tables a.radius r.radius_value a.sf.now a.n (search rules, r.there)) (search rules)

pub loop-j-init : goal.loop-j-init
loop-j-init c = (search rules, filled_zero _ _, filled_zero _ _)

pub sound_of-requires : goal.sound_of-requires
sound_of-requires c =
    let a = c.args in
    let r = c.requires in
    inside a.reader.now r.tables a.radius r.radius_value a.sf.now a.n (search rules, r.there) c.unwrap-block.result (sym c.read_at.ensures ∙ c.unwrap-block.ensures) c.loop-j.j (omega arith) (omega arith)

pub loop-j-preserved : goal.loop-j-preserved
loop-j-preserved c =
    let a = c.args in
    let r = c.requires in
    let j = c.loop-j.j in
    let sample : c.sound_of.result ≡ in_rows (sample_at a.radius a.sf.now a.factors.now) (4 * a.n + j) =
    c.sound_of.ensures
    ∙ heard a.reader.now r.tables a.radius r.radius_value a.sf.now a.n (search rules, r.there) c.unwrap-block.result (sym c.read_at.ensures ∙ c.unwrap-block.ensures) a.factors.now j (omega arith) (omega arith) in
    let mark : c.marked.result ≡ in_rows (mark_at a.radius a.sf.now a.factors.now) (4 * a.n + j) =
    c.marked.ensures
    ∙ said a.reader.now r.tables a.radius r.radius_value a.sf.now a.n (search rules, r.there) c.unwrap-block.result (sym c.read_at.ensures ∙ c.unwrap-block.ensures) a.factors.now j (omega arith) in (
      search rules,
      rw (to_z-of_z w16 c.sound_of.result (record { sfits = c.sound_of.type_inv }), sample, c.loop-j.invariant.1, add-one)
          (filled-set (λ j. in_rows (sample_at a.radius a.sf.now a.factors.now) (4 * a.n + j)) j a.samples.now (omega arith)),
      rw (mark, c.loop-j.invariant.2, add-one)
          (filled-set (λ j. in_rows (mark_at a.radius a.sf.now a.factors.now) (4 * a.n + j)) j a.marks.now (omega arith)),
    )

pub returns : goal.returns
returns c =
    let a = c.args in
    let r = c.requires in
    let e : c.loop-j.j ≡ 4 = omega arith in
    record {
      value = mark_is a.reader.now r.tables a.radius r.radius_value a.sf.now a.n (search rules, r.there) c.unwrap-block.result (sym c.read_at.ensures ∙ c.unwrap-block.ensures);
      samples_after = c.loop-j.invariant.1 ∙ rw e (filled-all _ 4 a.samples.now r.samples_len);
      marks_after = c.loop-j.invariant.2 ∙ rw e (filled-all _ 4 a.marks.now r.marks_len);
    }
