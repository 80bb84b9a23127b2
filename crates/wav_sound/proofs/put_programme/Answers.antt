-- `wav_sound::put_programme` meets its contract. Assumes nothing.
use mathlib.Core.Path.{◌≡◌, refl}
use borrow.Author.Rules.{rules}
use Rattle.std.proofs.iter.Serving.{serving}
use Rattle.std.specs.declared.result.Result.TheVariants.{Err}
use Rattle.text_rows.specs.Turns.{in_turn}
use Rattle.wav_sound.specs.Sound.{pair_of}
use Rattle.wav_sound.proofs.Entry.{accepts, told, refuses}
use Rattle.wav_sound.proofs.put_programme.Goals as goal

pub returns-in_err-number_of : goal.returns-in_err-number_of
returns-in_err-number_of g c h d puts =
    let same : c.from_residual.result ≡ Err c.in_err-number_of.field-0.0 = search rules in
    record { same_buffer = refl; told = rw same (refuses _ _ _ _ _ c.number_of.ensures _ c.in_err-number_of.was) }

pub put_whole-requires : goal.put_whole-requires
put_whole-requires g c =
    let within = accepts _ _ _ _ c.number_of.ensures c.in_ok-number_of.was in
    let can = c.requires in
    grind serving

pub returns : goal.returns
returns g c h d puts =
    let whole = c.put_whole.ensures (in_turn 64 (pair_of c.args.q c.args.list.now h d)) (λ p q k. k h d puts) in
    record { same_buffer = whole.same_buffer; told = told _ _ _ _ _ c.number_of.ensures _ _ c.in_ok-number_of.was whole.told }
