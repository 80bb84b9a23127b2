-- `nearest::sent` meets its contract: the table's rule, computed over the whole of it. Assumes nothing.
use mathlib.Core.Path.{refl}
use Rattle.bits.specs.Digits.{value, digits}
use Rattle.bits.specs.Table.{tabulate}
use Rattle.remainder.specs.Polynomial.{◌⊕◌, times}
use Rattle.remainder.specs.Remainder.{take_off, step, divide, remainder, check_bits}
use Rattle.code.specs.Generators.{power, powers, scale_generator}
use Rattle.code.specs.Words.{encode}
use Rattle.scale.specs.Word.{scale_word}
use Rattle.nearest.specs.Search.{sent_table}
use Rattle.nearest.proofs.sent.Goals as goal

pub returns : goal.returns
unfolding sent_table tabulate value digits scale_word encode check_bits remainder divide step take_off times ◌⊕◌ power powers scale_generator
returns c = refl
