-- The printed rows hold: one statement over the table.
--     printed-holds     THE STATEMENT
-- Assumes nothing.
use mathlib.Core.Path.{refl}
use Rattle.bits.specs.Table.{every, All}
use Rattle.bits.specs.Printed.{Same}
use Rattle.bits.proofs.Printed.{agrees, rows-hold}
use Rattle.sample.specs.Sample.{fits, is_code, code_answer, sample_answer}
use Rattle.sample.specs.Factor.{factor_answer}
use Rattle.sample.specs.Printed.{printed_rows}

pub printed-holds : All Same printed_rows
unfolding printed_rows every agrees fits is_code code_answer sample_answer factor_answer
printed-holds = rows-hold printed_rows refl
