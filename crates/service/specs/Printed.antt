-- The numbers that document 01 prints for the service machine ("Service groups", "Numbers given").
--     serving p t sync      the number that a step gives: six bytes at position p and stage t, and the sync behind them
--     printed_rows           THE TABLE: positions and stages to 8; the two syncs, another one, and entries that are no bits
use Rattle.std.specs.Prelude.{List, [], ◌∷◌, ℕ}
use Rattle.bits.specs.Table.{zeros}
use Rattle.bits.specs.Printed.{row, Row, ◌prints◌}
use Rattle.service.specs.Service.{served, number_told}

abbrev pub serving : ℕ → ℕ → List ℕ → List ℕ
serving p t sync =
    number_told (served (record { position = p; group = zeros 32; stage = t; labels = zeros 256 }) (zeros 6) sync) ∷ []

unfoldable pub printed_rows : List Row
printed_rows =
    (serving 8 8 (row "0000010111001111") prints 0 ∷ [])
    ∷ (serving 0 0 (row "0000010111111111") prints 0 ∷ [])
    ∷ (serving 8 8 (row "0000010111001110") prints 7 ∷ [])
    ∷ (serving 9 8 (row "0000010111001111") prints 2 ∷ [])
    ∷ (serving 8 9 (row "0000010111001111") prints 2 ∷ [])
    ∷ (serving 8 8 (row "0000010111001112") prints 2 ∷ [])
    -- 2 goes before 7
    ∷ (serving 9 8 (row "0000010111001110") prints 2 ∷ [])
    ∷ []
