-- What document 01, and document 02 where it amends it, prints beside the bench cases, in one table: syncs, the header's fields and limits, names, scale words with wrong bits, and the
-- number of "Numbers given" that each function gives, in their order. The rows stand in `specs/Printed.antt` of the crate that they speak of.
--     printed           THE TABLE, crate by crate
use Rattle.std.specs.Prelude.{List, [], ◌∷◌}
use Rattle.bits.specs.Printed.{Row}
use Rattle.bits.specs.Printed as Bits
use Rattle.programme.specs.Printed as Programme
use Rattle.reel.specs.Printed as Reel
use Rattle.sample.specs.Printed as Sample
use Rattle.scale.specs.Printed as Scale
use Rattle.nearest.specs.Printed as Nearest
use Rattle.block.specs.Printed as Block
use Rattle.block_codes.specs.Printed as Codes
use Rattle.block_writer.specs.Printed as BlockWriter
use Rattle.frame.specs.Printed as Frame
use Rattle.frame_writer.specs.Printed as FrameWriter
use Rattle.service_sync.specs.Printed as Sync
use Rattle.service.specs.Printed as Service

unfoldable pub printed : List (List Row)
printed =
    Bits.printed_rows
    ∷ Programme.printed_rows
    ∷ Reel.printed_rows
    ∷ Sample.printed_rows
    ∷ Scale.printed_rows
    ∷ Nearest.printed_rows
    ∷ Block.printed_rows
    ∷ Codes.printed_rows
    ∷ BlockWriter.printed_rows
    ∷ Frame.printed_rows
    ∷ FrameWriter.printed_rows
    ∷ Sync.printed_rows
    ∷ Service.printed_rows
    ∷ []
