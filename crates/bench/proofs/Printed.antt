-- All that is printed holds: one statement over the table. Each crate's rows are computed where its definitions stand.
--     everything-printed     THE STATEMENT
-- Assumes nothing.
use Rattle.bits.specs.Table.{All}
use Rattle.bits.specs.Printed.{Same}
use Rattle.bits.proofs.Printed as Bits
use Rattle.programme.proofs.Printed as Programme
use Rattle.reel.proofs.Printed as Reel
use Rattle.sample.proofs.Printed as Sample
use Rattle.scale.proofs.Printed as Scale
use Rattle.nearest.proofs.Printed as Nearest
use Rattle.block.proofs.Printed as Block
use Rattle.block_codes.proofs.Printed as Codes
use Rattle.block_writer.proofs.Printed as BlockWriter
use Rattle.frame.proofs.Printed as Frame
use Rattle.frame_writer.proofs.Printed as FrameWriter
use Rattle.service_sync.proofs.Printed as Sync
use Rattle.service.proofs.Printed as Service
use Rattle.bench.specs.Printed.{printed}

pub everything-printed : All (All Same) printed
unfolding printed All
everything-printed = (Bits.printed-holds, (Programme.printed-holds, (Reel.printed-holds, (Sample.printed-holds, (Scale.printed-holds, (Nearest.printed-holds, (Block.printed-holds, (Codes.printed-holds, (BlockWriter.printed-holds, (Frame.printed-holds, (FrameWriter.printed-holds, (Sync.printed-holds, (Service.printed-holds, tt)))))))))))))
