use Rattle.std.proofs.Common.{length}
use Rattle.racks.proofs.Stored.{block_within}
use Rattle.racks.proofs.image.ImageRackReadingRack.read.Goals as goal

pub load-requires-clause-within : goal.load-requires-clause-within
load-requires-clause-within c =
    let i = c.args.self.now in
    let ok = c.in_ok-admit.ensures.lawful in
    block_within i.drives i.blocks c.layout.result.blocks c.args.drive c.args.block (length i.bytes.now) c.layout.ensures.blocks ok.drive ok.block
