use Rattle.std.proofs.Common.{length}
use Rattle.racks.proofs.Stored.{block_within}
use Rattle.racks.proofs.flat.FlatRackReadingRack.read.Goals as goal

pub load-requires-clause-within : goal.load-requires-clause-within
load-requires-clause-within c =
    let f = c.args.self.now in
    let ok = c.in_ok-admit.ensures.lawful in
    rw c.bytes.ensures
    (block_within f.drives f.blocks c.layout.result.blocks c.args.drive c.args.block (length f.memory.now) c.layout.ensures.blocks ok.drive ok.block)
