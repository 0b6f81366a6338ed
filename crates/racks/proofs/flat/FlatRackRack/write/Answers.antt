use Rattle.std.proofs.Common.{length, sym}
use Rattle.racks.specs.Flat.{memory_of, state_of}
use Rattle.racks.proofs.Stored.{block_within, flat_written}
use Rattle.racks.proofs.flat.FlatRackRack.write.Goals as goal

pub store-requires-clause-within : goal.store-requires-clause-within
store-requires-clause-within c =
    let f = c.args.self.now in
    let ok = c.in_ok-admit.ensures.lawful in
    block_within f.drives f.blocks c.layout.result.blocks c.args.drive c.args.block (length f.memory.now) c.layout.ensures.blocks ok.drive ok.block

pub returns-clause-answer : goal.returns-clause-answer
returns-clause-answer c =
    let f = c.args.self.now in
    flat_written f.drives f.blocks c.layout.result.blocks (memory_of f) _ c.args.buf.now (state_of f) c.args.drive c.args.block
    c.in_ok-admit.ensures (sym c.layout.ensures.blocks) c.store.ensures
