use Rattle.std.proofs.Common.{rules, arith}
use Rattle.codes.specs.Doubling.{double}
use Rattle.codes.proofs.Passes.{bytes_all, whole_byte}
use Rattle.codes.proofs.byte_code.ByteCodeCode.multiply_block.Goals as goal

pub returns : goal.returns
returns c =
    bytes_all 8 double c.args.block.now c.map_bytes.new.block c.told-block c.map_bytes.array_long (λ is_16. omega (arith, is_16))
    (λ k lt. whole_byte double _ _ (c.fits-block k) (c.map_bytes.ensures.bytes k) (search (rules, c.map_bytes.ensures.images k lt)))
