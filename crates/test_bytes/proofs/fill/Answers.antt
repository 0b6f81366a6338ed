use Rattle.std.proofs.Common.{◌≡◌, ℕ, ◌+◌, ◌*◌, ◌/◌, ◌%◌, ◌^◌, ap, ◌∙◌, add-one, arith, bit_and}
use lib.Bits.{and_mask}
use Rattle.std.proofs.Math.Nat.{mod-add-mod}
use Rattle.std.proofs.lemmas.Grind.{common_steps}
use Rattle.test_bytes.specs.Filling.{state}
use Rattle.test_bytes.proofs.fill.Goals as goal

pub loop-byte-preserved : goal.loop-byte-preserved
loop-byte-preserved c =
    let i : ℕ = c.loop-byte.byte-index in
    let next : (c.loop-byte.state * 1103515245 % 2 ^ 32 + 12345) % 2 ^ 32 ≡ state c.args.seed (i + 1) =
    rw (mod-add-mod, c.loop-byte.invariant.0, add-one) in
    let byte : bit_and ((c.loop-byte.state * 1103515245 % 2 ^ 32 + 12345) % 2 ^ 32 / 2 ^ 16) 255 ≡ state c.args.seed (i + 1) / 2 ^ 16 % 2 ^ 8 =
    and_mask _ 8 ∙ ap (λ s. s / 2 ^ 16 % 2 ^ 8) next in
    (next, λ k below. grind (arith, common_steps, byte, c.loop-byte.invariant.1 k))
