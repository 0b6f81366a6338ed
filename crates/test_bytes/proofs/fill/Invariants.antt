use Rattle.std.proofs.Common.{◌≡◌, ℕ, ◌+◌, ◌/◌, ◌%◌, ◌^◌, ◌<◌, slice_index}
use Rattle.test_bytes.specs.Filling.{state}
use Rattle.test_bytes.proofs.fill.Given as goal

abbrev pub invariant-loop-byte : goal.invariant-loop-byte
invariant-loop-byte l =
    (l.state ≡ state l.seed l.byte-index)
    × ((k : ℕ) → k < l.byte-index → slice_index l.byte-items k ≡ state l.seed (k + 1) / 2 ^ 16 % 2 ^ 8)
