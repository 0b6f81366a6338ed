use Rattle.std.proofs.Common.{◌≡◌, ℕ, ◌<◌, ◌≤◌, length, get_or}
use Rattle.cyclic.specs.Maps.{◌⊕◌}
use Rattle.parity.proofs.block.add.Given as goal

abbrev pub invariant-loop-k : goal.invariant-loop-k
invariant-loop-k l =
    (length l.sum ≡ 512)
    × ((k : ℕ) → k < l.k → get_or l.sum k 0 ≡ get_or l.fn.sum k 0 ⊕ get_or l.block k 0)
    × ((k : ℕ) → l.k ≤ k → get_or l.sum k 0 ≡ get_or l.fn.sum k 0)
