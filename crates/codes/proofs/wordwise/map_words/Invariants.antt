use Rattle.std.proofs.Common.{◌≡◌, ℕ, ◌<◌, length, get_or}
use Rattle.codes.specs.Blocks.{word}
use Rattle.codes.proofs.Passes.{WordsDone}
use Rattle.codes.proofs.wordwise.map_words.Given as goal

abbrev pub invariant-loop-i : goal.invariant-loop-i
invariant-loop-i g l = (length l.word-items ≡ 256) × ((k : ℕ) → k < l.i → get_or l.word-items k 0 ≡ word 16 l.block k)

abbrev pub invariant-loop-i-2 : goal.invariant-loop-i-2
invariant-loop-i-2 g l = WordsDone (goal.F-post g l.image) l.fn.block l.block l.i
