use Rattle.std.proofs.Common.{rules, refl}
use Rattle.codes.specs.Doubling.{shift}
use Rattle.codes.proofs.Passes.{words_all}
use Rattle.codes.proofs.shift_code.ShiftCodeCode.multiply_block.Goals as goal

pub returns : goal.returns
returns c = words_all 16 shift c.args.block.now c.map_words.new.block refl (λ i lt. search (rules, c.map_words.ensures.words i lt))
