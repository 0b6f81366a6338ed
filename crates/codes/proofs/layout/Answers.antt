use Rattle.codes.proofs.Words.{word_in_byte, word_16, same_block}
use Rattle.codes.proofs.layout.Goals as goal

pub returns : goal.returns
returns c = record { fields = word_in_byte; pairs = word_16; equal = same_block }
