use Rattle.std.proofs.Common.{◌+◌, ◌%◌, ◌∙◌, ap, slice_index, arith}
use Rattle.std.proofs.lemmas.Nat.{mod_below}
use Rattle.codes.specs.declared.tables.TheConstants.{POWERS}
use Rattle.codes.proofs.Logarithms.{of_word, of_zero}
use Rattle.codes.proofs.byte_code.ByteCodeCode.multiply.Goals as goal

pub returns-then-byte-eq0 : goal.returns-then-byte-eq0
returns-then-byte-eq0 c = of_zero c.args.word (c.args.exponent % 255) c.if-byte-eq0.true

pub returns : goal.returns
returns c =
    c.from-3.ensures
    ∙ ap (λ log. slice_index POWERS ((log + c.args.exponent % 255) % 255)) (rw c.from.ensures at c.from-2.ensures)
    ∙ of_word c.args.word (c.args.exponent % 255) (λ none. omega (arith, none, c.if-byte-eq0.false)) (mod_below c.args.exponent 255 (omega arith))
