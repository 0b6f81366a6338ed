use Rattle.sheets.proofs.Numbers.{Value}
use Rattle.sheets.proofs.lines.decimal.Given as goal

abbrev pub invariant-loop-byte : goal.invariant-loop-byte
invariant-loop-byte l = Value l.digits l.byte-index l.value
