use Rattle.std.specs.Slice.Iter.{iter_rest}
use Rattle.std.specs.Iterator.Adapters.{rev_source}
use Rattle.uart_text.proofs.Numerals.{BackTo}
use Rattle.uart_text.proofs.number.is_numeral.Given as goal

abbrev pub invariant-loop-byte : goal.invariant-loop-byte
invariant-loop-byte l = BackTo l.grouped l.text (iter_rest (rev_source l.byte-iterator)) l.state
