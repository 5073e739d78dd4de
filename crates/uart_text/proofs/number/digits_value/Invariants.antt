use Rattle.std.proofs.Common.{◌≡◌, ◌^◌, ◌<◌, drop}
use Rattle.uart_text.specs.Number.{value, value_from}
use Rattle.uart_text.proofs.number.digits_value.Given as goal

abbrev pub invariant-loop-byte : goal.invariant-loop-byte
invariant-loop-byte l = (l.total < 2 ^ 64) × (value_from l.total (drop l.byte-index l.text) ≡ value l.text)
