use Rattle.uart_banks.proofs.Overlays.{no_puts, then_puts}
use Rattle.uart_banks.proofs.gate.ShutGate.write_at_cmd.Goals as goal

pub returns : goal.returns
returns c =
    then_puts (rw c.from.ensures at c.write.ensures)
    (then_puts (rw c.from-2.ensures at c.write-2.ensures)
    (then_puts c.write_given.ensures (then_puts c.write_given-2.ensures (then_puts c.write_given-3.ensures no_puts))))
