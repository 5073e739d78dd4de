use Rattle.std.proofs.Common.{rules}
use Rattle.uart_chip.proofs.Files.{written}
use Rattle.uart_banks.proofs.gate.ShutGate.write.Goals as goal

pub returns : goal.returns
returns c = record { fields = λ e. simp c.index.ensures.value (written e c.args.values.now c.args.field c.args.value (search rules) c.requires.other) }
