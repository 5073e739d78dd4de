use Rattle.uart_chip.proofs.Updates.{left, meanwhile, done}
use Rattle.uart_chip.proofs.theorems.updates_counted.Goals as goal

pub returns : goal.returns
returns c = record { left = left; meanwhile = meanwhile; done = done }
