use Rattle.uart_chip.proofs.Places.{distinct}
use Rattle.uart_chip.proofs.theorems.fields_distinct.Goals as goal

pub returns : goal.returns
returns c = distinct
