use Rattle.uart_rate.proofs.Worked.{worked_examples_lem}
use Rattle.uart_rate.proofs.theorems.worked_examples.Goals as goal

pub returns : goal.returns
returns c = worked_examples_lem
