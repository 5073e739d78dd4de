use Rattle.uart_rate.proofs.Heads.{finely_divided_lem}
use Rattle.uart_rate.proofs.theorems.finely_divided.Goals as goal

pub returns : goal.returns
returns c = finely_divided_lem
