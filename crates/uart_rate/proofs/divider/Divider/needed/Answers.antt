use Rattle.std.proofs.Common.{rules, mul_assoc}
use Rattle.uart_rate.proofs.divider.Divider.needed.Goals as goal

pub returns-clause-value : goal.returns-clause-value
returns-clause-value c = search (rules, mul_assoc)
