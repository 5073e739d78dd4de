use Rattle.std.proofs.Common.{rules}
use Rattle.uart_rate.proofs.Heads.{below_million, head_rate}
use Rattle.uart_rate.proofs.achieve.run.Goals as goal

pub overflow_cast-result-2 : goal.overflow_cast-result-2
overflow_cast-result-2 c = search (rules, below_million)

pub returns : goal.returns
returns c = search (rules, head_rate)
