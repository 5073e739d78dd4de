use Rattle.uart_rate.proofs.Products.{quotient}
use Rattle.uart_rate.proofs.request.Request.divisor.Goals as goal
use Rattle.std.proofs.Common.{rules}

pub returns : goal.returns
returns c = search (rules, quotient)
