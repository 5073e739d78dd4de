use Rattle.std.proofs.Common.{◌*◌, rules}
use Rattle.std.proofs.lemmas.Grind.{div_ceil_times}
use Rattle.uart_rate.proofs.Products.{least}
use Rattle.uart_rate.proofs.request.Request.least_prescaler.Goals as goal

pub returns-clause-least : goal.returns-clause-least
returns-clause-least c =
    let p = div_ceil_times c.from.result (c.from-2.result * c.from-3.result) (search rules) in
    simp (c.div_ceil.ensures, c.from.ensures, c.from-2.ensures, c.from-3.ensures) (least c.args.q c.args.self.now.clk c.args.self.now.baud _ (search rules) (simp (c.from.ensures, c.from-2.ensures, c.from-3.ensures) at p.0) (simp (c.from.ensures, c.from-2.ensures, c.from-3.ensures) at p.1))
