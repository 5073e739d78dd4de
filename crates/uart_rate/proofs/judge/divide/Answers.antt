use Rattle.uart_rate.specs.Stated.{limits}
use Rattle.uart_rate.proofs.Judgements.{in_order}
use Rattle.uart_rate.proofs.judge.divide.Goals as goal

pub returns : goal.returns
returns g c =
    in_order (limits g.G.BaudGenerator) _ _ _ _ c.divide_clock.result c.requires.percent c.requires.baud c.requires.clock (rw c.hertz.ensures at c.divide_clock.ensures)
