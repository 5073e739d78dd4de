use Rattle.uart_rate.specs.Rates.{prescaler_of}
use Rattle.uart_rate.proofs.Products.{ceiling, quotient}
use Rattle.uart_rate.proofs.Unique.{one_law}
use Rattle.uart_rate.proofs.theorems.law_reckoned.Goals as goal

pub returns : goal.returns
returns c = record {
  met = λ q clk baud hq hc hb. quotient q clk baud (prescaler_of q clk baud) hb (ceiling q clk baud hq hc hb);
  alone = one_law;
}
