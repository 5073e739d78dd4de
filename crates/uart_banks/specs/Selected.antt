use Rattle.std.specs.Prelude.{◌≡◌, ℕ, ◌<◌, true}
use Rattle.uart_chip.specs.declared.properties.Properties.{Properties}
use Rattle.uart_chip.specs.declared.properties.SourceStyle.TheVariants.{Select}
use Rattle.uart_chip.specs.declared.properties.StopRule.TheVariants.{Code}
use Rattle.uart_chip.specs.declared.properties.TimeoutRule.TheVariants.{Bits}

-- what a chip states, with its largest prescaler, that is selected: the clock source and the stop bits are codes, the
-- timeout is in bits, there is a clock gate, and there is a prescaler
pub record IsSelected (x : Properties) (most : ℕ) : Type 0 where
  pub source : x.source_style ≡ Select
  pub stop : x.stop_rule ≡ Code
  pub timeout : x.timeout_rule ≡ Bits
  pub gate : x.has_gate ≡ true
  pub prescaler : 1 < most
