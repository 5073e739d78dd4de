use Rattle.std.specs.Prelude.{Bool, true, false}
use Rattle.uart_chip.specs.declared.properties.Properties.{Properties}
use Rattle.uart_chip.specs.declared.properties.SourceStyle.TheVariants.{Select}
use Rattle.uart_chip.specs.declared.properties.StopRule.TheVariants.{ExtraStop}
use Rattle.uart_chip.specs.declared.properties.TimeoutRule.TheVariants.{Symbols}
use Rattle.uart_rate.specs.declared.config.ClockSource.{ClockSource}
use Rattle.uart_rate.specs.Limits.{Limits}
use Rattle.uart_rate.specs.declared.config.ClockSource.TheVariants.{Apb, RcFast, Xtal, RefTick}

-- what the made-up chip states about itself
abbrev pub fourth_limits : Limits
fourth_limits = record { q = 1000; p = 16; i = 63 }

abbrev pub fourth_has : ClockSource → Bool
fourth_has Apb = false
fourth_has RcFast = false
fourth_has Xtal = true
fourth_has RefTick = true

abbrev pub fourth_source : ClockSource
fourth_source = Xtal

abbrev pub fourth_properties : Properties
fourth_properties = record {
  source_style = Select;
  stop_rule = ExtraStop;
  timeout_rule = Symbols;
  has_fast_clock = false;
  has_gate = false;
  has_update = true;
  updates_framing = true;
}
