use Rattle.std.specs.Prelude.{false}
use Rattle.uart_chip.specs.declared.properties.Properties.{Properties}
use Rattle.uart_chip.specs.declared.properties.SourceStyle.TheVariants.{Select}
use Rattle.uart_chip.specs.declared.properties.StopRule.TheVariants.{ExtraStop}
use Rattle.uart_chip.specs.declared.properties.TimeoutRule.TheVariants.{Symbols}

-- what a made-up chip states about itself: an ESP32 whose clock source is a code
abbrev pub fifth_properties : Properties
fifth_properties = record {
  source_style = Select;
  stop_rule = ExtraStop;
  timeout_rule = Symbols;
  has_fast_clock = false;
  has_gate = false;
  has_update = false;
  updates_framing = false;
}
