use Rattle.std.specs.Prelude.{true, false}
use Rattle.uart_chip.specs.declared.properties.Properties.{Properties}
use Rattle.uart_chip.specs.declared.properties.SourceStyle.TheVariants.{Tick, Select}
use Rattle.uart_chip.specs.declared.properties.StopRule.TheVariants.{Code, ExtraStop}
use Rattle.uart_chip.specs.declared.properties.TimeoutRule.TheVariants.{Symbols, Bits}

-- what the three chips state about themselves
abbrev pub esp32_properties : Properties
esp32_properties = record {
  source_style = Tick;
  stop_rule = ExtraStop;
  timeout_rule = Symbols;
  has_fast_clock = false;
  has_gate = false;
  has_update = false;
  updates_framing = false;
}

abbrev pub esp32c3_properties : Properties
esp32c3_properties = record {
  source_style = Select;
  stop_rule = Code;
  timeout_rule = Bits;
  has_fast_clock = true;
  has_gate = true;
  has_update = true;
  updates_framing = false;
}

abbrev pub esp32c6_properties : Properties
esp32c6_properties = record {
  source_style = Select;
  stop_rule = Code;
  timeout_rule = Bits;
  has_fast_clock = false;
  has_gate = true;
  has_update = true;
  updates_framing = true;
}
