use Rattle.std.specs.Prelude.{Bool, true, false}
use Rattle.uart_rate.specs.Limits.{Limits}
use Rattle.uart_rate.specs.declared.config.ClockSource.{ClockSource}
use Rattle.uart_rate.specs.declared.config.ClockSource.TheVariants.{Apb, RcFast, Xtal, RefTick}

-- the ESP32: a plain clock, with no prescaler and a wide divider
abbrev pub esp32_limits : Limits
esp32_limits = record { q = 268435456; p = 1; i = 1048575 }

-- the ESP32-C3 and ESP32-C6: a clock divided by a prescaler first
abbrev pub prescaled_limits : Limits
prescaled_limits = record { q = 4094; p = 256; i = 4095 }

-- the clock source of each chip where a caller names none
abbrev pub esp32_source : ClockSource
esp32_source = Apb

abbrev pub esp32c3_source : ClockSource
esp32c3_source = Apb

abbrev pub esp32c6_source : ClockSource
esp32c6_source = Xtal

-- the clock sources of the ESP32
abbrev pub esp32_has : ClockSource → Bool
esp32_has Apb = true
esp32_has RcFast = false
esp32_has Xtal = false
esp32_has RefTick = true

-- the clock sources of the ESP32-C3 and ESP32-C6
abbrev pub prescaled_has : ClockSource → Bool
prescaled_has Apb = true
prescaled_has RcFast = true
prescaled_has Xtal = true
prescaled_has RefTick = false
