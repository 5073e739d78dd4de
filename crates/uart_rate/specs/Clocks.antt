use Rattle.std.specs.Prelude.{ℕ}
use Rattle.uart_rate.specs.declared.clocks.Clocks.{Clocks}
use Rattle.uart_rate.specs.declared.config.ClockSource.{ClockSource}
use Rattle.uart_rate.specs.declared.config.ClockSource.TheVariants.{Apb, RcFast, Xtal, RefTick}

-- the hertz that a record gives a source
abbrev pub hertz_of : Clocks → ClockSource → ℕ
hertz_of c Apb = c.apb_clock
hertz_of c RcFast = c.rc_fast_clock
hertz_of c Xtal = c.xtal_clock
hertz_of c RefTick = c.ref_tick
