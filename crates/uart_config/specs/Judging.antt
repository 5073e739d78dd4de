use Rattle.std.specs.Prelude.{◌≡◌, Bool, Ok}
use Rattle.uart_config.specs.declared.judged.Judged.{Judged}
use Rattle.uart_rate.specs.Clocks.{hertz_of}
use Rattle.uart_rate.specs.Judging.{Judges}
use Rattle.uart_rate.specs.Limits.{Limits}
use Rattle.uart_rate.specs.declared.clocks.Clocks.{Clocks}
use Rattle.uart_rate.specs.declared.config.ClockSource.{ClockSource}
use Rattle.uart_rate.specs.declared.config.Config.{Config}

-- The parts of a configuration that was judged by a record of clocks: itself, the hertz of its source, and the
-- divider that it was given. Only inner functions cite this.
pub record IsJudged (l : Limits) (sources : ClockSource → Bool) (c : Config) (clocks : Clocks) (j : Judged) : Type 0 where
  pub config : j.config.now ≡ c
  pub clk : j.clk ≡ hertz_of clocks c.clock_source
  pub divider : Judges l sources c clocks (Ok j.divider)
