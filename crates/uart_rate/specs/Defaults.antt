use Rattle.std.specs.Prelude.{◌≡◌, Some}
use Rattle.uart_rate.specs.declared.config.ClockSource.{ClockSource}
use Rattle.uart_rate.specs.declared.config.Config.{Config}
use Rattle.uart_rate.specs.declared.config.BaudrateTolerance.TheVariants.{Closest}
use Rattle.uart_rate.specs.declared.config.DataBits.TheVariants as data_bits
use Rattle.uart_rate.specs.declared.config.StopBits.TheVariants as stop_bits
use Rattle.uart_rate.specs.declared.config.Parity.TheVariants as parities
use Rattle.uart_rate.specs.declared.config.SwFlowControl.TheVariants as sw
use Rattle.uart_rate.specs.declared.config.CtsConfig.TheVariants as cts
use Rattle.uart_rate.specs.declared.config.RtsConfig.TheVariants as rts

-- the settings of a caller who names only the clock source
pub record DefaultConfig (source : ClockSource) (c : Config) : Type 0 where
  pub baudrate : c.baudrate ≡ 115200
  pub tolerance : c.baudrate_tolerance ≡ Closest
  pub data_bits : c.data_bits ≡ data_bits._8
  pub parity : c.parity ≡ parities.None
  pub stop_bits : c.stop_bits ≡ stop_bits._1
  pub sw_flow : c.sw_flow_ctrl ≡ sw.Disabled
  pub cts : c.hw_flow_ctrl.cts ≡ cts.Disabled
  pub rts : c.hw_flow_ctrl.rts ≡ rts.Disabled
  pub clock_source : c.clock_source ≡ source
  pub receive_threshold : c.rx.fifo_full_threshold ≡ 120
  pub timeout : c.rx.timeout ≡ Some 10
  pub transmit_threshold : c.tx.fifo_empty_threshold ≡ 10
